use Rattle.std.proofs.Common.{◌≡◌, ◌+◌, drop}
use Rattle.std.specs.List.{position_or_len}
use Rattle.tn_text.specs.Content.{is_space}
use Rattle.tn_text.proofs.words.word_end.Given as goal

abbrev pub invariant-loop-i : goal.invariant-loop-i
invariant-loop-i l = l.i + position_or_len is_space (drop l.i l.bytes) ≡ position_or_len is_space l.bytes
