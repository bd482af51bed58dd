use Rattle.std.proofs.Common.{◌≡◌, ◌++◌, drop, flat_map}
use Rattle.std.specs.Int.{to_le_bytes, w32}
use Rattle.polite_start.proofs.state.push_words.Given as goal

abbrev pub invariant-loop-word : goal.invariant-loop-word
invariant-loop-word l = l.image.items ++ flat_map (to_le_bytes w32) (drop l.word-index l.words) ≡ l.initial.image.items ++ flat_map (to_le_bytes w32) l.words
