use Rattle.std.proofs.Common.{◌≡◌, ◌+◌, drop, eqb}
use Rattle.std.specs.List.{position_or_len}
use Rattle.tn_text.proofs.cut.place_of.Given as goal

abbrev pub invariant-loop-i : goal.invariant-loop-i
invariant-loop-i l = l.i + position_or_len (λ b. eqb b l.byte) (drop l.i l.bytes) ≡ position_or_len (λ b. eqb b l.byte) l.bytes
