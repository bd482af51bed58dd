use Rattle.std.proofs.Common.{ℕ, ◌<◌}
use Rattle.tn_part.proofs.Listed.{NoTurn}
use Rattle.tn_part.proofs.enabled.first_turn.Given as goal

abbrev pub invariant-loop-i : goal.invariant-loop-i
invariant-loop-i g l = (k : ℕ) → k < l.i → NoTurn (g.M.HasParts.world l.machine) k
