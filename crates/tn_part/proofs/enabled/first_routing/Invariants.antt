use Rattle.std.proofs.Common.{ℕ, ◌<◌}
use Rattle.tn_part.proofs.Listed.{NoRouting}
use Rattle.tn_part.proofs.enabled.first_routing.Given as goal

abbrev pub invariant-loop-p : goal.invariant-loop-p
invariant-loop-p g l = (k : ℕ) → k < l.p → NoRouting (g.M.HasParts.world l.machine) k
