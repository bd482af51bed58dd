use Rattle.std.proofs.Common.{ℕ, ◌<◌}
use Rattle.tn_part.proofs.Listed.{NoArrival}
use Rattle.tn_part.proofs.enabled.arrival_from.Given as goal

abbrev pub invariant-loop-p : goal.invariant-loop-p
invariant-loop-p g l = (k : ℕ) → k < l.p → NoArrival (g.M.HasParts.world l.machine) l.l k
