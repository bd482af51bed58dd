use Rattle.std.proofs.Common.{ℕ, ◌<◌}
use Rattle.tn_part.proofs.Rests.{NoVisit}
use Rattle.tn_part.proofs.enabled.first_visit.Given as goal

abbrev pub invariant-loop-p : goal.invariant-loop-p
invariant-loop-p g l = (k : ℕ) → k < l.p → NoVisit (g.M.HasParts.world l.machine) l.visit k
