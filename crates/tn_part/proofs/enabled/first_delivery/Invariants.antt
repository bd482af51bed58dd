use Rattle.std.proofs.Common.{ℕ, ◌<◌}
use Rattle.tn_part.proofs.Listed.{NoDelivery}
use Rattle.tn_part.proofs.enabled.first_delivery.Given as goal

abbrev pub invariant-loop-i : goal.invariant-loop-i
invariant-loop-i g l = (k : ℕ) → k < l.i → NoDelivery (g.M.HasParts.world l.machine) k
