use Rattle.std.proofs.Common.{ℕ, ◌<◌}
use Rattle.tn_part.proofs.Listed.{NoDeparture}
use Rattle.tn_part.proofs.enabled.departure_from.Given as goal

abbrev pub invariant-loop-l : goal.invariant-loop-l
invariant-loop-l g l = (k : ℕ) → k < l.l → NoDeparture (g.M.HasParts.world l.machine) l.p k
