use Rattle.std.proofs.Common.{ℕ, ◌<◌}
use Rattle.tn_rows.specs.Listed.{arrivals_from}
use Rattle.tn_part.specs.First.{NoneOf}
use Rattle.tn_part.proofs.enabled.first_arrival.Given as goal

abbrev pub invariant-loop-l : goal.invariant-loop-l
invariant-loop-l g l = (k : ℕ) → k < l.l → NoneOf (g.M.HasParts.world l.machine) (arrivals_from (g.M.HasParts.world l.machine).shape k)
