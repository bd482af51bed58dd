use Rattle.std.proofs.Common.{ℕ, ◌<◌}
use Rattle.tn_rows.specs.Listed.{departures_from}
use Rattle.tn_part.specs.First.{NoneOf}
use Rattle.tn_part.proofs.enabled.first_departure.Given as goal

abbrev pub invariant-loop-p : goal.invariant-loop-p
invariant-loop-p g l = (k : ℕ) → k < l.p → NoneOf (g.M.HasParts.world l.machine) (departures_from (g.M.HasParts.world l.machine).shape k)
