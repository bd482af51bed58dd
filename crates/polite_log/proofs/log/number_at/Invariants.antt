use Rattle.std.specs.Prelude.{◌≡◌, ◌≤◌, length, reverse, take}
use Rattle.polite_edges.specs.VertexLog.{number_at}
use Rattle.polite_log.proofs.log.number_at.Given as goal

abbrev pub invariant-loop-at : goal.invariant-loop-at
invariant-loop-at l = (l.at ≤ length l.deeds) × (number_at l.origin l.number (reverse (take l.at l.deeds)) ≡ number_at l.origin l.number (reverse l.deeds))

abbrev pub decreases-loop-at : goal.decreases-loop-at
decreases-loop-at l = l.at
