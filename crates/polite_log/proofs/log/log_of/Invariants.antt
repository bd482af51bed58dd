use Rattle.std.specs.Prelude.{◌≡◌, reverse, take}
use Rattle.polite_edges.specs.VertexLog.{vertex_log}
use Rattle.polite_log.proofs.log.log_of.Given as goal

abbrev pub invariant-loop-at : goal.invariant-loop-at
invariant-loop-at l = reverse l.log.items ≡ vertex_log (reverse (take l.at l.deeds))
