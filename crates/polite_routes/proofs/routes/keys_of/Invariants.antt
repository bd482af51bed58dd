use Rattle.std.proofs.Common.{◌≡◌, map}
use Rattle.std.specs.List.{range_with_len}
use Rattle.polite_routes.specs.Answer.{vertex_keys}
use Rattle.polite_routes.proofs.routes.keys_of.Given as goal

abbrev pub invariant-loop-vertex : goal.invariant-loop-vertex
invariant-loop-vertex l = l.vertices.items ≡ map (vertex_keys l.shape l.graph l.pins) (range_with_len 0 l.vertex)
