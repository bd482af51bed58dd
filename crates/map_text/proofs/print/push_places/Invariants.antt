use Rattle.std.proofs.Common.{◌≡◌, ◌++◌, flat_map}
use Rattle.std.specs.List.{range_with_len}
use Rattle.map_text.specs.Text.{vertex_line}
use Rattle.map_text.proofs.print.push_places.Given as goal

abbrev pub invariant-loop-vertex : goal.invariant-loop-vertex
invariant-loop-vertex l = l.text.items ≡ l.initial.text.items ++ flat_map (vertex_line l.graph l.placement) (range_with_len 0 l.vertex)
