use Rattle.std.proofs.Common.{◌≡◌, length}
use Rattle.polite_routes.specs.Pins.{first_pins}
use Rattle.polite_routes.proofs.pins.add_edges.Given as goal

abbrev pub invariant-loop-place : goal.invariant-loop-place
invariant-loop-place l = l.pins ≡ first_pins (length l.graph.vertices) l.graph.edges l.place l.placement
