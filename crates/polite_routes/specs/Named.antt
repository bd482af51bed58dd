-- The devices to which in-edges lead.
use Rattle.std.specs.Prelude.{ℕ, ◌≡◌, ◌<◌, List, [], length, slice_index_or}
use Rattle.tn_base.specs.declared.shape.ShapeNumbers.{ShapeNumbers}
use Rattle.tn_base.specs.Address.{thread_at}
use Rattle.tn_base.specs.Shape.{thread_count}
use Rattle.graph_text.specs.declared.graph.Graph.{Graph}
use Rattle.graph_text.specs.Graph.{pins_at}
use Rattle.polite_place.specs.declared.placement.Seat.{Seat}
use Rattle.polite_place.specs.Seats.{devices_on}
use Rattle.polite_switch.specs.Device.{AllNamed}
use Rattle.polite_routes.specs.declared.routes.RouteSet.{RouteSet}

-- each in-edge of a thread leads to one of the thread's devices, and each pin of a vertex has an entry among the vertex's keys
pub record AllLead (n : ShapeNumbers) (graph : Graph) (placement : List Seat) (set : RouteSet) : Type 0 where
  pub named : (i : ℕ) → i < thread_count n → AllNamed (devices_on placement (thread_at n i)) (slice_index_or set.in_edges i [])
  pub pins : (v : ℕ) → v < length graph.vertices → length (slice_index_or set.keys v []) ≡ pins_at graph v
