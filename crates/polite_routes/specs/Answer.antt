-- What routes are: the tables, the keys by vertex and pin, and the in-edges by thread and local key.
use Rattle.std.specs.Prelude.{ℕ, ◌≡◌, ◌<◌, ◌↔◌, List, [], length, map, slice_index_or, if◌then◌else◌}
use Rattle.std.specs.List.{range_with_len}
use Rattle.std.specs.declared.option.Option.{Option}
use Rattle.std.specs.declared.option.Option.TheVariants.{None}
use Rattle.std.specs.declared.result.Result.{Result}
use Rattle.std.specs.declared.result.Result.TheVariants.{Ok, Err}
use Rattle.tn_base.specs.declared.shape.ShapeNumbers.{ShapeNumbers}
use Rattle.tn_base.specs.Address.{thread_at}
use Rattle.tn_base.specs.Shape.{thread_count}
use Rattle.graph_text.specs.declared.graph.Graph.{Graph}
use Rattle.graph_text.specs.Graph.{pins_at}
use Rattle.polite_switch.specs.declared.device.InEdge.{InEdge}
use Rattle.polite_place.specs.declared.placement.Seat.{Seat}
use Rattle.polite_place.specs.Seats.{place_in, seat_of}
use Rattle.polite_routes.specs.declared.routes.RouteSet.{RouteSet}
use Rattle.polite_routes.specs.declared.target.Pin.{Pin}
use Rattle.polite_routes.specs.declared.target.RouteStop.{RouteStop}
use Rattle.polite_routes.specs.declared.target.RouteStop.TheVariants.{KeysFull, Memory, TableFull}
use Rattle.polite_routes.specs.Full.{is_full}
use Rattle.polite_routes.specs.Once.{Lists}
use Rattle.polite_routes.specs.Pins.{board_of, edges_of, pin_place, pins_of, targets_of}
use Rattle.polite_routes.specs.Routes.{PinRouted, in_edges_of, key_at, keys_full, tables_of}

-- the keys of a vertex's pins, in order
abbrev pub vertex_keys : ShapeNumbers → Graph → List Pin → ℕ → List (Option ℕ)
vertex_keys n graph pins v = map (λ pin. key_at n pins (pin_place v pin)) (range_with_len 0 (pins_at graph v))

-- the key of a vertex's pin, in a list of the keys of all pins
abbrev pub listed_key : List (Option ℕ) → ℕ → ℕ → Option ℕ
listed_key keys v pin = slice_index_or keys (pin_place v pin) None

-- the keys by vertex and pin
unfoldable pub keys_of : ShapeNumbers → Graph → List Pin → List (List (Option ℕ))
keys_of n graph pins = map (vertex_keys n graph pins) (range_with_len 0 (length graph.vertices))

-- the routes of these pins, or what is full: keys first, then tables
abbrev pub routes_by : ShapeNumbers → Graph → List Pin → Result RouteSet RouteStop
routes_by n graph pins =
    if keys_full pins then Err KeysFull
    else if is_full (tables_of n pins) then Err TableFull
    else Ok (record { tables = tables_of n pins; keys = keys_of n graph pins; in_edges = in_edges_of n pins })

abbrev pub routes_of : ShapeNumbers → Graph → List Seat → Result RouteSet RouteStop
routes_of n graph placement = routes_by n graph (pins_of graph placement)

-- what a call answers, unless memory ran out
abbrev pub Routes : Result RouteSet RouteStop → Result RouteSet RouteStop → Type 0
Routes (Ok set) answer = Ok set ≡ answer
Routes (Err KeysFull) answer = Err KeysFull ≡ answer
Routes (Err TableFull) answer = Err TableFull ≡ answer
Routes (Err Memory) answer = Unit {0}

-- the key of a vertex's pin
abbrev pub pin_key : List (List (Option ℕ)) → ℕ → ℕ → Option ℕ
pin_key keys v pin = slice_index_or (slice_index_or keys v []) pin None

-- a key is there for exactly the pins that have edges
pub record KeyedByEdges (graph : Graph) (keys : List (List (Option ℕ))) : Type 0 where
  pub none : (v pin : ℕ) → v < length graph.vertices → pin < pins_at graph v → (pin_key keys v pin ≡ None) ↔ (edges_of graph.edges v pin ≡ [])

-- the place of a thread among all threads by ascending address; if the machine has no such thread, the number of its threads
abbrev pub thread_place : ShapeNumbers → ℕ → ℕ
thread_place n a = place_in (map (thread_at n) (range_with_len 0 (thread_count n))) a

-- the in-edges of the thread of an address at a local key, out of in-edges by thread and local key. An address of no thread has none
abbrev pub lists_in : ShapeNumbers → List (List (List InEdge)) → Lists
lists_in n in_edges a local = slice_index_or (slice_index_or in_edges (thread_place n a) []) local []

-- what the key of a vertex's pin reaches, with the in-edge lists, is exactly the pin's edges, each once; the branches of the pin's tree
-- are straight. `locals` has the local keys of the tree by tile
pub record Served (n : ShapeNumbers) (graph : Graph) (placement : List Seat) (set : RouteSet) (v pin : ℕ) : Type 0 where
  pub locals : ℕ → ℕ
  pub routed : PinRouted n set.tables (lists_in n set.in_edges) (board_of (seat_of placement v).thread.0) (pin_key set.keys v pin) (targets_of graph.edges placement v pin) locals

pub record AllServed (n : ShapeNumbers) (graph : Graph) (placement : List Seat) (set : RouteSet) : Type 0 where
  pub served : (v pin : ℕ) → v < length graph.vertices → pin < pins_at graph v → Served n graph placement set v pin
