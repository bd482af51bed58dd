-- The pins of a graph's vertices, and to which threads their edges lead.
use Rattle.std.specs.Prelude.{ℕ, ◌+◌, ◌*◌, ◌/◌, ◌%◌, ◌==◌, ◌&&◌, Bool, List, length, map, slice_index_or}
use Rattle.std.specs.List.{filter, range_with_len}
use Rattle.tn_base.specs.declared.ids.Board.{Board}
use Rattle.graph_text.specs.declared.graph.EdgeRow.{EdgeRow}
use Rattle.graph_text.specs.declared.graph.Graph.{Graph}
use Rattle.polite_place.specs.declared.placement.Seat.{Seat}
use Rattle.polite_place.specs.Seats.{seat_of}
use Rattle.polite_routes.specs.declared.target.Pin.{Pin}
use Rattle.polite_routes.specs.declared.target.Target.{Target}

-- the edge at a place
abbrev pub edge_row : List EdgeRow → ℕ → EdgeRow
edge_row edges k = slice_index_or edges k (record { line = 0; from = 0; pin = 0; to = 0; value = 0 })

-- the edge comes from this pin of this vertex
abbrev pub comes_from : ℕ → ℕ → EdgeRow → Bool
comes_from v pin e = e.from == v && e.pin == pin

-- of the first edges, the places of those of a pin, in order
abbrev pub first_edges : List EdgeRow → ℕ → ℕ → ℕ → List ℕ
first_edges edges count v pin = filter (λ k. comes_from v pin (edge_row edges k)) (range_with_len 0 count)

-- the places of the edges of a pin, in order of lines
abbrev pub edges_of : List EdgeRow → ℕ → ℕ → List ℕ
edges_of edges v pin = first_edges edges (length edges) v pin

-- where an edge leads: the thread of its vertex, and there the device, with the edge's value and place
abbrev pub target_at : List Seat → ℕ → EdgeRow → Target
target_at placement k e = record {
  thread = (seat_of placement e.to).thread;
  edge = record { device = (seat_of placement e.to).device; value = e.value; edge = k };
}

abbrev pub target_of : List EdgeRow → List Seat → ℕ → Target
target_of edges placement k = target_at placement k (edge_row edges k)

-- where the edges of a pin lead, in order of lines
abbrev pub targets_of : List EdgeRow → List Seat → ℕ → ℕ → List Target
targets_of edges placement v pin = map (target_of edges placement) (edges_of edges v pin)

-- the board of a thread
abbrev pub board_of : ℕ → Board
board_of a = record { x = a / 1024 % 4; y = a / 4096 % 4 }

abbrev pub pin_with : List Seat → ℕ → List Target → Pin
pin_with placement v targets = record { board = board_of (seat_of placement v).thread.0; targets = targets }

-- the place of a vertex's pin among all pins: each vertex has places for four pins
abbrev pub pin_place : ℕ → ℕ → ℕ
pin_place v pin = v * 4 + pin

-- all pins by vertex and pin, with the first edges alone
unfoldable pub first_pins : ℕ → List EdgeRow → ℕ → List Seat → List Pin
first_pins vertices edges count placement =
    map (λ j. pin_with placement (j / 4) (map (target_of edges placement) (first_edges edges count (j / 4) (j % 4)))) (range_with_len 0 (vertices * 4))

-- all pins by vertex and pin, with their edges. A pin that a vertex does not have has no edges
abbrev pub pins_of : Graph → List Seat → List Pin
pins_of graph placement = first_pins (length graph.vertices) graph.edges (length graph.edges) placement
