-- What holds of each graph that is read: what placement and routes need.
use Rattle.std.specs.Prelude.{◌≡◌, ℕ, ◌<◌, ◌≤◌, true, length, Option, Some, None, slice_get}
use Rattle.std.specs.List.{All}
use Rattle.tn_text.specs.Names.{is_name}
use Rattle.graph_text.specs.declared.graph.KindRow.{KindRow}
use Rattle.graph_text.specs.declared.graph.VertexRow.{VertexRow}
use Rattle.graph_text.specs.declared.graph.EdgeRow.{EdgeRow}
use Rattle.graph_text.specs.declared.graph.Graph.{Graph}

abbrev pub pins_of : Option KindRow → ℕ
pins_of (Some kind) = kind.pins
pins_of None = 0

abbrev pub words_of_kind : Option KindRow → ℕ
words_of_kind (Some kind) = kind.words
words_of_kind None = 0

-- the words of a vertex of the kind at this place; no kind has none
abbrev pub words_at : Graph → ℕ → ℕ
words_at graph kind = words_of_kind (slice_get graph.kinds kind)

abbrev pub vertex_pins : Graph → Option VertexRow → ℕ
vertex_pins graph (Some vertex) = pins_of (slice_get graph.kinds vertex.kind)
vertex_pins graph None = 0

-- the pins of the vertex at this place: those of its kind; no vertex has none
abbrev pub pins_at : Graph → ℕ → ℕ
pins_at graph vertex = vertex_pins graph (slice_get graph.vertices vertex)

-- a kind has at most 4 pins, and its vertices 1 to 16 words
pub record IsKind (kind : KindRow) : Type 0 where
  pub named : is_name kind.name ≡ true
  pub pins : kind.pins ≤ 4
  pub some_words : 1 ≤ kind.words
  pub words : kind.words ≤ 16

-- a vertex is of a kind of the graph, and has all its words
pub record IsVertex (graph : Graph) (vertex : VertexRow) : Type 0 where
  pub named : is_name vertex.name ≡ true
  pub kind : vertex.kind < length graph.kinds
  pub words : length vertex.words ≡ words_at graph vertex.kind

-- an edge joins vertices of the graph, from a pin that the first has
pub record IsEdge (graph : Graph) (edge : EdgeRow) : Type 0 where
  pub from : edge.from < length graph.vertices
  pub to : edge.to < length graph.vertices
  pub pin : edge.pin < pins_at graph edge.from

pub record IsGraph (graph : Graph) : Type 0 where
  pub some_flits : 1 ≤ graph.flits
  pub flits : graph.flits ≤ 8
  pub some_devices : 1 ≤ graph.per_thread
  pub devices : graph.per_thread ≤ 64
  pub some_kinds : 1 ≤ length graph.kinds
  pub kinds_fit : length graph.kinds ≤ 64
  pub some_vertices : 1 ≤ length graph.vertices
  pub vertices_fit : length graph.vertices ≤ 65536
  pub edges_fit : length graph.edges ≤ 262144
  pub kinds : All IsKind graph.kinds
  pub vertices : All (IsVertex graph) graph.vertices
  pub edges : All (IsEdge graph) graph.edges
