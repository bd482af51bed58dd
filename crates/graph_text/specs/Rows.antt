-- A graph by its lines: each line of a kind, a vertex or an edge gives one row.
use Rattle.std.specs.Prelude.{◌≡◌, ℕ, ◌+◌, List, [], ◌∷◌, Option, Some, None, flat_map}
use Rattle.std.specs.declared.result.Result.{Result}
use Rattle.std.specs.declared.result.Result.TheVariants.{Ok, Err}
use Rattle.tn_text.specs.declared.stop.Fault.{Fault}
use Rattle.tn_text.specs.Reading.{line_says, read_from}
use Rattle.graph_text.specs.declared.graph.KindRow.{KindRow}
use Rattle.graph_text.specs.declared.graph.VertexRow.{VertexRow}
use Rattle.graph_text.specs.declared.graph.EdgeRow.{EdgeRow}
use Rattle.graph_text.specs.declared.graph.Graph.{Graph}
use Rattle.graph_text.specs.declared.graph.GraphKind.{GraphKind}
use Rattle.graph_text.specs.declared.graph.GraphKind.TheVariants.{BadLine}
use Rattle.graph_text.specs.declared.line.EdgeLine.{EdgeLine}
use Rattle.graph_text.specs.declared.line.GraphLine.{GraphLine}
use Rattle.graph_text.specs.declared.line.GraphLine.TheVariants.{Kind, Vertex, Edge}
use Rattle.graph_text.specs.declared.line.VertexLine.{VertexLine}
use Rattle.graph_text.specs.Graph.{words_at}
use Rattle.graph_text.specs.Line.{content_line}
use Rattle.graph_text.specs.Text.{kind_names, vertex_names, place_of, padded}

-- what a line says, with the line's number
abbrev pub numbered : ℕ → Result (Option GraphLine) GraphKind → Result (Option (ℕ × GraphLine)) GraphKind
numbered number (Ok (Some line)) = Ok (Some (number, line))
numbered number (Ok None) = Ok None
numbered number (Err kind) = Err kind

abbrev pub numbered_line : ℕ → List ℕ → Result (Option (ℕ × GraphLine)) GraphKind
numbered_line number line = numbered number (line_says BadLine content_line line)

-- what the lines after the graph's line say
abbrev pub said_lines : ℕ → List (List ℕ) → Result (List (ℕ × GraphLine)) (Fault GraphKind)
said_lines first [] = Ok []
said_lines first (l ∷ ls) = read_from numbered_line (first + 1) ls

abbrev pub kind_rows : ℕ → GraphLine → List KindRow
kind_rows number (Kind line) = record { line = number; name = line.name; pins = line.pins; words = line.words } ∷ []
kind_rows number (Vertex line) = []
kind_rows number (Edge line) = []

abbrev pub vertex_of_kind : Graph → ℕ → VertexLine → Option ℕ → List VertexRow
vertex_of_kind graph number line (Some kind) = record { line = number; name = line.name; kind = kind; words = padded (words_at graph kind) line.words } ∷ []
vertex_of_kind graph number line None = []

abbrev pub vertex_rows : Graph → ℕ → GraphLine → List VertexRow
vertex_rows graph number (Kind line) = []
vertex_rows graph number (Vertex line) = vertex_of_kind graph number line (place_of line.kind (kind_names graph))
vertex_rows graph number (Edge line) = []

abbrev pub edge_of_vertices : ℕ → EdgeLine → Option ℕ → Option ℕ → List EdgeRow
edge_of_vertices number line (Some from) (Some to) = record { line = number; from = from; pin = line.pin; to = to; value = line.value } ∷ []
edge_of_vertices number line (Some from) None = []
edge_of_vertices number line None to = []

abbrev pub edge_rows : Graph → ℕ → GraphLine → List EdgeRow
edge_rows graph number (Kind line) = []
edge_rows graph number (Vertex line) = []
edge_rows graph number (Edge line) = edge_of_vertices number line (place_of line.from (vertex_names graph)) (place_of line.to (vertex_names graph))

-- the rows are those of the lines, in order; names are those of rows of this graph
pub record IsSaidBy (graph : Graph) (said : List (ℕ × GraphLine)) : Type 0 where
  pub kinds : graph.kinds ≡ flat_map (λ s. kind_rows s.0 s.1) said
  pub vertices : graph.vertices ≡ flat_map (λ s. vertex_rows graph s.0 s.1) said
  pub edges : graph.edges ≡ flat_map (λ s. edge_rows graph s.0 s.1) said

-- no line is at fault by itself, and the graph is what they say
abbrev pub IsSaid : Graph → Result (List (ℕ × GraphLine)) (Fault GraphKind) → Type 0
IsSaid graph (Ok said) = IsSaidBy graph said
IsSaid graph (Err fault) = ⊥
