-- What a text says: a graph is what its lines say, in order.
use Rattle.std.specs.Prelude.{ℕ, ◌+◌, ◌-◌, ◌==◌, ◌&&◌, nat_le, nat_lt, List, [], ◌∷◌, ◌++◌, length, map, replicate, position, is_some, if◌then◌else◌, Option, Some, None, bytes_eq}
use Rattle.std.specs.declared.result.Result.{Result}
use Rattle.std.specs.declared.result.Result.TheVariants.{Ok, Err}
use Rattle.tn_text.specs.declared.stop.Fault.{Fault}
use Rattle.tn_text.specs.Content.{content_of, is_plain}
use Rattle.tn_text.specs.Gives.{fault_on}
use Rattle.tn_text.specs.Reading.{line_says, built_from}
use Rattle.tn_text.specs.Words.{words_of}
use Rattle.graph_text.specs.declared.graph.KindRow.{KindRow}
use Rattle.graph_text.specs.declared.graph.VertexRow.{VertexRow}
use Rattle.graph_text.specs.declared.graph.Graph.{Graph}
use Rattle.graph_text.specs.declared.graph.GraphKind.{GraphKind}
use Rattle.graph_text.specs.declared.graph.GraphKind.TheVariants.{BadLine, Twice, NoKind, NoVertex, NoPin, TooMany}
use Rattle.graph_text.specs.declared.line.KindLine.{KindLine}
use Rattle.graph_text.specs.declared.line.VertexLine.{VertexLine}
use Rattle.graph_text.specs.declared.line.EdgeLine.{EdgeLine}
use Rattle.graph_text.specs.declared.line.GraphLine.{GraphLine}
use Rattle.graph_text.specs.declared.line.GraphLine.TheVariants.{Kind, Vertex, Edge}
use Rattle.graph_text.specs.declared.line.Head.{Head}
use Rattle.graph_text.specs.Graph.{pins_at, words_at}
use Rattle.graph_text.specs.Line.{head_line, content_line}

-- Names. Kinds and vertices have names of their own.

abbrev pub kind_names : Graph → List (List ℕ)
kind_names graph = map (λ (row : KindRow). row.name) graph.kinds

abbrev pub vertex_names : Graph → List (List ℕ)
vertex_names graph = map (λ (row : VertexRow). row.name) graph.vertices

-- the place of the first such name
abbrev pub place_of : List ℕ → List (List ℕ) → Option ℕ
place_of name names = position (bytes_eq name) names

-- What a line says to the graph of the lines before it.

-- at most 64 kinds
abbrev pub kind_added : ℕ → KindLine → Graph → Result Graph GraphKind
kind_added number line graph =
    if is_some (place_of line.name (kind_names graph)) then Err Twice
    else (if nat_lt (length graph.kinds) 64
    then Ok (record graph { kinds = graph.kinds ++ record { line = number; name = line.name; pins = line.pins; words = line.words } ∷ [] })
    else Err TooMany)

-- the words that a line gives, the others zero
abbrev pub padded : ℕ → List ℕ → List ℕ
padded count words = words ++ replicate (count - length words) 0

-- at most the words of the kind, and at most 65536 vertices
abbrev pub vertex_of : ℕ → VertexLine → Graph → Option ℕ → Result Graph GraphKind
vertex_of number line graph None = Err NoKind
vertex_of number line graph (Some kind) =
    if nat_le (length line.words) (words_at graph kind) && nat_lt (length graph.vertices) 65536
    then Ok (record graph { vertices = graph.vertices ++ record { line = number; name = line.name; kind = kind; words = padded (words_at graph kind) line.words } ∷ [] })
    else Err TooMany

abbrev pub vertex_added : ℕ → VertexLine → Graph → Result Graph GraphKind
vertex_added number line graph =
    if is_some (place_of line.name (vertex_names graph)) then Err Twice
    else vertex_of number line graph (place_of line.kind (kind_names graph))

-- at most 262144 edges
abbrev pub edge_between : ℕ → EdgeLine → Graph → Option ℕ → Option ℕ → Result Graph GraphKind
edge_between number line graph (Some from) (Some to) =
    if nat_lt line.pin (pins_at graph from)
    then (if nat_lt (length graph.edges) 262144
    then Ok (record graph { edges = graph.edges ++ record { line = number; from = from; pin = line.pin; to = to; value = line.value } ∷ [] })
    else Err TooMany)
    else Err NoPin
edge_between number line graph (Some from) None = Err NoVertex
edge_between number line graph None to = Err NoVertex

abbrev pub edge_added : ℕ → EdgeLine → Graph → Result Graph GraphKind
edge_added number line graph =
    edge_between number line graph (place_of line.from (vertex_names graph)) (place_of line.to (vertex_names graph))

abbrev pub line_added : ℕ → GraphLine → Graph → Result Graph GraphKind
line_added number (Kind line) graph = kind_added number line graph
line_added number (Vertex line) graph = vertex_added number line graph
line_added number (Edge line) graph = edge_added number line graph

-- The whole text.

-- a graph without rows
abbrev pub empty_graph : Head → Graph
empty_graph head = record { flits = head.flits; per_thread = head.per_thread; kinds = []; vertices = []; edges = [] }

-- the graph's line, which is not blank
abbrev pub head_of : List ℕ → Result Head GraphKind
head_of line = if is_plain line then head_line (words_of (content_of line)) else Err BadLine

-- a graph has a kind and a vertex; else the graph's line is at fault
abbrev pub whole : ℕ → Graph → Result Graph (Fault GraphKind)
whole first graph =
    if length graph.kinds == 0 then Err (fault_on first NoKind)
    else (if length graph.vertices == 0 then Err (fault_on first NoVertex) else Ok graph)

abbrev pub whole_of : ℕ → Result Graph (Fault GraphKind) → Result Graph (Fault GraphKind)
whole_of first (Ok graph) = whole first graph
whole_of first (Err fault) = Err fault

abbrev pub rows_of : ℕ → Result Head GraphKind → List (List ℕ) → Result Graph (Fault GraphKind)
rows_of first (Err kind) lines = Err (fault_on first kind)
rows_of first (Ok head) lines = whole_of first (built_from (line_says BadLine content_line) line_added (first + 1) lines (empty_graph head))

-- the graph that lines say, the first of them being the graph's line with this number, or the first line at fault
abbrev pub graph_of : ℕ → List (List ℕ) → Result Graph (Fault GraphKind)
graph_of first [] = Err (fault_on first BadLine)
graph_of first (l ∷ ls) = rows_of first (head_of l) ls
