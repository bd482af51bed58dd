-- What is read is a graph.
use Rattle.std.proofs.Common.{◌≡◌, ℕ, ◌+◌, ◌==◌, ◌≤◌, false, List, [], ◌∷◌, length, IfOk, Option, Some, None, arith}
use Rattle.std.specs.declared.result.Result.{Result}
use Rattle.std.specs.declared.result.Result.TheVariants.{Ok, Err}
use Rattle.std.proofs.lemmas.Result.{IfOk-at_ok}
use Rattle.std.proofs.lemmas.List.Elements.{All-nil}
use Rattle.tn_text.specs.declared.stop.Fault.{Fault}
use Rattle.tn_text.specs.declared.stop.Stop.{Stop}
use Rattle.tn_text.specs.Content.{content_of, is_plain}
use Rattle.tn_text.specs.Gives.{Gives}
use Rattle.tn_text.specs.Reading.{and_on, built_from, content_says, line_says, some_said, taken_by}
use Rattle.tn_text.specs.Words.{words_of}
use Rattle.graph_text.specs.declared.graph.Graph.{Graph}
use Rattle.graph_text.specs.declared.graph.GraphKind.{GraphKind}
use Rattle.graph_text.specs.declared.graph.GraphKind.TheVariants.{BadLine}
use Rattle.graph_text.specs.declared.line.GraphLine.{GraphLine}
use Rattle.graph_text.specs.declared.line.Head.{Head}
use Rattle.graph_text.specs.Graph.{IsGraph, IsKind, IsVertex, IsEdge}
use Rattle.graph_text.specs.Line.{content_line}
use Rattle.graph_text.specs.Text.{empty_graph, graph_of, head_of, line_added, rows_of, whole, whole_of}
use Rattle.graph_text.proofs.Grows.{IsSoFar, line_grows}
use Rattle.graph_text.proofs.LineFits.{IsHead, IsLine, head_fits, if_ok, line_fits}

abbrev IsLineOr : Option GraphLine → Type 0
IsLineOr (Some line) = IsLine line
IsLineOr None = Unit {0}

some_fits : (r : Result GraphLine GraphKind) → IfOk r IsLine → IfOk (some_said r) IsLineOr
some_fits (Ok line) h = h
some_fits (Err kind) h = tt

content_fits : (content : List ℕ) → IfOk (content_says content_line content) IsLineOr
content_fits [] = tt
content_fits (b ∷ bs) = some_fits (content_line (b ∷ bs)) (line_fits (words_of (b ∷ bs)))

said_fits : (line : List ℕ) → IfOk (line_says BadLine content_line line) IsLineOr
said_fits line = if_ok IsLineOr (is_plain line) _ _ (λ _. content_fits (content_of line)) (λ _. tt)

taken_grows : (n : ℕ) (g : Graph) (said : Result (Option GraphLine) GraphKind) → IfOk said IsLineOr → IsSoFar g → IfOk (taken_by line_added n g said) IsSoFar
taken_grows n g (Ok (Some line)) fits h = line_grows n line g fits h
taken_grows n g (Ok None) fits h = h
taken_grows n g (Err kind) fits h = tt

and_ok : (n : ℕ) (r : Result Graph GraphKind) (f : Graph → Result Graph (Fault GraphKind)) → IfOk r IsSoFar → ((g : Graph) → IsSoFar g → IfOk (f g) IsSoFar) → IfOk (and_on n r f) IsSoFar
and_ok n (Ok g) f h k = k g h
and_ok n (Err kind) f h k = tt

built_fits : (n : ℕ) (lines : List (List ℕ)) (g : Graph) → IsSoFar g → IfOk (built_from (line_says BadLine content_line) line_added n lines g) IsSoFar
built_fits n [] g h = h
built_fits n (l ∷ ls) g h =
    and_ok n (taken_by line_added n g (line_says BadLine content_line l)) (λ t. built_from (line_says BadLine content_line) line_added (n + 1) ls t)
    (taken_grows n g (line_says BadLine content_line l) (said_fits l) h) (λ t k. built_fits (n + 1) ls t k)

empty_fits : (head : Head) → IsHead head → IsSoFar (empty_graph head)
empty_fits head h = record {
  some_flits = h.some_flits;
  flits = h.flits;
  some_devices = h.some_devices;
  devices = h.devices;
  kinds_fit = omega arith;
  vertices_fit = omega arith;
  edges_fit = omega arith;
  kinds = All-nil IsKind;
  vertices = All-nil (IsVertex (empty_graph head));
  edges = All-nil (IsEdge (empty_graph head));
}

some_here : {A : Type 0} (xs : List A) → (length xs == 0) ≡ false → 1 ≤ length xs
some_here [] e = cc
some_here (x ∷ xs) e = omega arith

whole_fits : (first : ℕ) (g : Graph) → IsSoFar g → IfOk (whole first g) IsGraph
whole_fits first g h =
    if_ok IsGraph (length g.kinds == 0) _ _ (λ _. tt)
    (λ k. if_ok IsGraph (length g.vertices == 0) _ _ (λ _. tt)
    (λ v. record {
      some_flits = h.some_flits;
      flits = h.flits;
      some_devices = h.some_devices;
      devices = h.devices;
      some_kinds = some_here g.kinds k;
      kinds_fit = h.kinds_fit;
      some_vertices = some_here g.vertices v;
      vertices_fit = h.vertices_fit;
      edges_fit = h.edges_fit;
      kinds = h.kinds;
      vertices = h.vertices;
      edges = h.edges;
    }))

whole_of_fits : (first : ℕ) (r : Result Graph (Fault GraphKind)) → IfOk r IsSoFar → IfOk (whole_of first r) IsGraph
whole_of_fits first (Ok g) h = whole_fits first g h
whole_of_fits first (Err fault) h = tt

rows_fit : (first : ℕ) (r : Result Head GraphKind) (lines : List (List ℕ)) → IfOk r IsHead → IfOk (rows_of first r lines) IsGraph
rows_fit first (Ok head) lines h = whole_of_fits first _ (built_fits (first + 1) lines (empty_graph head) (empty_fits head h))
rows_fit first (Err kind) lines h = tt

head_of_fits : (line : List ℕ) → IfOk (head_of line) IsHead
head_of_fits line = if_ok IsHead (is_plain line) _ _ (λ _. head_fits (words_of (content_of line))) (λ _. tt)

graph_fits : (first : ℕ) (lines : List (List ℕ)) → IfOk (graph_of first lines) IsGraph
graph_fits first [] = tt
graph_fits first (l ∷ ls) = rows_fit first (head_of l) ls (head_of_fits l)

read_fits : (first : ℕ) (lines : List (List ℕ)) (g : Graph) → graph_of first lines ≡ Ok g → IsGraph g
read_fits first lines g e = IfOk-at_ok IsGraph e (graph_fits first lines)

pub gives_fits : (first : ℕ) (lines : List (List ℕ)) (result : Result Graph (Stop (Fault GraphKind))) → Gives result (graph_of first lines) → IfOk result IsGraph
gives_fits first lines (Ok g) e = read_fits first lines g e
gives_fits first lines (Err stop) e = tt
