-- The flits of a graph are those that its line gives.
use Rattle.std.proofs.Common.{◌≡◌, ℕ, ◌+◌, ◌==◌, ◌&&◌, Bool, true, false, List, [], ◌∷◌, length, nat_le, nat_lt, is_some, slice_index, codes, bytes_eq, IfOk, Option, Some, None, sym, ap}
use Rattle.std.specs.declared.result.Result.{Result}
use Rattle.std.specs.declared.result.Result.TheVariants.{Ok, Err}
use Rattle.std.proofs.lemmas.Result.{IfOk-at_ok}
use Rattle.tn_text.specs.declared.numbers.Numeral.{Numeral}
use Rattle.tn_text.specs.declared.numbers.Numeral.TheVariants.{Value, TooLarge, NoNumber}
use Rattle.tn_text.specs.declared.stop.Fault.{Fault}
use Rattle.tn_text.specs.declared.stop.Stop.{Stop}
use Rattle.tn_text.specs.Content.{content_of, is_plain}
use Rattle.tn_text.specs.Gives.{Gives}
use Rattle.tn_text.specs.NumberLists.{numbers_in}
use Rattle.tn_text.specs.Reading.{and_on, built_from, line_says, taken_by}
use Rattle.tn_text.specs.Words.{words_of}
use Rattle.graph_text.specs.declared.graph.Graph.{Graph}
use Rattle.graph_text.specs.declared.graph.GraphKind.{GraphKind}
use Rattle.graph_text.specs.declared.graph.GraphKind.TheVariants.{BadLine}
use Rattle.graph_text.specs.declared.line.EdgeLine.{EdgeLine}
use Rattle.graph_text.specs.declared.line.GraphLine.{GraphLine}
use Rattle.graph_text.specs.declared.line.GraphLine.TheVariants.{Kind, Vertex, Edge}
use Rattle.graph_text.specs.declared.line.Head.{Head}
use Rattle.graph_text.specs.declared.line.KindLine.{KindLine}
use Rattle.graph_text.specs.declared.line.VertexLine.{VertexLine}
use Rattle.graph_text.specs.Graph.{pins_at, words_at}
use Rattle.graph_text.specs.Line.{content_line, given, head_line, head_with, within}
use Rattle.graph_text.specs.Text.{edge_added, edge_between, empty_graph, graph_of, head_of, kind_added, kind_names, line_added, place_of, rows_of, vertex_added, vertex_names, vertex_of, whole, whole_of}
use Rattle.graph_text.proofs.LineFits.{bind_ok, if_ok}
use Rattle.graph_text.specs.Flits.{first_number, lines_flits, words_flits}

-- The graph's line.

abbrev Says : ℕ → Head → Type 0
Says k head = head.flits ≡ k

given_value : {V : Type 0} (b : Bool) (n : Numeral V) (v : V) → given b n ≡ Ok v → n ≡ Value v
given_value true (Value w) v e = let same : w ≡ v = cc in ap Value same
given_value true TooLarge v e = absurd cc
given_value true NoNumber v e = absurd cc
given_value false n v e = absurd cc

line_says_flits : (words : List (List ℕ)) → IfOk (head_line words) (Says (words_flits words))
line_says_flits [] = tt
line_says_flits (word ∷ words) =
    bind_ok (Says (words_flits (word ∷ words))) (given (bytes_eq word (codes "graph")) (numbers_in 2 words)) (λ ns. head_with (slice_index ns 0) (slice_index ns 1))
    (λ ns e. if_ok (Says (words_flits (word ∷ words))) (within 1 8 (slice_index ns 0) && within 1 64 (slice_index ns 1)) _ _
    (λ _. sym (ap first_number (given_value (bytes_eq word (codes "graph")) (numbers_in 2 words) ns e)))
    (λ _. tt))

head_says : (line : List ℕ) → IfOk (head_of line) (Says (words_flits (words_of (content_of line))))
head_says line = if_ok (Says (words_flits (words_of (content_of line)))) (is_plain line) _ _ (λ _. line_says_flits (words_of (content_of line))) (λ _. tt)

-- The lines behind it change no flits.

abbrev Keeps : ℕ → Graph → Type 0
Keeps k graph = graph.flits ≡ k

kind_keeps : (k n : ℕ) (line : KindLine) (g : Graph) → Keeps k g → IfOk (kind_added n line g) (Keeps k)
kind_keeps k n line g h =
    if_ok (Keeps k) (is_some (place_of line.name (kind_names g))) _ _ (λ _. tt)
    (λ _. if_ok (Keeps k) (nat_lt (length g.kinds) 64) _ _ (λ _. h) (λ _. tt))

vertex_keeps_at : (k n : ℕ) (line : VertexLine) (g : Graph) (o : Option ℕ) → Keeps k g → IfOk (vertex_of n line g o) (Keeps k)
vertex_keeps_at k n line g None h = tt
vertex_keeps_at k n line g (Some kind) h =
    if_ok (Keeps k) (nat_le (length line.words) (words_at g kind) && nat_lt (length g.vertices) 65536) _ _ (λ _. h) (λ _. tt)

vertex_keeps : (k n : ℕ) (line : VertexLine) (g : Graph) → Keeps k g → IfOk (vertex_added n line g) (Keeps k)
vertex_keeps k n line g h =
    if_ok (Keeps k) (is_some (place_of line.name (vertex_names g))) _ _ (λ _. tt)
    (λ _. vertex_keeps_at k n line g (place_of line.kind (kind_names g)) h)

edge_keeps_at : (k n : ℕ) (line : EdgeLine) (g : Graph) (from to : Option ℕ) → Keeps k g → IfOk (edge_between n line g from to) (Keeps k)
edge_keeps_at k n line g None to h = tt
edge_keeps_at k n line g (Some from) None h = tt
edge_keeps_at k n line g (Some from) (Some to) h =
    if_ok (Keeps k) (nat_lt line.pin (pins_at g from)) _ _
    (λ _. if_ok (Keeps k) (nat_lt (length g.edges) 262144) _ _ (λ _. h) (λ _. tt))
    (λ _. tt)

line_keeps : (k n : ℕ) (line : GraphLine) (g : Graph) → Keeps k g → IfOk (line_added n line g) (Keeps k)
line_keeps k n (Kind line) g h = kind_keeps k n line g h
line_keeps k n (Vertex line) g h = vertex_keeps k n line g h
line_keeps k n (Edge line) g h = edge_keeps_at k n line g (place_of line.from (vertex_names g)) (place_of line.to (vertex_names g)) h

taken_keeps : (k n : ℕ) (g : Graph) (said : Result (Option GraphLine) GraphKind) → Keeps k g → IfOk (taken_by line_added n g said) (Keeps k)
taken_keeps k n g (Ok (Some line)) h = line_keeps k n line g h
taken_keeps k n g (Ok None) h = h
taken_keeps k n g (Err kind) h = tt

and_keeps : (k n : ℕ) (r : Result Graph GraphKind) (f : Graph → Result Graph (Fault GraphKind)) → IfOk r (Keeps k) → ((g : Graph) → Keeps k g → IfOk (f g) (Keeps k)) → IfOk (and_on n r f) (Keeps k)
and_keeps k n (Ok g) f h more = more g h
and_keeps k n (Err kind) f h more = tt

built_keeps : (k n : ℕ) (lines : List (List ℕ)) (g : Graph) → Keeps k g → IfOk (built_from (line_says BadLine content_line) line_added n lines g) (Keeps k)
built_keeps k n [] g h = h
built_keeps k n (l ∷ ls) g h =
    and_keeps k n (taken_by line_added n g (line_says BadLine content_line l)) (λ t. built_from (line_says BadLine content_line) line_added (n + 1) ls t)
    (taken_keeps k n g (line_says BadLine content_line l) h) (λ t kept. built_keeps k (n + 1) ls t kept)

-- The whole text.

whole_keeps : (k first : ℕ) (g : Graph) → Keeps k g → IfOk (whole first g) (Keeps k)
whole_keeps k first g h =
    if_ok (Keeps k) (length g.kinds == 0) _ _ (λ _. tt)
    (λ _. if_ok (Keeps k) (length g.vertices == 0) _ _ (λ _. tt) (λ _. h))

whole_of_keeps : (k first : ℕ) (r : Result Graph (Fault GraphKind)) → IfOk r (Keeps k) → IfOk (whole_of first r) (Keeps k)
whole_of_keeps k first (Ok g) h = whole_keeps k first g h
whole_of_keeps k first (Err fault) h = tt

rows_keep : (k first : ℕ) (r : Result Head GraphKind) (lines : List (List ℕ)) → IfOk r (Says k) → IfOk (rows_of first r lines) (Keeps k)
rows_keep k first (Ok head) lines h = whole_of_keeps k first _ (built_keeps k (first + 1) lines (empty_graph head) h)
rows_keep k first (Err kind) lines h = tt

text_keeps : (first : ℕ) (lines : List (List ℕ)) → IfOk (graph_of first lines) (Keeps (lines_flits lines))
text_keeps first [] = tt
text_keeps first (l ∷ ls) = rows_keep (words_flits (words_of (content_of l))) first (head_of l) ls (head_says l)

pub flits_said : (first : ℕ) (lines : List (List ℕ)) (g : Graph) → graph_of first lines ≡ Ok g → g.flits ≡ lines_flits lines
flits_said first lines g e = IfOk-at_ok (Keeps (lines_flits lines)) e (text_keeps first lines)

pub gives_flits : (first : ℕ) (lines : List (List ℕ)) (result : Result Graph (Stop (Fault GraphKind))) → Gives result (graph_of first lines) → IfOk result (λ graph. graph.flits ≡ lines_flits lines)
gives_flits first lines (Ok g) e = flits_said first lines g e
gives_flits first lines (Err stop) e = tt
