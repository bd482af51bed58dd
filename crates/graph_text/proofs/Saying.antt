-- What is read is what the lines say.
use Rattle.std.proofs.Common.{◌≡◌, ℕ, ◌+◌, ◌<◌, List, [], ◌∷◌, ◌++◌, ◌==◌, ◌&&◌, nat_le, nat_lt, map, flat_map, length, IfOk, Option, Some, None, is_some, slice_get, refl, sym, ap, subst, ◌∙◌, arith, append_assoc, append-nil, length-append}
use Rattle.std.specs.declared.result.Result.{Result}
use Rattle.std.specs.declared.result.Result.TheVariants.{Ok, Err}
use Rattle.std.specs.List.{position_or_len}
use Rattle.std.specs.Str.{bytes_eq}
use Rattle.std.proofs.lemmas.Bool.{lt-ltb}
use Rattle.std.proofs.lemmas.List.{get_or_append_left, map-append}
use Rattle.std.proofs.lemmas.List.Quantifiers.{position-Some}
use Rattle.std.proofs.lemmas.List.Sums.{position_or_len_is}
use Rattle.std.proofs.lemmas.Result.{IfOk-at_ok}
use Rattle.tn_text.specs.declared.stop.Fault.{Fault}
use Rattle.tn_text.specs.declared.stop.Stop.{Stop}
use Rattle.tn_text.specs.Gives.{Gives}
use Rattle.tn_text.specs.Reading.{and_on, built_from, line_says, read_from, said_before, taken_by}
use Rattle.graph_text.specs.declared.graph.KindRow.{KindRow}
use Rattle.graph_text.specs.declared.graph.VertexRow.{VertexRow}
use Rattle.graph_text.specs.declared.graph.EdgeRow.{EdgeRow}
use Rattle.graph_text.specs.declared.graph.Graph.{Graph}
use Rattle.graph_text.specs.declared.graph.GraphKind.{GraphKind}
use Rattle.graph_text.specs.declared.graph.GraphKind.TheVariants.{BadLine}
use Rattle.graph_text.specs.declared.line.EdgeLine.{EdgeLine}
use Rattle.graph_text.specs.declared.line.GraphLine.{GraphLine}
use Rattle.graph_text.specs.declared.line.GraphLine.TheVariants.{Kind, Vertex, Edge}
use Rattle.graph_text.specs.declared.line.Head.{Head}
use Rattle.graph_text.specs.declared.line.KindLine.{KindLine}
use Rattle.graph_text.specs.declared.line.VertexLine.{VertexLine}
use Rattle.graph_text.specs.Graph.{words_of_kind, words_at, pins_at}
use Rattle.graph_text.specs.Line.{content_line}
use Rattle.graph_text.specs.Rows.{numbered, numbered_line, said_lines, kind_rows, vertex_of_kind, vertex_rows, edge_of_vertices, edge_rows, IsSaid}
use Rattle.graph_text.specs.Text.{kind_names, vertex_names, place_of, padded, kind_added, vertex_of, vertex_added, edge_between, edge_added, line_added, empty_graph, head_of, whole, whole_of, rows_of, graph_of}
use Rattle.graph_text.proofs.LineFits.{if_ok}
use Rattle.graph_text.proofs.Grows.{get_left, kind_below}

-- What a line adds.

kind_is : (n : ℕ) (line : KindLine) (g : Graph)
    → IfOk (kind_added n line g) (λ t. t ≡ record g { kinds = g.kinds ++ record { line = n; name = line.name; pins = line.pins; words = line.words } ∷ [] })
kind_is n line g =
    if_ok (λ (t : Graph). t ≡ record g { kinds = g.kinds ++ record { line = n; name = line.name; pins = line.pins; words = line.words } ∷ [] })
    (is_some (place_of line.name (kind_names g))) _ _ (λ _. tt)
    (λ _. if_ok (λ (t : Graph). t ≡ record g { kinds = g.kinds ++ record { line = n; name = line.name; pins = line.pins; words = line.words } ∷ [] })
    (nat_lt (length g.kinds) 64) _ _ (λ _. refl) (λ _. tt))

pub record AddsVertex (n : ℕ) (line : VertexLine) (g t : Graph) : Type 0 where
  pub kind : ℕ
  pub place : place_of line.kind (kind_names g) ≡ Some kind
  pub is : t ≡ record g { vertices = g.vertices ++ record { line = n; name = line.name; kind = kind; words = padded (words_at g kind) line.words } ∷ [] }

vertex_at : (n : ℕ) (line : VertexLine) (g : Graph) (o : Option ℕ) → place_of line.kind (kind_names g) ≡ o → IfOk (vertex_of n line g o) (AddsVertex n line g)
vertex_at n line g None e = tt
vertex_at n line g (Some k) e =
    if_ok (AddsVertex n line g) (nat_le (length line.words) (words_at g k) && nat_lt (length g.vertices) 65536) _ _
    (λ _. record { kind = k; place = e; is = refl }) (λ _. tt)

vertex_is : (n : ℕ) (line : VertexLine) (g : Graph) → IfOk (vertex_added n line g) (AddsVertex n line g)
vertex_is n line g =
    if_ok (AddsVertex n line g) (is_some (place_of line.name (vertex_names g))) _ _ (λ _. tt) (λ _. vertex_at n line g (place_of line.kind (kind_names g)) refl)

pub record AddsEdge (n : ℕ) (line : EdgeLine) (g t : Graph) : Type 0 where
  pub from : ℕ
  pub to : ℕ
  pub from_place : place_of line.from (vertex_names g) ≡ Some from
  pub to_place : place_of line.to (vertex_names g) ≡ Some to
  pub is : t ≡ record g { edges = g.edges ++ record { line = n; from = from; pin = line.pin; to = to; value = line.value } ∷ [] }

edge_at : (n : ℕ) (line : EdgeLine) (g : Graph) (from to : Option ℕ) → place_of line.from (vertex_names g) ≡ from → place_of line.to (vertex_names g) ≡ to
    → IfOk (edge_between n line g from to) (AddsEdge n line g)
edge_at n line g None to e f = tt
edge_at n line g (Some a) None e f = tt
edge_at n line g (Some a) (Some b) e f =
    if_ok (AddsEdge n line g) (nat_lt line.pin (pins_at g a)) _ _
    (λ _. if_ok (AddsEdge n line g) (nat_lt (length g.edges) 262144) _ _ (λ _. record { from = a; to = b; from_place = e; to_place = f; is = refl }) (λ _. tt)) (λ _. tt)

edge_is : (n : ℕ) (line : EdgeLine) (g : Graph) → IfOk (edge_added n line g) (AddsEdge n line g)
edge_is n line g = edge_at n line g (place_of line.from (vertex_names g)) (place_of line.to (vertex_names g)) refl refl

-- Names keep their places.

place_kept : (name : List ℕ) (xs ys : List (List ℕ)) (i : ℕ) → place_of name xs ≡ Some i → place_of name (xs ++ ys) ≡ Some i
place_kept name xs ys i e =
    let own = position-Some (bytes_eq name) xs i [] e in
    let at : position_or_len (bytes_eq name) (xs ++ ys) ≡ i =
    position_or_len_is (bytes_eq name) (xs ++ ys) i [] (omega (arith, length-append xs ys, own.0))
    (λ k lt. rw (get_or_append_left xs ys [] k (omega (arith, lt, own.0))) (own.2 k lt))
    (λ _. rw (get_or_append_left xs ys [] i own.0) own.1) in
    let inside = lt-ltb i (length (xs ++ ys)) (omega (arith, length-append xs ys, own.0)) in
    rw (at, inside) refl

kind_kept : (name : List ℕ) (g h : Graph) (more : List KindRow) (i : ℕ) → h.kinds ≡ g.kinds ++ more → place_of name (kind_names g) ≡ Some i → place_of name (kind_names h) ≡ Some i
kind_kept name g h more i e p =
    let names : kind_names h ≡ kind_names g ++ map (λ (row : KindRow). row.name) more =
    ap (λ (rows : List KindRow). map (λ (row : KindRow). row.name) rows) e ∙ map-append (λ (row : KindRow). row.name) g.kinds more in
    rw names (place_kept name (kind_names g) (map (λ (row : KindRow). row.name) more) i p)

vertex_kept : (name : List ℕ) (g h : Graph) (more : List VertexRow) (i : ℕ) → h.vertices ≡ g.vertices ++ more → place_of name (vertex_names g) ≡ Some i
    → place_of name (vertex_names h) ≡ Some i
vertex_kept name g h more i e p =
    let names : vertex_names h ≡ vertex_names g ++ map (λ (row : VertexRow). row.name) more =
    ap (λ (rows : List VertexRow). map (λ (row : VertexRow). row.name) rows) e ∙ map-append (λ (row : VertexRow). row.name) g.vertices more in
    rw names (place_kept name (vertex_names g) (map (λ (row : VertexRow). row.name) more) i p)

words_kept : (g h : Graph) (more : List KindRow) (kind : ℕ) → h.kinds ≡ g.kinds ++ more → kind < length g.kinds → words_at h kind ≡ words_at g kind
words_kept g h more kind e below =
    ap (λ (rows : List KindRow). words_of_kind (slice_get rows kind)) e ∙ ap words_of_kind (get_left g.kinds more kind below)

-- One line more.

abbrev kinds_of : List (ℕ × GraphLine) → List KindRow
kinds_of said = flat_map (λ s. kind_rows s.0 s.1) said

abbrev vertices_of : Graph → List (ℕ × GraphLine) → List VertexRow
vertices_of h said = flat_map (λ s. vertex_rows h s.0 s.1) said

abbrev edges_of : Graph → List (ℕ × GraphLine) → List EdgeRow
edges_of h said = flat_map (λ s. edge_rows h s.0 s.1) said

pub record Extends (g h : Graph) (said : List (ℕ × GraphLine)) : Type 0 where
  pub kinds : h.kinds ≡ g.kinds ++ flat_map (λ s. kind_rows s.0 s.1) said
  pub vertices : h.vertices ≡ g.vertices ++ flat_map (λ s. vertex_rows h s.0 s.1) said
  pub edges : h.edges ≡ g.edges ++ flat_map (λ s. edge_rows h s.0 s.1) said

kind_more : (n : ℕ) (line : KindLine) (g t h : Graph) (said : List (ℕ × GraphLine)) → kind_added n line g ≡ Ok t → Extends t h said → Extends g h ((n, Kind line) ∷ said)
kind_more n line g t h said e x =
    let row : KindRow = record { line = n; name = line.name; pins = line.pins; words = line.words } in
    let is = IfOk-at_ok (λ (t : Graph). t ≡ record g { kinds = g.kinds ++ row ∷ [] }) e (kind_is n line g) in
    let y = subst (λ (t : Graph). Extends t h said) is x in
    record { kinds = y.kinds ∙ append_assoc g.kinds (row ∷ []) (kinds_of said); vertices = y.vertices; edges = y.edges }

vertex_more : (n : ℕ) (line : VertexLine) (g t h : Graph) (said : List (ℕ × GraphLine)) → vertex_added n line g ≡ Ok t → Extends t h said → Extends g h ((n, Vertex line) ∷ said)
vertex_more n line g t h said e x =
    let adds = IfOk-at_ok (AddsVertex n line g) e (vertex_is n line g) in
    let kind = adds.kind in
    let row : VertexRow = record { line = n; name = line.name; kind = kind; words = padded (words_at g kind) line.words } in
    let y = subst (λ (t : Graph). Extends t h said) adds.is x in
    let place = kind_kept line.kind g h (kinds_of said) kind y.kinds adds.place in
    let words = words_kept g h (kinds_of said) kind y.kinds (kind_below g line.kind kind adds.place) in
    let rows : vertex_rows h n (Vertex line) ≡ row ∷ [] =
    ap (vertex_of_kind h n line) place ∙ ap (λ (count : ℕ). record { line = n; name = line.name; kind = kind; words = padded count line.words } ∷ []) words in
    record {
      kinds = y.kinds;
      vertices = y.vertices ∙ append_assoc g.vertices (row ∷ []) (vertices_of h said) ∙ ap (λ (rows : List VertexRow). g.vertices ++ (rows ++ vertices_of h said)) (sym rows);
      edges = y.edges;
    }

edge_more : (n : ℕ) (line : EdgeLine) (g t h : Graph) (said : List (ℕ × GraphLine)) → edge_added n line g ≡ Ok t → Extends t h said → Extends g h ((n, Edge line) ∷ said)
edge_more n line g t h said e x =
    let adds = IfOk-at_ok (AddsEdge n line g) e (edge_is n line g) in
    let row : EdgeRow = record { line = n; from = adds.from; pin = line.pin; to = adds.to; value = line.value } in
    let y = subst (λ (t : Graph). Extends t h said) adds.is x in
    let from = vertex_kept line.from g h (vertices_of h said) adds.from y.vertices adds.from_place in
    let to = vertex_kept line.to g h (vertices_of h said) adds.to y.vertices adds.to_place in
    let rows : edge_rows h n (Edge line) ≡ row ∷ [] =
    ap (λ (o : Option ℕ). edge_of_vertices n line o (place_of line.to (vertex_names h))) from ∙ ap (edge_of_vertices n line (Some adds.from)) to in
    record {
      kinds = y.kinds;
      vertices = y.vertices;
      edges = y.edges ∙ append_assoc g.edges (row ∷ []) (edges_of h said) ∙ ap (λ (rows : List EdgeRow). g.edges ++ (rows ++ edges_of h said)) (sym rows);
    }

line_more : (n : ℕ) (line : GraphLine) (g t h : Graph) (said : List (ℕ × GraphLine)) → line_added n line g ≡ Ok t → Extends t h said → Extends g h ((n, line) ∷ said)
line_more n (Kind line) g t h said e x = kind_more n line g t h said e x
line_more n (Vertex line) g t h said e x = vertex_more n line g t h said e x
line_more n (Edge line) g t h said e x = edge_more n line g t h said e x

-- All lines.

abbrev Reads : Graph → Graph → Result (List (ℕ × GraphLine)) (Fault GraphKind) → Type 0
Reads g h (Ok said) = Extends g h said
Reads g h (Err fault) = ⊥

reads_more : (n : ℕ) (line : GraphLine) (g t h : Graph) (rest : Result (List (ℕ × GraphLine)) (Fault GraphKind)) → line_added n line g ≡ Ok t → Reads t h rest
    → Reads g h (said_before n (Ok (Some (n, line))) rest)
reads_more n line g t h (Ok said) e x = line_more n line g t h said e x
reads_more n line g t h (Err fault) e x = absurd x

reads_line : (n : ℕ) (line : GraphLine) (g h : Graph) (f : Graph → Result Graph (Fault GraphKind)) (rest : Result (List (ℕ × GraphLine)) (Fault GraphKind)) (r : Result Graph GraphKind)
    → line_added n line g ≡ r → and_on n r f ≡ Ok h → ((t : Graph) → f t ≡ Ok h → Reads t h rest) → Reads g h (said_before n (Ok (Some (n, line))) rest)
reads_line n line g h f rest (Ok t) e b more = reads_more n line g t h rest e (more t b)
reads_line n line g h f rest (Err kind) e b more = cc

reads_said : (n : ℕ) (g h : Graph) (said : Result (Option GraphLine) GraphKind) (f : Graph → Result Graph (Fault GraphKind)) (rest : Result (List (ℕ × GraphLine)) (Fault GraphKind))
    → and_on n (taken_by line_added n g said) f ≡ Ok h → ((t : Graph) → f t ≡ Ok h → Reads t h rest) → Reads g h (said_before n (numbered n said) rest)
reads_said n g h (Ok (Some line)) f rest b more = reads_line n line g h f rest (line_added n line g) refl b more
reads_said n g h (Ok None) f rest b more = more g b
reads_said n g h (Err kind) f rest b more = cc

none_more : (g : Graph) → Extends g g []
none_more g = record { kinds = sym (append-nil g.kinds); vertices = sym (append-nil g.vertices); edges = sym (append-nil g.edges) }

reads_all : (n : ℕ) (lines : List (List ℕ)) (g h : Graph) → built_from (line_says BadLine content_line) line_added n lines g ≡ Ok h → Reads g h (read_from numbered_line n lines)
reads_all n [] g h e = let same : g ≡ h = cc in subst (λ (x : Graph). Extends g x []) same (none_more g)
reads_all n (l ∷ ls) g h e =
    reads_said n g h (line_says BadLine content_line l) (λ t. built_from (line_says BadLine content_line) line_added (n + 1) ls t) (read_from numbered_line (n + 1) ls) e
    (λ t b. reads_all (n + 1) ls t h b)

-- The text.

whole_is : (first : ℕ) (g : Graph) → IfOk (whole first g) (λ h. h ≡ g)
whole_is first g =
    if_ok (λ (h : Graph). h ≡ g) (length g.kinds == 0) _ _ (λ _. tt) (λ _. if_ok (λ (h : Graph). h ≡ g) (length g.vertices == 0) _ _ (λ _. tt) (λ _. refl))

whole_from : (first : ℕ) (r : Result Graph (Fault GraphKind)) (h : Graph) → whole_of first r ≡ Ok h → r ≡ Ok h
whole_from first (Ok g) h e = let is : h ≡ g = IfOk-at_ok (λ (h : Graph). h ≡ g) e (whole_is first g) in rw is refl
whole_from first (Err fault) h e = cc

said_all : (head : Head) (h : Graph) (rest : Result (List (ℕ × GraphLine)) (Fault GraphKind)) → Reads (empty_graph head) h rest → IsSaid h rest
said_all head h (Ok said) x = record { kinds = x.kinds; vertices = x.vertices; edges = x.edges }
said_all head h (Err fault) x = absurd x

rows_say : (first : ℕ) (r : Result Head GraphKind) (ls : List (List ℕ)) (h : Graph) → rows_of first r ls ≡ Ok h → IsSaid h (read_from numbered_line (first + 1) ls)
rows_say first (Ok head) ls h e =
    let built = whole_from first (built_from (line_says BadLine content_line) line_added (first + 1) ls (empty_graph head)) h e in
    said_all head h (read_from numbered_line (first + 1) ls) (reads_all (first + 1) ls (empty_graph head) h built)
rows_say first (Err kind) ls h e = cc

graph_says : (first : ℕ) (lines : List (List ℕ)) (h : Graph) → graph_of first lines ≡ Ok h → IsSaid h (said_lines first lines)
graph_says first [] h e = cc
graph_says first (l ∷ ls) h e = rows_say first (head_of l) ls h e

pub gives_said : (first : ℕ) (lines : List (List ℕ)) (result : Result Graph (Stop (Fault GraphKind))) → Gives result (graph_of first lines)
    → IfOk result (λ h. IsSaid h (said_lines first lines))
gives_said first lines (Ok h) e = graph_says first lines h e
gives_said first lines (Err stop) e = tt
