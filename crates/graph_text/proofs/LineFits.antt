-- What holds of each line that is read.
use Rattle.std.proofs.Common.{◌≡◌, ℕ, ◌≤◌, Bool, true, false, List, [], ◌∷◌, ◌&&◌, nat_le, if◌then◌else◌, IfOk, codes, bytes_eq, slice_index, refl}
use Rattle.std.specs.declared.result.Result.{Result}
use Rattle.std.specs.declared.result.Result.TheVariants.{Ok, Err}
use Rattle.std.proofs.lemmas.Bool.{leb-true}
use Rattle.tn_text.specs.declared.numbers.Numeral.{Numeral}
use Rattle.tn_text.specs.Names.{is_name}
use Rattle.tn_text.specs.Numbers.{number_of}
use Rattle.tn_text.specs.NumberLists.{numbers_in, word_values_of}
use Rattle.graph_text.specs.declared.graph.GraphKind.{GraphKind}
use Rattle.graph_text.specs.declared.line.GraphLine.{GraphLine}
use Rattle.graph_text.specs.declared.line.GraphLine.TheVariants.{Kind, Vertex, Edge}
use Rattle.graph_text.specs.declared.line.Head.{Head}
use Rattle.graph_text.specs.declared.line.KindLine.{KindLine}
use Rattle.graph_text.specs.declared.line.VertexLine.{VertexLine}
use Rattle.graph_text.specs.Line.{◌>>=◌, given, within, head_with, head_line, kind_with, kind_line, vertex_line, pair_of, value_in, edge_line, graph_line}

pub record IsHead (head : Head) : Type 0 where
  pub some_flits : 1 ≤ head.flits
  pub flits : head.flits ≤ 8
  pub some_devices : 1 ≤ head.per_thread
  pub devices : head.per_thread ≤ 64

pub record IsKindLine (line : KindLine) : Type 0 where
  pub named : is_name line.name ≡ true
  pub pins : line.pins ≤ 4
  pub some_words : 1 ≤ line.words
  pub words : line.words ≤ 16

pub record IsVertexLine (line : VertexLine) : Type 0 where
  pub named : is_name line.name ≡ true

abbrev pub IsLine : GraphLine → Type 0
IsLine (Kind line) = IsKindLine line
IsLine (Vertex line) = IsVertexLine line
IsLine (Edge line) = Unit {0}

pub if_ok : {A K : Type 0} (P : A → Type 0) (b : Bool) (x y : Result A K) → (b ≡ true → IfOk x P) → (b ≡ false → IfOk y P) → IfOk (if b then x else y) P
if_ok P true x y h k = h refl
if_ok P false x y h k = k refl

pub bind_ok : {A B : Type 0} (P : B → Type 0) (r : Result A GraphKind) (f : A → Result B GraphKind) → ((a : A) → r ≡ Ok a → IfOk (f a) P) → IfOk (r >>= f) P
bind_ok P (Ok a) f h = h a refl
bind_ok P (Err kind) f h = tt

pub both_true : (a b : Bool) → (a && b) ≡ true → (a ≡ true) × (b ≡ true)
both_true true b e = (refl, e)
both_true false b e = cc

given_true : {V : Type 0} (b : Bool) (n : Numeral V) (v : V) → given b n ≡ Ok v → b ≡ true
given_true true n v e = refl
given_true false n v e = cc

pub within_both : (least most n : ℕ) → within least most n ≡ true → (least ≤ n) × (n ≤ most)
within_both least most n e =
    let h = both_true (nat_le least n) (nat_le n most) e in (leb-true least n h.0, leb-true n most h.1)

pub head_fits : (words : List (List ℕ)) → IfOk (head_line words) IsHead
head_fits [] = tt
head_fits (word ∷ words) =
    bind_ok IsHead (given (bytes_eq word (codes "graph")) (numbers_in 2 words)) (λ ns. head_with (slice_index ns 0) (slice_index ns 1))
    (λ ns e. let flits = slice_index ns 0 in let per = slice_index ns 1 in
    if_ok IsHead (within 1 8 flits && within 1 64 per) _ _
    (λ h. let both = both_true (within 1 8 flits) (within 1 64 per) h in
    let f = within_both 1 8 flits both.0 in let p = within_both 1 64 per both.1 in
    record { some_flits = f.0; flits = f.1; some_devices = p.0; devices = p.1 })
    (λ h. tt))

kind_fits : (words : List (List ℕ)) → IfOk (kind_line words) IsLine
kind_fits [] = tt
kind_fits (name ∷ words) =
    bind_ok IsLine (given (is_name name) (numbers_in 2 words)) (λ ns. kind_with name (slice_index ns 0) (slice_index ns 1))
    (λ ns e. let pins = slice_index ns 0 in let count = slice_index ns 1 in
    if_ok IsLine (nat_le pins 4 && within 1 16 count) _ _
    (λ h. let both = both_true (nat_le pins 4) (within 1 16 count) h in
    let w = within_both 1 16 count both.1 in
    record { named = given_true (is_name name) (numbers_in 2 words) ns e; pins = leb-true pins 4 both.0; some_words = w.0; words = w.1 })
    (λ h. tt))

vertex_fits : (words : List (List ℕ)) → IfOk (vertex_line words) IsLine
vertex_fits [] = tt
vertex_fits (name ∷ []) = tt
vertex_fits (name ∷ kind ∷ words) =
    bind_ok IsLine (given (is_name name && is_name kind) (word_values_of words)) (λ ws. Ok (Vertex (record { name = name; kind = kind; words = ws })))
    (λ ws e. let both = both_true (is_name name) (is_name kind) (given_true (is_name name && is_name kind) (word_values_of words) ws e) in
    record { named = both.0 })

edge_fits : (words : List (List ℕ)) → IfOk (edge_line words) IsLine
edge_fits [] = tt
edge_fits (from ∷ []) = tt
edge_fits (from ∷ pin ∷ []) = tt
edge_fits (from ∷ pin ∷ to ∷ value) =
    bind_ok IsLine (given (is_name from && is_name to) (pair_of (number_of pin) (value_in value))) (λ ns. Ok (Edge (record { from = from; pin = ns.0; to = to; value = ns.1 })))
    (λ ns e. tt)

pub line_fits : (words : List (List ℕ)) → IfOk (graph_line words) IsLine
line_fits [] = tt
line_fits (word ∷ words) =
    if_ok IsLine (bytes_eq word (codes "kind")) _ _ (λ _. kind_fits words)
    (λ _. if_ok IsLine (bytes_eq word (codes "vertex")) _ _ (λ _. vertex_fits words)
    (λ _. if_ok IsLine (bytes_eq word (codes "edge")) _ _ (λ _. edge_fits words) (λ _. tt)))
