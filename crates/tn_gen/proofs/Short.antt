-- How long a drawn job is.
use Rattle.std.proofs.Common.{◌≡◌, ◌∙◌, ◌≤◌, ◌<◌, ℕ, zero, suc, ◌+◌, ◌*◌, ◌/◌, ◌%◌, List, [], ◌∷◌, ◌++◌, codes, length, refl, ap, arith, length-append}
use Rattle.std.specs.Prelude.{decimal}
use Rattle.std.proofs.lemmas.Fmt.{length-decimal-le}
use Rattle.std.proofs.Math.Nat.{mod-lt}
use Rattle.tn_gen.specs.Head.{head}
use Rattle.tn_gen.specs.Job.{DrawnJobsAreShort, edge_text, edges_text, gen_text, vertex_text, vertices_text}
use Rattle.tn_gen.specs.Drawn.{drawn, generator}
use Rattle.tn_gen.proofs.DrawnLemmas.{length-next_words}
use Rattle.rand_core.specs.Steps.{steps_u32, stream_of}
use Rattle.rand_pcg.specs.Pcg.{pcg32}

head_length : length head ≡ 448
unfolding head
head_length = refl

digits : (n : ℕ) → n < 10000 → length (decimal n) ≤ 4
digits n h = length-decimal-le 4 n (omega arith) (omega (arith, h)) (omega (arith, h))

length_four : (a b c d : List ℕ) → length (a ++ b ++ c ++ d) ≡ length a + length b + length c + length d
length_four a b c d =
    length-append (a ++ b ++ c) d ∙ ap (λ n. n + length d) (length-append (a ++ b) c ∙ ap (λ n. n + length c) (length-append a b))

length_five : (a b c d e : List ℕ) → length (a ++ b ++ c ++ d ++ e) ≡ length a + length b + length c + length d + length e
length_five a b c d e = length-append (a ++ b ++ c ++ d) e ∙ ap (λ n. n + length e) (length_four a b c d)

vertex_length : (i : ℕ) → i + 1 < 10000 → length (vertex_text i) ≤ 40
vertex_length i h =
    let a = digits i (omega arith) in
    let b = digits (i + 1) h in
    let all : length (vertex_text i) ≡ 8 + length (decimal i) + 5 + length (decimal (i + 1)) + 5 = length_five (codes "vertex v") (decimal i) (codes " sum ") (decimal (i + 1)) (codes " 0 5\n") in
    bounded (length (vertex_text i)) (length (decimal i)) (length (decimal (i + 1))) all a b
  where
    bounded : (n x y : ℕ) → n ≡ 8 + x + 5 + y + 5 → x ≤ 4 → y ≤ 4 → n ≤ 40
    bounded n x y e a b = omega arith

joined : (n a b c : ℕ) → n ≡ a + b → a ≤ 40 → b ≤ 40 * c → n ≤ 40 * suc c
joined n a b c e x y = omega arith

vertices_length : (i n : ℕ) → i + n < 10000 → length (vertices_text i n) ≤ 40 * n
unfolding vertices_text
vertices_length i zero h = omega arith
vertices_length i (suc n) h = joined (length (vertex_text i ++ vertices_text (i + 1) n)) _ _ n (length-append (vertex_text i) (vertices_text (i + 1) n)) (vertex_length i (omega arith)) (vertices_length (i + 1) n (omega arith))

edge_length : (count i word : ℕ) → 1 ≤ count → count < 10000 → i < 10000 → length (edge_text count i word) ≤ 40
edge_length count i word some few h =
    let a = digits i h in
    let less : word % count < count = mod-lt word some in
    let b = digits (word % count) (omega arith) in
    let all : length (edge_text count i word) ≡ 6 + length (decimal i) + 4 + length (decimal (word % count)) + 1 = length_five (codes "edge v") (decimal i) (codes " 0 v") (decimal (word % count)) (codes "\n") in
    bounded (length (edge_text count i word)) (length (decimal i)) (length (decimal (word % count))) all a b
  where
    bounded : (n x y : ℕ) → n ≡ 6 + x + 4 + y + 1 → x ≤ 4 → y ≤ 4 → n ≤ 40
    bounded n x y e a b = omega arith

edges_length : (count used : ℕ) (words : List ℕ) → 1 ≤ count → count < 10000 → used + length words < 40000 → length (edges_text count used words) ≤ 40 * length words
edges_length count used [] some few h = omega arith
edges_length count used (word ∷ words) some few h =
    joined (length (edge_text count (used / 4) word ++ edges_text count (used + 1) words)) _ _ (length words)
    (length-append (edge_text count (used / 4) word) (edges_text count (used + 1) words))
    (edge_length count (used / 4) word some few (omega arith))
    (edges_length count (used + 1) words some few (omega arith))

-- a drawn job is shorter than an input may be
pub gen_short : DrawnJobsAreShort
gen_short start count some few =
    let words : List ℕ = drawn start (4 * count) in
    let many : length words ≡ 4 * count = length-next_words (4 * count) (stream_of (steps_u32 pcg32) (generator start)) in
    let vs = vertices_length 0 count (omega arith) in
    let es = edges_length count 0 words some (omega arith) (omega arith) in
    let all : length (gen_text start count) ≡ length head + length (vertices_text 0 count) + length (edges_text count 0 words) + 4 = length_four head (vertices_text 0 count) (edges_text count 0 words) (codes "end\n") in
    bounded (length (gen_text start count)) (length head) _ _ (length words) count all head_length vs es many few
  where
    bounded : (n h v e w c : ℕ) → n ≡ h + v + e + 4 → h ≡ 448 → v ≤ 40 * c → e ≤ 40 * w → w ≡ 4 * c → c ≤ 4096 → n ≤ 16777216
    bounded n h v e w c all one vs es many few = omega arith
