-- The lines of the graph.
use Rattle.std.proofs.Common.{◌≡◌, ◌∙◌, ℕ, ◌+◌, ◌-◌, ◌<◌, suc, List, [], ◌++◌, refl, ap, sym, append_assoc, append-nil, arith}
use Rattle.tn_gen.specs.Job.{vertex_text, vertices_text}

vertices-none : (i : ℕ) → vertices_text i 0 ≡ []
unfolding vertices_text
vertices-none i = refl

vertices-more : (i n : ℕ) → vertices_text i (suc n) ≡ vertex_text i ++ vertices_text (i + 1) n
unfolding vertices_text
vertices-more i n = refl

pub one_vertex : (count i : ℕ) (text all : List ℕ) → i < count → text ++ vertices_text i (count - i) ≡ all → (text ++ vertex_text i) ++ vertices_text (i + 1) (count - (i + 1)) ≡ all
one_vertex count i text all h old =
    let left : count - i ≡ suc (count - (i + 1)) = omega arith in
    append_assoc text (vertex_text i) (vertices_text (i + 1) (count - (i + 1)))
    ∙ (ap (λ (ls : List ℕ). text ++ ls) (sym (vertices-more i (count - (i + 1)))) ∙ (ap (λ (n : ℕ). text ++ vertices_text i n) (sym left) ∙ old))

pub all_vertices : (count i : ℕ) (text all : List ℕ) → count ≡ i → text ++ vertices_text i (count - i) ≡ all → text ≡ all
all_vertices count i text all h old =
    let none : count - i ≡ 0 = omega arith in
    sym (append-nil text) ∙ (ap (λ (ls : List ℕ). text ++ ls) (sym (vertices-none i)) ∙ (ap (λ (n : ℕ). text ++ vertices_text i n) (sym none) ∙ old))
