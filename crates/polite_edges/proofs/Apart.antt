-- In a graph each edge is an edge of one pin, once.
use Rattle.std.proofs.Common.{ℕ, ◌<◌, ◌≤◌, ◌≡◌, ◌≢◌, ◌==◌, ◌∙◌, cond, Bool, true, false, length, refl, sym, ap, subst, inl, inr, arith, sum_by}
use Rattle.std.specs.List.{filter, range_with_len}
use Rattle.std.proofs.lemmas.Bool.{and_parts, cases_lt, eq-eqb, eqb-true, ne_eqb}
use Rattle.polite_routes.specs.Pins.{comes_from, edge_row}
use Rattle.tn_letters.proofs.Sums.{sum_filter, sum_none, sum_single}
use Rattle.polite_edges.specs.VertexLog.{GraphEdgesAreApart, times}

-- what a number counts for edge e, among those that pass a test
abbrev counted : (ℕ → Bool) → ℕ → ℕ → ℕ
counted p e k = cond (p k) (cond (k == e) 1 0) 0

either_zero : (b : Bool) → cond b 0 0 ≡ (let z : ℕ = 0 in z)
either_zero true = refl
either_zero false = refl

other_counts : (p : ℕ → Bool) (e k : ℕ) → k ≢ e → counted p e k ≡ 0
other_counts p e k ne = ap (λ b. cond (p k) (cond b 1 0) 0) (ne_eqb k e ne) ∙ either_zero (p k)

times_is : (p : ℕ → Bool) (e n : ℕ) → times e (filter p (range_with_len 0 n)) ≡ sum_by (counted p e) (range_with_len 0 n)
times_is p e n = sum_filter (λ k. cond (k == e) 1 0) p (range_with_len 0 n)

-- once, if the edge passes the test
pub record Once (p : ℕ → Bool) (e count : ℕ) : Type 0 where
  pub most : count ≤ 1
  pub passes : 0 < count → p e ≡ true

one_of : (p : ℕ → Bool) (e : ℕ) (b : Bool) → p e ≡ b → Once p e (cond b 1 0)
one_of p e true is = record { most = omega arith; passes = λ some. is }
one_of p e false is = record { most = omega arith; passes = λ some. absurd (omega arith) }

once_in : (p : ℕ → Bool) (e n : ℕ) → Once p e (times e (filter p (range_with_len 0 n)))
once_in p e n = elim (cases_lt e n) [
  | inl less ↦
      let s = sum_single (counted p e) n e less (λ k ne. other_counts p e k ne) in
      let here : counted p e e ≡ cond (p e) 1 0 = ap (λ b. cond (p e) (cond b 1 0) 0) (eq-eqb e e refl) in
      subst (Once p e) (sym (times_is p e n ∙ (s ∙ here))) (one_of p e (p e) refl)
  | inr past ↦
      let s = sum_none (counted p e) 0 n (λ k low high. other_counts p e k (λ (x : k ≡ e). omega arith)) in
      let t = times_is p e n in
      record { most = omega arith; passes = λ some. absurd (omega arith) }
]

pub graph_apart : GraphEdgesAreApart
graph_apart g rows is = record {
  once = λ u pin e. let o = once_in (λ k. comes_from u pin (edge_row rows k)) e (length rows) in let c = ap (times e) (is u pin) in let m = o.most in omega arith;
  apart = λ u pin v qin e here there.
      let o = once_in (λ k. comes_from u pin (edge_row rows k)) e (length rows) in
      let q = once_in (λ k. comes_from v qin (edge_row rows k)) e (length rows) in
      let c = ap (times e) (is u pin) in
      let d = ap (times e) (is v qin) in
      let x = and_parts _ _ (o.passes (omega arith)) in
      let y = and_parts _ _ (q.passes (omega arith)) in
      (sym (eqb-true (edge_row rows e).from u x.0) ∙ eqb-true (edge_row rows e).from v y.0, sym (eqb-true (edge_row rows e).pin pin x.1) ∙ eqb-true (edge_row rows e).pin qin y.1);
}
