-- Sums over numbers below a bound, one term of which changes.
use Rattle.std.proofs.Common.{ℕ, zero, suc, ◌+◌, ◌<◌, ◌≤◌, ◌≡◌, ◌≢◌, sym, ap, inl, inr, arith, refl}
use Rattle.std.proofs.lemmas.Bool.{cases_eq}
use Rattle.tn_sums.specs.Totals.{total}
use Rattle.tn_sums.proofs.Laws.{total_same}

pub changed_total : (g h : ℕ → ℕ) (n j : ℕ) → j < n → ((k : ℕ) → k < n → k ≢ j → h k ≡ g k) → total h n + g j ≡ total g n + h j
unfolding total
changed_total g h zero j l e = absurd (omega arith)
changed_total g h (suc n) j l e = elim (cases_eq j n) [
  | inl at ↦
      let r = total_same h g n (λ k less. e k (omega arith) (λ x. omega arith)) in
      let a = ap g at in let b = ap h at in
      omega arith
  | inr ne ↦
      let r = changed_total g h n j (omega arith) (λ k less apart. e k (omega arith) apart) in
      let s = e n (omega arith) (λ x. ne (sym x)) in
      omega arith
]

-- a sum that is 0 has no other term
pub term_of_zero : (g : ℕ → ℕ) (n j : ℕ) → j < n → total g n ≡ 0 → g j ≡ 0
unfolding total
term_of_zero g zero j l e = absurd (omega arith)
term_of_zero g (suc n) j l e = elim (cases_eq j n) [
  | inl at ↦ let a = ap g at in omega arith
  | inr ne ↦ term_of_zero g n j (omega arith) (omega arith)
]

pub term_le : (g : ℕ → ℕ) (n j : ℕ) → j < n → g j ≤ total g n
unfolding total
term_le g zero j l = absurd (omega arith)
term_le g (suc n) j l = elim (cases_eq j n) [
  | inl at ↦ let a = ap g at in omega arith
  | inr ne ↦ let r = term_le g n j (omega arith) in omega arith
]

pub zero_total : (g : ℕ → ℕ) (n : ℕ) → ((k : ℕ) → k < n → g k ≡ 0) → total g n ≡ 0
unfolding total
zero_total g zero e = refl
zero_total g (suc n) e = let r = zero_total g n (λ k l. e k (omega arith)) in let s = e n (omega arith) in omega arith
