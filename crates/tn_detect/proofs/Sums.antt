-- Sums of signed numbers over the numbers below a bound.
use Rattle.std.proofs.Common.{ℕ, zero, suc, ◌*◌, ◌^◌, ◌<◌, ◌≡◌, ◌≢◌, refl, sym, ◌∙◌, ap, inl, inr, arith, pos}
use Rattle.std.specs.Prelude.{ℤ, ◌+ℤ◌, ◌≤ℤ◌, neg_ℤ}
use Rattle.std.proofs.lemmas.Bool.{cases_eq}
use Rattle.std.proofs.lemmas.Int.{ints}
use Rattle.tn_detect.specs.Reports.{sum_int}

-- equal terms, and one changed term
pub same_sum : (g h : ℕ → ℤ) (n : ℕ) → ((k : ℕ) → k < n → h k ≡ g k) → sum_int h n ≡ sum_int g n
same_sum g h zero e = refl
same_sum g h (suc n) e =
    let r = same_sum g h n (λ k l. e k (omega arith)) in
    let s = e n (omega arith) in
    ap (λ x. x +ℤ h n) r ∙ ap (λ x. sum_int g n +ℤ x) s

pub changed_sum : (g h : ℕ → ℤ) (n j : ℕ) → j < n → ((k : ℕ) → k < n → k ≢ j → h k ≡ g k) → sum_int h n +ℤ g j ≡ sum_int g n +ℤ h j
changed_sum g h zero j l e = absurd (omega arith)
changed_sum g h (suc n) j l e = elim (cases_eq j n) [
  | inl at ↦
      let r = same_sum g h n (λ k less. e k (omega arith) (λ x. omega arith)) in
      let a = ap g at in let b = ap h at in
      omega (arith, ints)
  | inr ne ↦
      let r = changed_sum g h n j (omega arith) (λ k less apart. e k (omega arith) apart) in
      let s = e n (omega arith) (λ x. ne (sym x)) in
      omega (arith, ints)
]

pub zero_sum : (g : ℕ → ℤ) (n : ℕ) → ((k : ℕ) → k < n → g k ≡ pos 0) → sum_int g n ≡ pos 0
zero_sum g zero e = refl
zero_sum g (suc n) e =
    let r = zero_sum g n (λ k l. e k (omega arith)) in
    let s = e n (omega arith) in omega (arith, ints)

-- a sum is no further from 0 than its terms allow
pub low_sum : (g : ℕ → ℤ) (n : ℕ) → ((k : ℕ) → k < n → neg_ℤ (pos (2 ^ 63)) ≤ℤ g k) → neg_ℤ (pos (n * 2 ^ 63)) ≤ℤ sum_int g n
low_sum g zero e = omega (arith, ints)
low_sum g (suc n) e =
    let r = low_sum g n (λ k l. e k (omega arith)) in
    let s = e n (omega arith) in omega (arith, ints)

pub high_sum : (g : ℕ → ℤ) (n : ℕ) → ((k : ℕ) → k < n → g k ≤ℤ pos (2 ^ 63)) → sum_int g n ≤ℤ pos (n * 2 ^ 63)
high_sum g zero e = omega (arith, ints)
high_sum g (suc n) e =
    let r = high_sum g n (λ k l. e k (omega arith)) in
    let s = e n (omega arith) in omega (arith, ints)
