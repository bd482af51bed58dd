-- Sums over the threads of a machine.
use Rattle.std.proofs.Common.{ℕ, zero, suc, ◌+◌, ◌<◌, ◌≡◌, ◌≢◌, true, refl, ap, inl, inr, arith, sym, ◌∙◌}
use Rattle.std.proofs.lemmas.Bool.{cases_eq, cases_lt}
use Rattle.tn_base.specs.declared.shape.ShapeNumbers.{ShapeNumbers}
use Rattle.tn_base.specs.Address.{has_thread, thread_at}
use Rattle.tn_base.specs.Shape.{thread_count}
use Rattle.tn_base.proofs.Places.{Orders}
use Rattle.tn_sums.specs.Totals.{total}
use Rattle.tn_sums.proofs.Laws.{total_same}

abbrev pub Listed : ShapeNumbers → Type 0
Listed n = Orders (thread_at n) (thread_count n) (has_thread n)

unfoldable pub over_threads : ShapeNumbers → (ℕ → ℕ) → ℕ
over_threads n f = total (λ i. f (thread_at n i)) (thread_count n)

pub same_over : (n : ShapeNumbers) (f g : ℕ → ℕ) → Listed n → ((a : ℕ) → has_thread n a ≡ true → f a ≡ g a) → over_threads n f ≡ over_threads n g
unfolding over_threads
same_over n f g o h = total_same (λ i. f (thread_at n i)) (λ i. g (thread_at n i)) (thread_count n) (λ i less. h (thread_at n i) (o.there i less))

one_changed : (f g : ℕ → ℕ) (n j : ℕ) → j < n → ((k : ℕ) → k < n → k ≢ j → g k ≡ f k) → total g n + f j ≡ total f n + g j
unfolding total
one_changed f g zero j l e = absurd (omega arith)
one_changed f g (suc n) j l e = elim (cases_eq j n) [
  | inl at ↦
      let r = total_same g f n (λ k less. e k (omega arith) (λ x. omega arith)) in
      let a = ap f at in
      let b = ap g at in
      omega arith
  | inr ne ↦
      let r = one_changed f g n j (omega arith) (λ k less. e k (omega arith)) in
      let s = e n (omega arith) (λ x. ne (omega arith)) in
      omega arith
]

-- the addresses of two places differ
apart : (n : ShapeNumbers) → Listed n → (i j : ℕ) → i < thread_count n → j < thread_count n → i ≢ j → thread_at n i ≢ thread_at n j
apart n o i j li lj ne same = elim (cases_lt i j) [
  | inl less ↦ let r = o.rising i j less lj in omega arith
  | inr le ↦ elim (cases_lt j i) [
    | inl less ↦ let r = o.rising j i less li in omega arith
    | inr ge ↦ ne (omega arith)
  ]
]

pub changed_over : (n : ShapeNumbers) (f g : ℕ → ℕ) (a : ℕ) → Listed n → has_thread n a ≡ true → ((b : ℕ) → has_thread n b ≡ true → b ≢ a → g b ≡ f b) → over_threads n g + f a ≡ over_threads n f + g a
unfolding over_threads
changed_over n f g a o there h =
    let i = o.each a there in
    let r = one_changed (λ k. f (thread_at n k)) (λ k. g (thread_at n k)) (thread_count n) i.0 i.1 (λ k less ne. h (thread_at n k) (o.there k less) (λ e. apart n o k i.0 less i.1 ne (e ∙ sym i.2))) in
    let x = ap f i.2 in
    let y = ap g i.2 in
    omega arith

none_total : (f : ℕ → ℕ) (n : ℕ) → ((k : ℕ) → k < n → f k ≡ 0) → total f n ≡ 0
unfolding total
none_total f zero h = refl
none_total f (suc n) h = let r = none_total f n (λ k l. h k (omega arith)) in let e = h n (omega arith) in omega arith

pub none_over : (n : ShapeNumbers) (f : ℕ → ℕ) → Listed n → ((a : ℕ) → has_thread n a ≡ true → f a ≡ 0) → over_threads n f ≡ 0
unfolding over_threads
none_over n f o h = none_total (λ i. f (thread_at n i)) (thread_count n) (λ k less. h (thread_at n k) (o.there k less))
