-- Two bags that are the same weigh the same.
use Rattle.std.proofs.Common.{ℕ, zero, suc, ◌+◌, ◌<◌, ◌≤◌, ◌≡◌, nat_lt, cond, List, [], ◌∷◌, refl, inl, inr, arith, sum_by}
use Rattle.std.specs.Prelude.{count_by}
use Rattle.std.proofs.lemmas.Bool.{cases_lt}
use Rattle.std.proofs.lemmas.Bool.Decides.{nat_tests}
use Rattle.std.proofs.lemmas.List.Sums.{sum_by-cons}
use Rattle.tn_base.specs.declared.message.Letter.{Letter}
use Rattle.tn_letters.specs.Letters.{SameBag}
use Rattle.tn_sums.specs.Totals.{total}
use Rattle.tn_sums.proofs.Laws.{total-plus, total_same, total_zero}

abbrev below : ℕ → ℕ → ℕ
below m k = cond (nat_lt k m) 1 0

below_is : (m k : ℕ) → k < m → below m k ≡ 1
below_is m k less = grind (arith, nat_tests)

past_is : (m k : ℕ) → m ≤ k → below m k ≡ 0
past_is m k le = grind (arith, nat_tests)

all_below : (m n : ℕ) → n ≤ m → total (below m) n ≡ n
unfolding total
all_below m zero le = refl
all_below m (suc n) le =
    let r = all_below m n (omega arith) in
    let e = below_is m n (omega arith) in
    omega arith

-- a number is how many numbers are below it
ones : (m n : ℕ) → m ≤ n → total (below m) n ≡ m
unfolding total
ones m zero le = omega arith
ones m (suc n) le = elim (cases_lt n m) [
  | inl less ↦
      let r = all_below m n (omega arith) in
      let e = below_is m n less in
      omega arith
  | inr past ↦
      let r = ones m n past in
      let e = past_is m n past in
      omega arith
]

-- how many letters weigh more than k
abbrev heavier : (Letter → ℕ) → List Letter → ℕ → ℕ
heavier w xs k = count_by (λ (l : Letter). nat_lt k (w l)) xs

weight_counts : (w : Letter → ℕ) (xs : List Letter) (n : ℕ) → sum_by w xs ≤ n → total (heavier w xs) n ≡ sum_by w xs
weight_counts w [] n le = total_zero n
weight_counts w (x ∷ xs) n le =
    let c = sum_by-cons w x xs in
    let r = weight_counts w xs n (omega arith) in
    let o = ones (w x) n (omega arith) in
    let s = total_same (heavier w (x ∷ xs)) (λ k. below (w x) k + heavier w xs k) n (λ k less. sum_by-cons (λ (l : Letter). cond (nat_lt k (w l)) 1 0) x xs) in
    let p = total-plus (below (w x)) (heavier w xs) n in
    omega arith

pub bag_weighs : (xs ys : List Letter) (w : Letter → ℕ) → SameBag xs ys → sum_by w xs ≡ sum_by w ys
bag_weighs xs ys w same =
    let n = sum_by w xs + sum_by w ys in
    let a = weight_counts w xs n (omega arith) in
    let b = weight_counts w ys n (omega arith) in
    let c = total_same (heavier w xs) (heavier w ys) n (λ k less. same.each (λ (l : Letter). nat_lt k (w l))) in
    omega arith
