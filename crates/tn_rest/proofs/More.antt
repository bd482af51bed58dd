-- Sums with one term more, and without a term.
use Rattle.std.proofs.Common.{ℕ, suc, ◌+◌, ◌≡◌, ap, arith, refl}
use Rattle.std.specs.Prelude.{ℤ, ◌+ℤ◌}
use Rattle.tn_sums.specs.Totals.{total}
use Rattle.tn_detect.specs.Reports.{sum_int}

pub sum_more : (g : ℕ → ℤ) (n : ℕ) → sum_int g (n + 1) ≡ sum_int g n +ℤ g n
sum_more g n = let e : n + 1 ≡ suc n = omega arith in ap (sum_int g) e

pub total_more : (g : ℕ → ℕ) (n : ℕ) → total g (n + 1) ≡ total g n + g n
unfolding total
total_more g n = let e : n + 1 ≡ suc n = omega arith in ap (total g) e

pub total_none : (g : ℕ → ℕ) → 0 ≡ total g 0
unfolding total
total_none g = refl
