-- Lists over ranges of numbers.
use Rattle.std.proofs.Common.{◌≡◌, ℕ, suc, zero, ◌+◌, List, [], ◌++◌, append_assoc, append-nil, refl, sym, ◌∙◌, ap, arith}
use Rattle.std.specs.List.{flat_map, range_with_len}
use Rattle.tn_keys.specs.Copies.{each_below}

range_more : {X : Type 0} (f : ℕ → List X) (a n : ℕ) → flat_map f (range_with_len a (suc n)) ≡ flat_map f (range_with_len a n) ++ f (a + n)
range_more f a zero = let e : a + zero ≡ a = omega arith in rw e (append-nil (f a))
range_more f a (suc n) =
    let h = range_more f (a + 1) n in
    let e : a + 1 + n ≡ a + suc n = omega arith in
    ap (λ xs. f a ++ xs) h ∙ sym (append_assoc (f a) (flat_map f (range_with_len (a + 1) n)) (f (a + 1 + n))) ∙ ap (λ k. (f a ++ flat_map f (range_with_len (a + 1) n)) ++ f k) e

-- one number more
pub below_suc : {X : Type 0} (f : ℕ → List X) (n : ℕ) → each_below (suc n) f ≡ each_below n f ++ f n
below_suc f n = let e : 0 + n ≡ n = omega arith in range_more f 0 n ∙ ap (λ k. each_below n f ++ f k) e

pub below_one : {X : Type 0} (f : ℕ → List X) (n : ℕ) → each_below (n + 1) f ≡ each_below n f ++ f n
below_one f n = let e : n + 1 ≡ suc n = omega arith in rw e (below_suc f n)

pub below_none : {X : Type 0} (f : ℕ → List X) → each_below 0 f ≡ []
below_none f = refl
