-- Items of lists by place.
use Rattle.std.proofs.Common.{◌≡◌, ◌<◌, ℕ, List, [], ◌∷◌, ◌++◌, length, get_or, take, drop, zero, suc, refl, sym, arith}
use Rattle.std.proofs.lemmas.Grind.{common_steps}
use mathlib.Core.Option.{some, some-injective, some-ne-none}
use lib.ListN.{get_elem?}

module _ {A : Type 0} where
  pub whole : (n : ℕ) (ys zs : List A) → length ys ≡ n → length zs ≡ n → take n (ys ++ drop (length ys) zs) ≡ ys
  whole n ys zs p q = grind (arith, common_steps)

  pub read_at : (l : List A) (i : ℕ) (a : A) → get_elem? l i ≡ some a → (i < length l) × (a ≡ get_or l i a)
  read_at [] i a e = absurd (some-ne-none a (sym e))
  read_at (x ∷ xs) zero a e = (omega arith, sym (some-injective x a e))
  read_at (x ∷ xs) (suc i) a e = let h = read_at xs i a e in let l = h.0 in (omega arith, h.1)

  pub at_or : (l : List A) (i : ℕ) (d : A) → i < length l → get_elem? l i ≡ some (get_or l i d)
  at_or [] i d h = absurd (omega arith)
  at_or (x ∷ xs) zero d h = refl
  at_or (x ∷ xs) (suc i) d h = at_or xs i d (omega arith)
