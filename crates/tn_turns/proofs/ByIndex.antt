-- Lists read by `get_elem?`.
use Rattle.std.proofs.Common.{◌≡◌, ◌≢◌, set, ℕ, zero, suc, ◌<◌, List, [], ◌∷◌, length, map, take, Option, Some, None, sym, refl, ap, inl, inr, ⊎_elim, ◌++◌, ◌⊎◌, ◌∙◌, arith}
use mathlib.Core.Option.{some, some-injective, some-ne-none}
use lib.ListN.{get_elem?}

module _ {A : Type 0} where
  pub at_within : (l : List A) (i : ℕ) (a : A) → get_elem? l i ≡ some a → i < length l
  at_within [] i a e = absurd (some-ne-none a (sym e))
  at_within (x ∷ xs) zero a e = omega arith
  at_within (x ∷ xs) (suc i) a e = let h = at_within xs i a e in omega arith

  pub there : (l : List A) (i : ℕ) → i < length l → (a : A) × (get_elem? l i ≡ some a)
  there [] i h = absurd (omega arith)
  there (x ∷ xs) zero h = (x, refl)
  there (x ∷ xs) (suc i) h = there xs i (omega arith)

  pub one_at : (l : List A) (i : ℕ) (a b : A) → get_elem? l i ≡ some a → get_elem? l i ≡ some b → a ≡ b
  one_at l i a b p q = some-injective a b (sym p ∙ q)

  pub at_end : (l : List A) (a b : A) (j : ℕ) → get_elem? (l ++ a ∷ []) j ≡ some b → (get_elem? l j ≡ some b) ⊎ ((j ≡ length l) × (a ≡ b))
  at_end [] a b zero e = inr (refl, some-injective a b e)
  at_end [] a b (suc j) e = absurd (some-ne-none b (sym e))
  at_end (x ∷ xs) a b zero e = inl e
  at_end (x ∷ xs) a b (suc j) e = ⊎_elim (λ (t : get_elem? xs j ≡ some b). inl t) (λ (t : (j ≡ length xs) × (a ≡ b)). inr (ap suc t.0, t.1)) (at_end xs a b j e)

  pub no_none : (xs : List A) (i : ℕ) → get_elem? (map (λ x. Some x) xs) i ≡ some None → ⊥
  no_none [] i e = some-ne-none None (sym e)
  no_none (x ∷ xs) zero e = let q : Some x ≡ None = some-injective (Some x) None e in cc
  no_none (x ∷ xs) (suc i) e = no_none xs i e

  pub take_next : (l : List A) (i : ℕ) (a : A) → get_elem? l i ≡ some a → take (suc i) l ≡ take i l ++ a ∷ []
  take_next [] i a e = absurd (some-ne-none a (sym e))
  take_next (x ∷ xs) zero a e = ap (λ (y : A). y ∷ []) (some-injective x a e)
  take_next (x ∷ xs) (suc i) a e = ap (λ ys. x ∷ ys) (take_next xs i a e)

  pub same_somes : (xs ys : List A) → map (λ x. Some x) xs ≡ map (λ x. Some x) ys → xs ≡ ys
  same_somes [] [] e = refl
  same_somes [] (y ∷ ys) e = absurd (nil_cons e)
    where
      nil_cons : {B : Type 0} {b : B} {bs : List B} → [] ≡ b ∷ bs → ⊥
      nil_cons q = cc
  same_somes (x ∷ xs) [] e = absurd (cons_nil e)
    where
      cons_nil : {B : Type 0} {b : B} {bs : List B} → b ∷ bs ≡ [] → ⊥
      cons_nil q = cc
  same_somes (x ∷ xs) (y ∷ ys) e = λ t. value x (ap (first (Some x)) e) t ∷ same_somes xs ys (ap others e) t
    where
      first : Option A → List (Option A) → Option A
      first d [] = d
      first d (z ∷ zs) = z

      others : List (Option A) → List (Option A)
      others [] = []
      others (z ∷ zs) = zs

      value : (d : A) {a b : A} → Some a ≡ Some b → a ≡ b
      value d q = ap (of d) q
        where
          of : A → Option A → A
          of d None = d
          of d (Some z) = z

  pub set_over : (xs : List A) (i j : ℕ) (a b c : A) → i ≢ j → set (set (set xs j a) i b) j c ≡ set (set xs i b) j c
  set_over [] i j a b c n = refl
  set_over (x ∷ xs) zero zero a b c n = absurd (n refl)
  set_over (x ∷ xs) zero (suc j) a b c n = ap (λ zs. b ∷ zs) (twice xs j)
    where
      twice : (xs : List A) (j : ℕ) → set (set xs j a) j c ≡ set xs j c
      twice [] j = refl
      twice (y ∷ ys) zero = refl
      twice (y ∷ ys) (suc j) = ap (λ zs. y ∷ zs) (twice ys j)
  set_over (x ∷ xs) (suc i) zero a b c n = refl
  set_over (x ∷ xs) (suc i) (suc j) a b c n = ap (λ zs. x ∷ zs) (set_over xs i j a b c (λ e. n (ap suc e)))
