-- Lists of entries whose stamps rise.
use Rattle.std.proofs.Common.{◌≡◌, ℕ, ◌<◌, ◌⊎◌, inl, inr, List, [], ◌∷◌, ◌++◌, refl, sym, ap, arith}
use Rattle.tn_stamp.specs.declared.entry.Entry.{Entry}
use Rattle.tn_stamp.specs.Journals.{Rises, last_stamp}
pub use Rattle.tn_stamp.specs.Standing.{IsIn}

pub Rises-push : (low : ℕ) (es : List Entry) (e : Entry) → Rises low es → last_stamp low es < e.stamp → Rises low (es ++ e ∷ [])
Rises-push low [] e r h = (h, tt)
Rises-push low (x ∷ es) e r h = (r.0, Rises-push x.stamp es e r.1 h)

pub last_stamp-push : (low : ℕ) (es : List Entry) (e : Entry) → last_stamp low (es ++ e ∷ []) ≡ e.stamp
last_stamp-push low [] e = refl
last_stamp-push low (x ∷ es) e = last_stamp-push x.stamp es e

-- in a rising list each entry is above low
pub above_low : (low : ℕ) (es : List Entry) (x : Entry) → Rises low es → IsIn x es → low < x.stamp
above_low low [] x r h = absurd h
above_low low (y ∷ es) x r (inl h) = rw h r.0
above_low low (y ∷ es) x r (inr h) = let k = above_low y.stamp es x r.1 h in omega arith

pub same_stamp : (low : ℕ) (es : List Entry) (x y : Entry) → Rises low es → IsIn x es → IsIn y es → x.stamp ≡ y.stamp → x ≡ y
same_stamp low [] x y r i j s = absurd i
same_stamp low (z ∷ es) x y r (inl i) (inl j) s = cc
same_stamp low (z ∷ es) x y r (inl i) (inr j) s = let k = above_low z.stamp es y r.1 j in let l = ap (λ (e : Entry). e.stamp) i in absurd (omega arith)
same_stamp low (z ∷ es) x y r (inr i) (inl j) s = let k = above_low z.stamp es x r.1 i in let l = ap (λ (e : Entry). e.stamp) j in absurd (omega arith)
same_stamp low (z ∷ es) x y r (inr i) (inr j) s = same_stamp z.stamp es x y r.1 i j s

-- the first of two rising lists with the same entries
same_first : (x y : Entry) (xs ys : List Entry) → Rises x.stamp xs → Rises y.stamp ys → (x ≡ y) ⊎ IsIn x ys → (y ≡ x) ⊎ IsIn y xs → x ≡ y
same_first x y xs ys r s (inl e) k = e
same_first x y xs ys r s (inr h) (inl e) = sym e
same_first x y xs ys r s (inr h) (inr k) = let a = above_low y.stamp ys x s h in let b = above_low x.stamp xs y r k in absurd (omega arith)

-- the others of the one are others of the other
others_in : (x y : Entry) (xs ys : List Entry) → x ≡ y → Rises x.stamp xs → ((e : Entry) → IsIn e (x ∷ xs) → IsIn e (y ∷ ys)) → (e : Entry) → IsIn e xs → IsIn e ys
others_in x y xs ys same r f e h = elim (f e (inr h)) [
  | inl is ↦ let a = above_low x.stamp xs e r h in let b = ap (λ (z : Entry). z.stamp) is in let c = ap (λ (z : Entry). z.stamp) same in absurd (omega arith)
  | inr k ↦ k
]

both_same : (x y : Entry) (xs ys : List Entry) → x ≡ y → xs ≡ ys → x ∷ xs ≡ y ∷ ys
both_same x y xs ys e f = cc

-- rising lists with the same entries are the same
pub same_rising : (low : ℕ) (xs ys : List Entry) → Rises low xs → Rises low ys → ((e : Entry) → IsIn e xs → IsIn e ys) → ((e : Entry) → IsIn e ys → IsIn e xs) → xs ≡ ys
same_rising low [] [] r s f g = refl
same_rising low [] (y ∷ ys) r s f g = absurd (g y (inl refl))
same_rising low (x ∷ xs) [] r s f g = absurd (f x (inl refl))
same_rising low (x ∷ xs) (y ∷ ys) r s f g =
    let same : x ≡ y = same_first x y xs ys r.1 s.1 (f x (inl refl)) (g y (inl refl)) in
    let back : y ≡ x = sym same in
    let above : Rises x.stamp ys = rw same s.1 in
    both_same x y xs ys same (same_rising x.stamp xs ys r.1 above (others_in x y xs ys same r.1 f) (others_in y x ys xs back s.1 g))
