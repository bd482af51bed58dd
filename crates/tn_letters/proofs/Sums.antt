-- Sums over numbers in a row, of which one term changes.
use Rattle.std.proofs.Common.{ℕ, ◌+◌, ◌<◌, ◌≤◌, ◌≡◌, ◌≢◌, Bool, true, false, cond, List, [], ◌∷◌, length, map, zero, suc, refl, sym, ◌∙◌, ap, inl, inr, arith, sum_by, Option, Some}
use Rattle.std.specs.List.{slice_get}
use Rattle.std.specs.List.{filter, flat_map, range_with_len}
use Rattle.std.proofs.lemmas.Bool.{cases_eq}
use Rattle.std.proofs.lemmas.List.Sums.{sum_by-cons, sum_by-append}
use Rattle.tn_keys.specs.Copies.{each_below, only_if}

pub sum_flat : {A B : Type 0} (w : B → ℕ) (f : A → List B) (xs : List A) → sum_by w (flat_map f xs) ≡ sum_by (λ x. sum_by w (f x)) xs
sum_flat w f [] = refl
sum_flat w f (x ∷ xs) =
    let a = sum_by-append w (f x) (flat_map f xs) in
    let b = sum_by-cons (λ y. sum_by w (f y)) x xs in
    let c = sum_flat w f xs in
    omega arith

pub sum_map : {A B : Type 0} (w : B → ℕ) (f : A → B) (xs : List A) → sum_by w (map f xs) ≡ sum_by (λ x. w (f x)) xs
sum_map w f [] = refl
sum_map w f (x ∷ xs) =
    let a = sum_by-cons w (f x) (map f xs) in
    let b = sum_by-cons (λ y. w (f y)) x xs in
    let c = sum_map w f xs in
    omega arith

pub sum_only : {A : Type 0} (w : A → ℕ) (b : Bool) (x : A) → sum_by w (only_if b x) ≡ cond b (w x) 0
sum_only w true x = let a = sum_by-cons w x [] in omega arith
sum_only w false x = refl

cond_cons : {A : Type 0} (w : A → ℕ) (b : Bool) (x : A) (xs : List A) → sum_by w (cond b (x ∷ xs) xs) ≡ cond b (w x) 0 + sum_by w xs
cond_cons w true x xs = sum_by-cons w x xs
cond_cons w false x xs = omega arith

pub sum_filter : {A : Type 0} (w : A → ℕ) (p : A → Bool) (xs : List A) → sum_by w (filter p xs) ≡ sum_by (λ x. cond (p x) (w x) 0) xs
sum_filter w p [] = refl
sum_filter w p (x ∷ xs) = cond_cons w (p x) x (filter p xs) ∙ (ap (λ n. cond (p x) (w x) 0 + n) (sum_filter w p xs) ∙ sym (sum_by-cons (λ y. cond (p y) (w y) 0) x xs))

-- term by term
pub sum_same : (f g : ℕ → ℕ) (a n : ℕ) → ((k : ℕ) → a ≤ k → k < a + n → f k ≡ g k) → sum_by f (range_with_len a n) ≡ sum_by g (range_with_len a n)
sum_same f g a zero h = refl
sum_same f g a (suc n) h =
    let x = sum_by-cons f a (range_with_len (a + 1) n) in
    let y = sum_by-cons g a (range_with_len (a + 1) n) in
    let here = h a (omega arith) (omega arith) in
    let rest = sum_same f g (a + 1) n (λ k low high. h k (omega arith) (omega arith)) in
    omega arith

pub sum_two : (f g both : ℕ → ℕ) (a n : ℕ) → ((k : ℕ) → a ≤ k → k < a + n → both k ≡ f k + g k) → sum_by both (range_with_len a n) ≡ sum_by f (range_with_len a n) + sum_by g (range_with_len a n)
sum_two f g both a zero h = refl
sum_two f g both a (suc n) h =
    let x = sum_by-cons f a (range_with_len (a + 1) n) in
    let y = sum_by-cons g a (range_with_len (a + 1) n) in
    let z = sum_by-cons both a (range_with_len (a + 1) n) in
    let here = h a (omega arith) (omega arith) in
    let rest = sum_two f g both (a + 1) n (λ k low high. h k (omega arith) (omega arith)) in
    omega arith

-- one term is another
pub sum_one : (f g : ℕ → ℕ) (a n p : ℕ) → a ≤ p → p < a + n → ((k : ℕ) → k < a + n → k ≢ p → f k ≡ g k) → sum_by f (range_with_len a n) + g p ≡ sum_by g (range_with_len a n) + f p
sum_one f g a zero p low high h = absurd (omega arith)
sum_one f g a (suc n) p low high h =
    let x = sum_by-cons f a (range_with_len (a + 1) n) in
    let y = sum_by-cons g a (range_with_len (a + 1) n) in
    elim (cases_eq a p) [
      | inl e ↦
          let rest = sum_same f g (a + 1) n (λ k l u. h k (omega arith) (λ z. omega arith)) in
          let fa = ap f e in
          let ga = ap g e in
          omega arith
      | inr ne ↦
          let here = h a (omega arith) ne in
          let rest = sum_one f g (a + 1) n p (omega arith) (omega arith) (λ k u z. h k (omega arith) z) in
          omega arith
    ]

pub sum_none : (f : ℕ → ℕ) (a n : ℕ) → ((k : ℕ) → a ≤ k → k < a + n → f k ≡ 0) → sum_by f (range_with_len a n) ≡ 0
sum_none f a zero h = refl
sum_none f a (suc n) h =
    let x = sum_by-cons f a (range_with_len (a + 1) n) in
    let here = h a (omega arith) (omega arith) in
    let rest = sum_none f (a + 1) n (λ k low high. h k (omega arith) (omega arith)) in
    omega arith

-- all terms but one are nothing
pub sum_single : (f : ℕ → ℕ) (n p : ℕ) → p < n → ((k : ℕ) → k ≢ p → f k ≡ 0) → sum_by f (range_with_len 0 n) ≡ f p
sum_single f n p h none =
    let a = sum_one f (λ _. 0) 0 n p (omega arith) (omega arith) (λ k u ne. none k ne) in
    let b = sum_none (λ _. 0) 0 n (λ k l u. refl) in
    omega arith

pub sum_below : {A : Type 0} (w : A → ℕ) (n : ℕ) (f : ℕ → List A) → sum_by w (each_below n f) ≡ sum_by (λ k. sum_by w (f k)) (range_with_len 0 n)
sum_below w n f = sum_flat w f (range_with_len 0 n)

pub sum_shift : (f : ℕ → ℕ) (a n : ℕ) → sum_by f (range_with_len (a + 1) n) ≡ sum_by (λ k. f (k + 1)) (range_with_len a n)
sum_shift f a zero = refl
sum_shift f a (suc n) =
    let x = sum_by-cons f (a + 1) (range_with_len (a + 1 + 1) n) in
    let y = sum_by-cons (λ k. f (k + 1)) a (range_with_len (a + 1) n) in
    let r = sum_shift f (a + 1) n in
    omega arith

-- the elements of a list by their places
pub sum_places : {A : Type 0} (g : Option A → ℕ) (h : A → ℕ) (xs : List A) → ((x : A) → g (Some x) ≡ h x) → sum_by (λ i. g (slice_get xs i)) (range_with_len 0 (length xs)) ≡ sum_by h xs
sum_places g h [] e = refl
sum_places g h (x ∷ xs) e =
    let a = sum_by-cons (λ i. g (slice_get (x ∷ xs) i)) 0 (range_with_len (0 + 1) (length xs)) in
    let b = sum_shift (λ i. g (slice_get (x ∷ xs) i)) 0 (length xs) in
    let c = sum_same (λ k. g (slice_get (x ∷ xs) (k + 1))) (λ k. g (slice_get xs k)) 0 (length xs) (λ k l u. let o : k + 1 ≡ suc k = omega arith in ap (λ i. g (slice_get (x ∷ xs) i)) o) in
    let d = sum_places g h xs e in
    let f = sum_by-cons h x xs in
    let first = e x in
    omega arith

pub sum_if : {A : Type 0} (w : A → ℕ) (b : Bool) (xs ys : List A) → sum_by w xs ≡ sum_by w ys → sum_by w (cond b xs []) ≡ cond b (sum_by w ys) 0
sum_if w true xs ys e = e
sum_if w false xs ys e = refl
