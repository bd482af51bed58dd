-- Lists that are made over a range.
use Rattle.std.proofs.Common.{◌≡◌, ◌∙◌, ℕ, zero, suc, ◌+◌, ◌*◌, ◌<◌, ◌≤◌, List, [], ◌∷◌, ◌++◌, refl, ap, arith}
use Rattle.std.specs.List.{flat_map, range_with_len}
use Rattle.std.proofs.lemmas.Grind.{flat_map-append}

range_split : (i p q : ℕ) → range_with_len i (p + q) ≡ range_with_len i p ++ range_with_len (i + p) q
range_split i zero q = let e : zero + q ≡ q = omega arith in let h : i + zero ≡ i = omega arith in rw (e, h) refl
range_split i (suc p) q = let e : suc p + q ≡ suc (p + q) = omega arith in let h : i + suc p ≡ i + 1 + p = omega arith in rw (e, h) (ap (λ xs. i ∷ xs) (range_split (i + 1) p q))

pub flat_split : {A : Type 0} (f : ℕ → List A) (i p q : ℕ) → flat_map f (range_with_len i (p + q)) ≡ flat_map f (range_with_len i p) ++ flat_map f (range_with_len (i + p) q)
flat_split f i p q = ap (flat_map f) (range_split i p q) ∙ flat_map-append f (range_with_len i p) (range_with_len (i + p) q)

-- a range that begins later
pub flat_shift : {A : Type 0} (f : ℕ → List A) (a i n : ℕ) → flat_map f (range_with_len (a + i) n) ≡ flat_map (λ k. f (a + k)) (range_with_len i n)
flat_shift f a i zero = refl
flat_shift f a i (suc n) = let e : a + i + 1 ≡ a + (i + 1) = omega arith in rw e (ap (λ xs. f (a + i) ++ xs) (flat_shift f a (i + 1) n))

pub flat_same : {A : Type 0} (f g : ℕ → List A) (i n : ℕ) → ((k : ℕ) → i ≤ k → k < i + n → f k ≡ g k) → flat_map f (range_with_len i n) ≡ flat_map g (range_with_len i n)
flat_same f g i zero same = refl
flat_same f g i (suc n) same =
    let here = same i (omega arith) (omega arith) in
    let more = flat_same f g (i + 1) n (λ k low high. same k (omega arith) (omega arith)) in
    rw (here, more) refl

pub flat_none : {A : Type 0} (f : ℕ → List A) (i n : ℕ) → ((k : ℕ) → i ≤ k → k < i + n → f k ≡ []) → flat_map f (range_with_len i n) ≡ []
flat_none f i zero none = refl
flat_none f i (suc n) none =
    let here = none i (omega arith) (omega arith) in
    let more = flat_none f (i + 1) n (λ k low high. none k (omega arith) (omega arith)) in
    rw (here, more) refl

-- a range in blocks
blocks_on : {A : Type 0} (f : ℕ → List A) (m t c : ℕ) → flat_map f (range_with_len (t * m) (c * m)) ≡ flat_map (λ b. flat_map (λ k. f (b * m + k)) (range_with_len 0 m)) (range_with_len t c)
blocks_on f m t zero = let e : zero * m ≡ 0 = omega arith in rw e refl
blocks_on {A = A} f m t (suc c) =
    let e : suc c * m ≡ m + c * m = omega arith in
    let h : t * m + m ≡ (t + 1) * m = omega arith in
    let z : t * m ≡ t * m + 0 = omega arith in
    let first : flat_map f (range_with_len (t * m) m) ≡ flat_map (λ k. f (t * m + k)) (range_with_len 0 m) =
    ap (λ (x : ℕ). flat_map f (range_with_len x m)) z ∙ flat_shift f (t * m) 0 m in
    let rest : flat_map f (range_with_len (t * m + m) (c * m)) ≡ flat_map (λ b. flat_map (λ k. f (b * m + k)) (range_with_len 0 m)) (range_with_len (t + 1) c) =
    rw h (blocks_on f m (t + 1) c) in
    ap (λ (x : ℕ). flat_map f (range_with_len (t * m) x)) e ∙ flat_split f (t * m) m (c * m)
    ∙ ap (λ (xs : List A). xs ++ flat_map f (range_with_len (t * m + m) (c * m))) first
    ∙ ap (λ (xs : List A). flat_map (λ k. f (t * m + k)) (range_with_len 0 m) ++ xs) rest

pub blocks : {A : Type 0} (f : ℕ → List A) (m c : ℕ) → flat_map f (range_with_len 0 (c * m)) ≡ flat_map (λ b. flat_map (λ k. f (b * m + k)) (range_with_len 0 m)) (range_with_len 0 c)
blocks f m c = let z : 0 * m ≡ 0 = omega arith in rw z at (blocks_on f m 0 c)
