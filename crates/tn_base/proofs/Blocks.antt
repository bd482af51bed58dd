-- Lists that are made for the numbers of a range, where their lengths come again after each block of numbers.
use Rattle.std.proofs.Common.{ℕ, ◌≡◌, ◌≤◌, ◌+◌, ◌-◌, ◌*◌, ◌++◌, ◌∷◌, List, length, get_or, zero, suc, refl, arith, sym, append_assoc, length-append, ap, ◌∙◌}
use Rattle.std.proofs.Math.Nat.{mul-le-mul_right}
use Rattle.std.specs.List.{flat_map, range_with_len}
use Rattle.std.proofs.lemmas.Grind.{flat_map-append}
use Rattle.std.proofs.lemmas.List.{get_or-append_right}
use Rattle.tn_base.proofs.Listing.{rest_from}

-- the list of each number is as long as that of the number `m` further on
abbrev pub Repeats : {X : Type 0} → ℕ → (ℕ → List X) → Type 0
Repeats m f = (i : ℕ) → length (f (i + m)) ≡ length (f i)

range_split : (i p q : ℕ) → range_with_len i (p + q) ≡ range_with_len i p ++ range_with_len (i + p) q
range_split i zero q =
    let long : 0 + q ≡ q = omega arith in
    let start : i + 0 ≡ i = omega arith in
    rw (long, start) refl
range_split i (suc p) q =
    let long : suc p + q ≡ suc (p + q) = omega arith in
    let later : i + suc p ≡ i + 1 + p = omega arith in
    rw (long, later) (ap (λ xs. i ∷ xs) (range_split (i + 1) p q))

-- the length of the lists for `count` numbers from `i` on
abbrev span : {X : Type 0} → (ℕ → List X) → ℕ → ℕ → ℕ
span f i count = length (flat_map f (range_with_len i count))

span_next : {X : Type 0} (f : ℕ → List X) (i count : ℕ) → span f i (suc count) ≡ length (f i) + span f (i + 1) count
span_next f i count = length-append (f i) (flat_map f (range_with_len (i + 1) count))

flat_map_split : {X : Type 0} (f : ℕ → List X) (p q : ℕ) → flat_map f (range_with_len 0 (p + q)) ≡ flat_map f (range_with_len 0 p) ++ flat_map f (range_with_len p q)
flat_map_split f p q =
    let start : 0 + p ≡ p = omega arith in
    ap (flat_map f) (range_split 0 p q) ∙ flat_map-append f (range_with_len 0 p) (range_with_len (0 + p) q) ∙ ap (λ k. flat_map f (range_with_len 0 p) ++ flat_map f (range_with_len k q)) start

span_split : {X : Type 0} (f : ℕ → List X) (p q : ℕ) → span f 0 (p + q) ≡ span f 0 p + span f p q
span_split f p q = ap length (flat_map_split f p q) ∙ length-append (flat_map f (range_with_len 0 p)) (flat_map f (range_with_len p q))

-- one block further on everything is as long
span_later : {X : Type 0} (f : ℕ → List X) (m i count : ℕ) → Repeats m f → span f (i + m) count ≡ span f i count
span_later f m i zero again = refl
span_later f m i (suc count) again =
    let next : i + m + 1 ≡ i + 1 + m = omega arith in
    let rest : span f (i + m + 1) count ≡ span f (i + 1) count = ap (λ k. span f k count) next ∙ span_later f m (i + 1) count again in
    omega (arith, span_next f (i + m) count, span_next f i count, again i, rest)

-- each block is as long as the first
span_block : {X : Type 0} (f : ℕ → List X) (m b : ℕ) → Repeats m f → span f (b * m) m ≡ span f 0 m
span_block f m zero again = ap (λ k. span f k m) (omega arith)
span_block f m (suc b) again =
    let e : suc b * m ≡ b * m + m = omega arith in
    ap (λ k. span f k m) e ∙ span_later f m (b * m) m again ∙ span_block f m b again

-- so many blocks are that many times as long
pub length_blocks : {X : Type 0} (f : ℕ → List X) (m b : ℕ) → Repeats m f → length (flat_map f (range_with_len 0 (b * m))) ≡ b * length (flat_map f (range_with_len 0 m))
length_blocks f m zero again =
    let empty : 0 * m ≡ 0 = omega arith in
    let none : span f 0 (0 * m) ≡ 0 = rw empty refl in
    omega (arith, none)
length_blocks f m (suc b) again =
    let e : suc b * m ≡ b * m + m = omega arith in
    let parted : span f 0 (suc b * m) ≡ span f 0 (b * m) + span f (b * m) m = ap (λ k. span f 0 k) e ∙ span_split f (b * m) m in
    omega (arith, parted, length_blocks f m b again, span_block f m b again)

-- a place behind `b` of `count` blocks is one among the lists from the number `b * m` on
pub behind_blocks : {X : Type 0} (f : ℕ → List X) (m b count total k : ℕ) (tail : List X) (d : X) → Repeats m f → count * m ≡ total → b ≤ count → b * length (flat_map f (range_with_len 0 m)) ≤ k →
    get_or (rest_from f (b * m) total tail) (k - b * length (flat_map f (range_with_len 0 m))) d ≡ get_or (flat_map f (range_with_len 0 total) ++ tail) k d
behind_blocks f m b count total k tail d again e h past =
    let fits : b * m ≤ count * m = mul-le-mul_right m h in
    let whole : total ≡ b * m + (total - b * m) = omega arith in
    let parted = ap (λ q. flat_map f (range_with_len 0 q)) whole ∙ flat_map_split f (b * m) (total - b * m) in
    sym (ap (λ xs. get_or (xs ++ tail) k d) parted
    ∙ ap (λ xs. get_or xs k d) (append_assoc (flat_map f (range_with_len 0 (b * m))) (flat_map f (range_with_len (b * m) (total - b * m))) tail)
    ∙ get_or-append_right (flat_map f (range_with_len 0 (b * m))) (rest_from f (b * m) total tail) _ k d (length_blocks f m b again) past)
