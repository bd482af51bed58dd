-- Lists that are made for the numbers of a range, and their items by place.
use Rattle.std.proofs.Common.{ℕ, ◌≡◌, ◌≤◌, ◌<◌, ◌+◌, ◌-◌, ◌++◌, ◌∷◌, [], List, length, map, get_or, zero, suc, refl, arith, append_assoc, length-append, ap, ◌∙◌}
use Rattle.std.specs.List.{flat_map, range_with_len}
use Rattle.std.proofs.lemmas.List.{get_or_append_left, get_or-append_right}

-- a range that is not empty begins with its first number
pub range_first : (i count : ℕ) → i < count → range_with_len i (count - i) ≡ i ∷ range_with_len (i + 1) (count - (i + 1))
range_first i count h = let e : count - i ≡ suc (count - (i + 1)) = omega arith in rw e refl

pub range_done : (i count : ℕ) → count ≤ i → range_with_len i (count - i) ≡ []
range_done i count h = let e : count - i ≡ 0 = omega arith in rw e refl

pub length_range : (i count : ℕ) → length (range_with_len i count) ≡ count
length_range i zero = refl
length_range i (suc count) = ap suc (length_range (i + 1) count)

pub length_mapped : {X : Type 0} (f : ℕ → X) (i count : ℕ) → length (map f (range_with_len i count)) ≡ count
length_mapped f i zero = refl
length_mapped f i (suc count) = ap suc (length_mapped f (i + 1) count)

-- the item for the number at a place
pub mapped_at : {X : Type 0} (f : ℕ → X) (i count k : ℕ) (d : X) → k < count → get_or (map f (range_with_len i count)) k d ≡ f (i + k)
mapped_at f i zero k d h = absurd (omega arith)
mapped_at f i (suc count) zero d h = ap f (omega arith)
mapped_at f i (suc count) (suc k) d h = mapped_at f (i + 1) count k d (omega arith) ∙ ap f (omega arith)

-- a place within the items that are mapped, and one behind them
pub front_at : {X : Type 0} (f : ℕ → X) (count k : ℕ) (tail : List X) (d : X) → k < count → get_or (map f (range_with_len 0 count) ++ tail) k d ≡ f k
front_at f count k tail d h =
    let within : k < length (map f (range_with_len 0 count)) = omega (arith, length_mapped f 0 count) in
    get_or_append_left _ tail d k within ∙ mapped_at f 0 count k d h ∙ ap f (omega arith)

pub behind_at : {X : Type 0} (f : ℕ → X) (count k : ℕ) (tail : List X) (d : X) → count ≤ k → get_or (map f (range_with_len 0 count) ++ tail) k d ≡ get_or tail (k - count) d
behind_at f count k tail d h = get_or-append_right (map f (range_with_len 0 count)) tail count k d (length_mapped f 0 count) h

-- the lists for the numbers from `i` on, with a tail behind them
abbrev pub rest_from : {X : Type 0} → (ℕ → List X) → ℕ → ℕ → List X → List X
rest_from f i count tail = flat_map f (range_with_len i (count - i)) ++ tail

rest_first : {X : Type 0} (f : ℕ → List X) (i count : ℕ) (tail : List X) → i < count → rest_from f i count tail ≡ f i ++ rest_from f (i + 1) count tail
rest_first f i count tail h = rw (range_first i count h) (append_assoc (f i) (flat_map f (range_with_len (i + 1) (count - (i + 1)))) tail)

-- a place in the list of the number `i`, and one behind it
pub rest_here : {X : Type 0} (f : ℕ → List X) (i count k : ℕ) (tail : List X) (d : X) → i < count → k < length (f i) → get_or (rest_from f i count tail) k d ≡ get_or (f i) k d
rest_here f i count k tail d h within = rw (rest_first f i count tail h) (get_or_append_left (f i) (rest_from f (i + 1) count tail) d k within)

pub rest_behind : {X : Type 0} (f : ℕ → List X) (i count k : ℕ) (tail : List X) (d : X) → i < count → length (f i) ≤ k → get_or (rest_from f i count tail) k d ≡ get_or (rest_from f (i + 1) count tail) (k - length (f i)) d
rest_behind f i count k tail d h past = rw (rest_first f i count tail h) (get_or-append_right (f i) (rest_from f (i + 1) count tail) (length (f i)) k d refl past)

pub rest_done : {X : Type 0} (f : ℕ → List X) (i count : ℕ) (tail : List X) → count ≤ i → rest_from f i count tail ≡ tail
rest_done f i count tail h = rw (range_done i count h) refl

-- the length of the lists for the numbers from `i` on
abbrev pub length_from : {X : Type 0} → (ℕ → List X) → ℕ → ℕ → ℕ
length_from f i count = length (flat_map f (range_with_len i (count - i)))

pub length_first : {X : Type 0} (f : ℕ → List X) (i count : ℕ) → i < count → length_from f i count ≡ length (f i) + length_from f (i + 1) count
length_first f i count h = rw (range_first i count h) (length-append (f i) (flat_map f (range_with_len (i + 1) (count - (i + 1)))))

pub length_done : {X : Type 0} (f : ℕ → List X) (i count : ℕ) → count ≤ i → length_from f i count ≡ 0
length_done f i count h = rw (range_done i count h) refl
