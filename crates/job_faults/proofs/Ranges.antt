-- Lists that are gone through from the front.
use Rattle.std.proofs.Common.{ℕ, ◌≡◌, ◌≤◌, ◌<◌, ◌+◌, ◌-◌, ◌∷◌, ◌++◌, [], Bool, true, false, List, append_assoc, length, drop, get_or, map, zero, suc, refl, arith, add-one, drop-cons}
use Rattle.std.specs.List.{AllByRecursion, list_any, range_with_len}
use Rattle.std.proofs.lemmas.List.{append-nil, drop_all}

-- an item, and the items behind it
pub rest_first : {X : Type 0} (xs : List X) (i : ℕ) (x : X) → i < length xs → x ≡ get_or xs i x → drop i xs ≡ x ∷ drop (i + 1) xs
rest_first xs i x h is = rw (drop-cons xs i x h, ← is, add-one) refl

pub range_first : (i count : ℕ) → i < count → range_with_len i (count - i) ≡ i ∷ range_with_len (i + 1) (count - (i + 1))
range_first i count h = let e : count - i ≡ suc (count - (i + 1)) = omega arith in rw e refl

pub range_done : (i count : ℕ) → count ≤ i → range_with_len i (count - i) ≡ []
range_done i count h = let e : count - i ≡ 0 = omega arith in rw e refl

-- whether a number from `i` on passes the test
abbrev pub any_from : (ℕ → Bool) → ℕ → ℕ → Bool
any_from test i count = list_any test (range_with_len i (count - i))

pub any_here : (test : ℕ → Bool) (i count : ℕ) → i < count → test i ≡ true → any_from test i count ≡ true
any_here test i count h e = rw (range_first i count h, e) refl

pub any_behind : (test : ℕ → Bool) (i count : ℕ) → i < count → test i ≡ false → any_from test (i + 1) count ≡ any_from test i count
any_behind test i count h e = rw (range_first i count h, e) refl

pub any_done : (test : ℕ → Bool) (i count : ℕ) → count ≤ i → any_from test i count ≡ false
any_done test i count h = rw (range_done i count h) refl

-- Lists that are made for the numbers of a range, or from the items of another list.

pub map_same : {X Y : Type 0} (f g : X → Y) (xs : List X) → ((x : X) → f x ≡ g x) → map f xs ≡ map g xs
map_same f g [] e = refl
map_same f g (x ∷ xs) e = rw (e x, map_same f g xs e) refl

pub more_mapped : {X : Type 0} (f : ℕ → X) (i count : ℕ) (made : List X) (x : X) → i < count → x ≡ f i →
    (made ++ x ∷ []) ++ map f (range_with_len (i + 1) (count - (i + 1))) ≡ made ++ map f (range_with_len i (count - i))
more_mapped f i count made x h e = rw (range_first i count h, e) (append_assoc made (f i ∷ []) (map f (range_with_len (i + 1) (count - (i + 1)))))

pub all_mapped : {X : Type 0} (f : ℕ → X) (i count : ℕ) (made : List X) → count ≤ i → made ++ map f (range_with_len i (count - i)) ≡ made
all_mapped f i count made h = rw (range_done i count h) (append-nil made)

pub more_made : {X Y : Type 0} (f : X → Y) (xs : List X) (i : ℕ) (made : List Y) (y : Y) (d : X) → i < length xs → y ≡ f (get_or xs i d) →
    (made ++ y ∷ []) ++ map f (drop (i + 1) xs) ≡ made ++ map f (drop i xs)
more_made f xs i made y d h e = rw (drop-cons xs i d h, e, add-one) (append_assoc made (f (get_or xs i d) ∷ []) (map f (drop (suc i) xs)))

pub all_made : {X Y : Type 0} (f : X → Y) (xs : List X) (i : ℕ) (made : List Y) → length xs ≤ i → made ++ map f (drop i xs) ≡ made
all_made f xs i made h = rw (drop_all i xs h) (append-nil made)

-- Items that each have a property.

pub all_in_range : {X : Type 0} (P : X → Type 0) (f : ℕ → X) (i count : ℕ) → ((k : ℕ) → k < i + count → P (f k)) → AllByRecursion P (map f (range_with_len i count))
all_in_range P f i zero h = tt
all_in_range P f i (suc count) h = (h i (omega arith), all_in_range P f (i + 1) count (λ k less. h k (omega arith)))

pub all_at : {X : Type 0} (P : X → Type 0) (xs : List X) (k : ℕ) (d : X) → AllByRecursion P xs → P d → P (get_or xs k d)
all_at P [] k d all past = past
all_at P (x ∷ xs) zero d all past = all.0
all_at P (x ∷ xs) (suc k) d all past = all_at P xs k d all.1 past
