-- Lists of which one element is changed, and how often a number stands in a list.
use Rattle.std.proofs.Common.{ℕ, ◌+◌, ◌<◌, ◌≤◌, ◌≡◌, ◌⊎◌, ◌==◌, ◌&&◌, Bool, true, false, cond, List, [], ◌∷◌, ◌++◌, length, None, get_or, set, map, replicate, zero, suc, refl, inl, inr, arith}
use Rattle.std.specs.Int.{bit_at}
use Rattle.std.proofs.lemmas.Nat.Bits.{bit_at-lt}
use Rattle.std.proofs.lemmas.Bool.{cases_eq, eq-eqb, ne_eqb}
use Rattle.std.proofs.lemmas.Grind.{common_steps}
use Rattle.std.proofs.lemmas.List.Sums.{fails_before_first, sum_by-cons, sum_by_push}
use Rattle.std.specs.List.{position, position_or_len}
use Rattle.tn_slots.specs.WellKept.{times}

-- an element is changed so that g cannot tell: g of each place is as it was
pub kept_by_set : {X Y : Type 0} (g : X → Y) (xs : List X) (i k : ℕ) (y d : X) → g y ≡ g (get_or xs i d) → g (get_or (set xs i y) k d) ≡ g (get_or xs k d)
kept_by_set g [] i k y d e = refl
kept_by_set g (x ∷ xs) zero zero y d e = e
kept_by_set g (x ∷ xs) zero (suc k) y d e = refl
kept_by_set g (x ∷ xs) (suc i) zero y d e = refl
kept_by_set g (x ∷ xs) (suc i) (suc k) y d e = kept_by_set g xs i k y d e

-- what holds at each place, and of what is written, holds at each place after the write
pub set_each : {X : Type 0} (P : X → Type 0) (xs : List X) (i : ℕ) (y d : X) → P y → ((k : ℕ) → P (get_or xs k d)) → (k : ℕ) → P (get_or (set xs i y) k d)
set_each P [] i y d new all k = all k
set_each P (x ∷ xs) zero y d new all zero = new
set_each P (x ∷ xs) zero y d new all (suc k) = all (suc k)
set_each P (x ∷ xs) (suc i) y d new all zero = all 0
set_each P (x ∷ xs) (suc i) y d new all (suc k) = set_each P xs i y d new (λ j. all (suc j)) k

-- what f keeps holds at each place after f
pub map_each : {X : Type 0} (P : X → Type 0) (f : X → X) (xs : List X) (d : X) → ((k : ℕ) → P (get_or xs k d)) → ((x : X) → P x → P (f x)) → (k : ℕ) → P (get_or (map f xs) k d)
map_each P f [] d all keeps k = all k
map_each P f (x ∷ xs) d all keeps zero = keeps x (all 0)
map_each P f (x ∷ xs) d all keeps (suc k) = map_each P f xs d (λ j. all (suc j)) keeps k

pub replicate_each : {X : Type 0} (P : X → Type 0) (n : ℕ) (x d : X) → P x → P d → (k : ℕ) → P (get_or (replicate n x) k d)
replicate_each P zero x d here past k = past
replicate_each P (suc n) x d here past zero = here
replicate_each P (suc n) x d here past (suc k) = replicate_each P n x d here past k

pub times-cons : (x y : ℕ) (ys : List ℕ) → times x (y ∷ ys) ≡ cond (y == x) 1 0 + times x ys
times-cons x y ys = sum_by-cons (λ z. cond (z == x) 1 0) y ys

pub times_push : (x : ℕ) (ys : List ℕ) (y : ℕ) → times x (ys ++ y ∷ []) ≡ times x ys + cond (y == x) 1 0
times_push x ys y = sum_by_push (λ z. cond (z == x) 1 0) ys y

pub times_first : (x : ℕ) (ys : List ℕ) → times x (x ∷ ys) ≡ 1 + times x ys
times_first x ys = rw (times-cons x x ys, eq-eqb x x refl)

pub times_other : (x y : ℕ) (ys : List ℕ) → (y ≡ x → ⊥) → times x (y ∷ ys) ≡ times x ys
times_other x y ys ne = rw (times-cons x y ys, ne_eqb y x ne) (omega arith)

pub times_push_same : (x : ℕ) (ys : List ℕ) → times x (ys ++ x ∷ []) ≡ times x ys + 1
times_push_same x ys = rw (times_push x ys x, eq-eqb x x refl)

pub times_push_other : (x y : ℕ) (ys : List ℕ) → (y ≡ x → ⊥) → times x (ys ++ y ∷ []) ≡ times x ys
times_push_other x y ys ne = rw (times_push x ys y, ne_eqb y x ne) (omega arith)

-- a bit is 0 or 1
pub bit_cases : (n i : ℕ) → (bit_at n i ≡ 1) ⊎ (bit_at n i ≡ 0)
bit_cases n i = elim (cases_eq (bit_at n i) 1) [ inl e ↦ inl e | inr ne ↦ let h = bit_at-lt n i in inr (omega arith) ]

pub both_true : (a b : Bool) → (a && b) ≡ true → (a ≡ true) × (b ≡ true)
both_true true b h = (refl, h)
both_true false b h = absurd cc

pub is_zero : (n : ℕ) → (n == 0) ≡ true → n ≡ 0
is_zero n h = elim (cases_eq n 0) [ inl e ↦ e | inr ne ↦ absurd (let f = ne_eqb n 0 ne in cc) ]

-- where nothing is found, nothing passes the test
pub position_none : {X : Type 0} (p : X → Bool) (xs : List X) (i : ℕ) (d : X) → position p xs ≡ None → i < length xs → p (get_or xs i d) ≡ false
position_none p xs i d e h =
    let past : length xs ≤ position_or_len p xs = grind (arith, common_steps) in
    fails_before_first p xs i d (omega arith)
