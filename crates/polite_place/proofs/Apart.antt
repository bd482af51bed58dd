-- Each vertex stands once in the order, so that its place is written once.
use Rattle.std.proofs.Common.{cond, Bool, false, ap, ◌≡◌, ◌≢◌, ◌<◌, ◌≤◌, ℕ, suc, zero, ◌+◌, eqb, true, List, [], ◌∷◌, length, get_or, refl, arith}
use Rattle.std.proofs.lemmas.Bool.Decides.{nat_tests}
use Rattle.polite_place.specs.Order.{times, Once}
use Rattle.polite_place.specs.Seats.{place_in}
use Rattle.polite_place.proofs.Adds.{all_below_at}

same_eqb : (a b : ℕ) → a ≡ b → eqb a b ≡ true
same_eqb a b h = grind (arith, nat_tests)

times_some : (xs : List ℕ) (k v : ℕ) → k < length xs → get_or xs k 0 ≡ v → 1 ≤ times xs v
times_some [] k v h e = absurd (omega arith)
times_some (x ∷ xs) zero v h e = rw (same_eqb x v e) (omega arith)
times_some (x ∷ xs) (suc k) v h e = let t = times_some xs k v (omega arith) e in omega arith

times_two : (xs : List ℕ) (j k v : ℕ) → j < k → k < length xs → get_or xs j 0 ≡ v → get_or xs k 0 ≡ v → 2 ≤ times xs v
times_two [] j k v h l e f = absurd (omega arith)
times_two (x ∷ xs) j zero v h l e f = absurd (omega arith)
times_two (x ∷ xs) zero (suc k) v h l e f = let t = times_some xs k v (omega arith) f in rw (same_eqb x v e) (omega arith)
times_two (x ∷ xs) (suc j) (suc k) v h l e f = let t = times_two xs j k v (omega arith) (omega arith) e f in omega arith

pub apart : (n : ℕ) (xs : List ℕ) (j k : ℕ) → Once n xs → j < k → k < length xs → get_or xs j 0 ≢ get_or xs k 0
apart n xs j k o h l e =
    let b = all_below_at n xs k o.below l in
    let t = times_two xs j k (get_or xs k 0) h l e refl in
    let u = o.once (get_or xs k 0) b in
    omega arith

same_place : (x v : ℕ) (p k : ℕ) (b : Bool) → b ≡ eqb x v → (x ≡ v → 0 ≡ k) → (x ≢ v → suc p ≡ k) → cond b 0 (suc p) ≡ k
same_place x v p k true e here there = here (grind (arith, nat_tests))
same_place x v p k false e here there = there (grind (arith, nat_tests))

-- the place of the vertex that stands at k
pub place_back : (xs : List ℕ) (k : ℕ) → k < length xs → ((j : ℕ) → j < k → get_or xs j 0 ≢ get_or xs k 0) → place_in xs (get_or xs k 0) ≡ k
place_back [] k h d = absurd (omega arith)
place_back (x ∷ xs) zero h d = same_place x x (place_in xs x) 0 (eqb x x) refl (λ _. refl) (λ ne. absurd (ne refl))
place_back (x ∷ xs) (suc k) h d =
    same_place x (get_or xs k 0) (place_in xs (get_or xs k 0)) (suc k) (eqb x (get_or xs k 0)) refl
    (λ e. absurd (d 0 (omega arith) e))
    (λ ne. ap suc (place_back xs k (omega arith) (λ j lt. d (suc j) (omega arith))))

stands_by : (x : ℕ) (xs : List ℕ) (v : ℕ) (b : Bool) → b ≡ eqb x v → (1 ≤ times xs v → (place_in xs v < length xs) × (get_or xs (place_in xs v) 0 ≡ v)) → 1 ≤ cond b 1 0 + times xs v
    → (cond b 0 (suc (place_in xs v)) < length (x ∷ xs)) × (get_or (x ∷ xs) (cond b 0 (suc (place_in xs v))) 0 ≡ v)
stands_by x xs v true e rest t = let i : x ≡ v = grind (arith, nat_tests) in (omega arith, i)
stands_by x xs v false e rest t = let r = rest (omega arith) in let l = r.0 in (omega arith, r.1)

-- a vertex that stands somewhere stands at its place
pub stands : (xs : List ℕ) (v : ℕ) → 1 ≤ times xs v → (place_in xs v < length xs) × (get_or xs (place_in xs v) 0 ≡ v)
stands [] v h = absurd (omega arith)
stands (x ∷ xs) v h = stands_by x xs v (eqb x v) refl (stands xs v) h
