-- Adding vertices to an order.
use Rattle.std.proofs.Common.{◌≡◌, ◌≢◌, ◌<◌, ℕ, suc, zero, ◌+◌, eqb, Bool, true, false, ◌||◌, List, [], ◌∷◌, ◌++◌, length, get_or, set, refl, sym, ◌∙◌, arith, length-set}
use Rattle.std.proofs.lemmas.Grind.{common_steps}
use Rattle.std.proofs.lemmas.Bool.Decides.{nat_tests}
use Rattle.polite_place.specs.Order.{has, times, AllBelow}
use Rattle.polite_place.specs.Scan.{add, Synced}

pub has-append : (xs ys : List ℕ) (v : ℕ) → has (xs ++ ys) v ≡ (has xs v || has ys v)
has-append [] ys v = refl
has-append (x ∷ xs) ys v = elim (eqb x v) as (λ b. (b || has (xs ++ ys) v) ≡ ((b || has xs v) || has ys v)) [ true ↦ refl | false ↦ has-append xs ys v ]

pub times-append : (xs ys : List ℕ) (v : ℕ) → times (xs ++ ys) v ≡ times xs v + times ys v
times-append [] ys v = omega arith
times-append (x ∷ xs) ys v = let h = times-append xs ys v in omega arith

pub add-old : (order : List ℕ) (v : ℕ) → has order v ≡ true → add order v ≡ order
add-old order v h = rw h refl

pub add-new : (order : List ℕ) (v : ℕ) → has order v ≡ false → add order v ≡ order ++ v ∷ []
add-new order v h = rw h refl

or-true : (b : Bool) → (b || true) ≡ true
or-true true = refl
or-true false = refl

pub or-false : (b : Bool) → (b || false) ≡ b
or-false true = refl
or-false false = refl

set_here : (met : List Bool) (v u : ℕ) → v < length met → v ≡ u → get_or (set met v true) u false ≡ true
set_here met v u h e = grind (arith, common_steps)

set_there : (met : List Bool) (v u : ℕ) → v ≢ u → get_or (set met v true) u false ≡ get_or met u false
set_there met v u h = grind (arith, common_steps)

-- flags after a new vertex
sync_at : (order : List ℕ) (met : List Bool) (v u : ℕ) → Synced order met → v < length met → u < length met → (e : Bool) → e ≡ eqb v u → get_or (set met v true) u false ≡ (has order u || (e || false))
sync_at order met v u s hv hu true e = let i : v ≡ u = grind (arith, nat_tests) in set_here met v u hv i ∙ sym (or-true (has order u))
sync_at order met v u s hv hu false e = let i : v ≢ u = grind (arith, nat_tests) in set_there met v u i ∙ s.flags u hu ∙ sym (or-false (has order u))

pub synced-new : (order : List ℕ) (met : List Bool) (v : ℕ) → Synced order met → v < length met → Synced (order ++ v ∷ []) (set met v true)
synced-new order met v s hv =
    record { flags = λ u hu. let l : u < length met = omega (arith, length-set {A = Bool}) in sync_at order met v u s hv l (eqb v u) refl ∙ sym (has-append order (v ∷ []) u) }

pub all_below_at : (n : ℕ) (xs : List ℕ) (i : ℕ) → AllBelow n xs → i < length xs → get_or xs i 0 < n
all_below_at n [] i a h = absurd (omega arith)
all_below_at n (x ∷ xs) zero a h = a.0
all_below_at n (x ∷ xs) (suc i) a h = all_below_at n xs i a.1 (omega arith)
