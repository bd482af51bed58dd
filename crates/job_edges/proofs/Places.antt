-- The threads of a graph's job, by address.
use Rattle.std.proofs.Common.{ℕ, ◌≡◌, ◌≢◌, ◌<◌, ◌≤◌, ◌+◌, ◌∙◌, [], IsTrue, List, Bool, true, false, cond, eqb, zero, suc, get_or, length, map, refl, sym, ap, arith}
use Rattle.std.proofs.lemmas.Bool.Decides.{nat_tests}
use Rattle.std.proofs.lemmas.List.{get_or_past}
use Rattle.std.proofs.lemmas.List.FromFn.{get_or-map-range_with_len, length-map-range_with_len}
use Rattle.std.specs.List.{range_with_len}
use Rattle.tn_base.specs.declared.shape.ShapeNumbers.{ShapeNumbers}
use Rattle.tn_base.specs.Address.{has_thread, thread_at}
use Rattle.tn_base.specs.Shape.{WithinLimits, thread_count}
use Rattle.tn_base.proofs.Places.{orders_threads}
use Rattle.polite_place.specs.Seats.{place_in}
use Rattle.polite_place.proofs.Apart.{place_back}
use Rattle.polite_routes.specs.Answer.{thread_place}
use Rattle.job_load.specs.Graph.{place_of}
use Rattle.job_load.proofs.Places.{place_of_below, place_there_at}
use Rattle.tn_host.specs.Script.{host_address}

-- the place of a number in the rising numbers
place_again : (f : ℕ → ℕ) (count i : ℕ) → ((j k : ℕ) → j < k → k < count → f j < f k) → i < count → place_in (map f (range_with_len 0 count)) (f i) ≡ i
place_again f count i rising h =
    let xs : List ℕ = map f (range_with_len 0 count) in
    let long : length xs ≡ count = length-map-range_with_len f 0 count in
    let here : get_or xs i 0 ≡ f i = get_or-map-range_with_len f 0 count i i 0 h (omega arith) in
    ap (place_in xs) (sym here) ∙ place_back xs i (omega arith) (λ j less same.
    let there : get_or xs j 0 ≡ f j = get_or-map-range_with_len f 0 count j j 0 (omega arith) (omega arith) in
    let rises = rising j i less h in
    omega arith)

-- a thread has the same place by both definitions
pub place_is : (n : ShapeNumbers) (a : ℕ) → WithinLimits n → IsTrue (has_thread n a) → thread_place n a ≡ place_of n a
place_is n a l there =
    let o = orders_threads n l in
    ap (thread_place n) (sym (place_there_at n a l there)) ∙ place_again (thread_at n) (thread_count n) (place_of n a) o.rising (place_of_below n a l there)

no_place : (f : ℕ → ℕ) (i m a : ℕ) → ((k : ℕ) → i ≤ k → k < i + m → f k ≢ a) → place_in (map f (range_with_len i m)) a ≡ m
no_place f i zero a other = refl
no_place f i (suc m) a other = by (eqb (f i) a) refl (no_place f (i + 1) m a (λ k low high. other k (omega arith) (omega arith))) where
  by : (b : Bool) → b ≡ eqb (f i) a → place_in (map f (range_with_len (i + 1) m)) a ≡ m → cond b 0 (suc (place_in (map f (range_with_len (i + 1) m)) a)) ≡ suc m
  by true is rest = absurd (other i (omega arith) (omega arith) (grind (arith, nat_tests)))
  by false is rest = ap suc rest

-- the host is no thread
pub no_host_place : (n : ShapeNumbers) → WithinLimits n → thread_place n host_address ≡ thread_count n
no_host_place n l =
    let o = orders_threads n l in
    no_place (thread_at n) 0 (thread_count n) host_address (λ k low high same.
    let there : has_thread n host_address ≡ true = ap (has_thread n) (sym same) ∙ o.there k (omega arith) in
    absurd (cc there))

pub none_past : {X : Type 0} (xs : List (List X)) (k count : ℕ) → length xs ≡ count → k ≡ count → get_or xs k [] ≡ []
none_past xs k count long e = get_or_past xs k [] (omega arith)
