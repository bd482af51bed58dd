-- In-edges by thread, and by address.
use Rattle.std.proofs.Common.{◌≡◌, ◌≢◌, ◌<◌, ◌≤◌, ℕ, suc, zero, ◌+◌, ◌/◌, eqb, cond, Bool, true, false, List, [], ◌∷◌, length, get_or, map, refl, sym, ◌∙◌, ap, arith}
use Rattle.std.proofs.lemmas.Bool.Decides.{nat_tests}
use Rattle.std.proofs.lemmas.Bool.{or_parts}
use Rattle.std.proofs.lemmas.List.{get_or_past}
use Rattle.std.proofs.lemmas.List.FromFn.{get_or-map-range_with_len, length-map-range_with_len}
use Rattle.std.proofs.lemmas.List.Sums.{sum_by-cons}
use Rattle.std.specs.List.{All, filter, list_any, range_with_len, sum_by}
use Rattle.tn_base.specs.declared.shape.ShapeNumbers.{ShapeNumbers}
use Rattle.tn_base.specs.Address.{has_thread, thread_at}
use Rattle.tn_base.specs.Shape.{WithinLimits, thread_count}
use Rattle.tn_base.proofs.Places.{orders_threads}
use Rattle.polite_place.specs.Seats.{place_in}
use Rattle.polite_switch.specs.declared.device.InEdge.{InEdge}
use Rattle.polite_routes.specs.declared.target.Pin.{Pin}
use Rattle.polite_routes.specs.declared.target.Target.{Target}
use Rattle.polite_routes.specs.Answer.{lists_in, thread_place}
use Rattle.polite_routes.specs.Hops.{Hop}
use Rattle.polite_routes.specs.Once.{AllFind, EachOnce, Lists}
use Rattle.polite_routes.specs.Routes.{PinThere, PinsThere, in_edges_of, in_lists, lists_to}
use Rattle.polite_routes.specs.Targets.{edges_to, reaches}
use Rattle.polite_routes.proofs.Each.{not_to}
use Rattle.polite_routes.proofs.Marks.{to}

-- the place of an item of a rising list
place_at : (f : ℕ → ℕ) (b m i : ℕ) → ((j k : ℕ) → j < k → k < b + m → f j < f k) → i < m → place_in (map f (range_with_len b m)) (f (b + i)) ≡ i
place_at f b zero i up h = absurd (omega arith)
place_at f b (suc m) zero up h = by (eqb (f b) (f (b + 0))) refl where
  by : (v : Bool) → v ≡ eqb (f b) (f (b + 0)) → cond v 0 (suc (place_in (map f (range_with_len (b + 1) m)) (f (b + 0)))) ≡ 0
  by true e = refl
  by false e = absurd (let s : b + 0 ≡ b = omega arith in let t = ap f s in let n : f b ≢ f (b + 0) = grind (arith, nat_tests) in n (sym t))
place_at f b (suc m) (suc i) up h = by (eqb (f b) (f (b + suc i))) refl (place_at f (b + 1) m i (λ j k l q. up j k l (omega arith)) (omega arith)) where
  by : (v : Bool) → v ≡ eqb (f b) (f (b + suc i)) → place_in (map f (range_with_len (b + 1) m)) (f (b + 1 + i)) ≡ i → cond v 0 (suc (place_in (map f (range_with_len (b + 1) m)) (f (b + suc i)))) ≡ suc i
  by true e r = absurd (let u = up b (b + suc i) (omega arith) (omega arith) in let s : f b ≡ f (b + suc i) = grind (arith, nat_tests) in omega arith)
  by false e r = let s : b + suc i ≡ b + 1 + i = omega arith in ap suc (ap (λ x. place_in (map f (range_with_len (b + 1) m)) (f x)) s ∙ r)

-- what is not in a list
no_place : (f : ℕ → ℕ) (b m a : ℕ) → ((i : ℕ) → b ≤ i → i < b + m → f i ≢ a) → place_in (map f (range_with_len b m)) a ≡ m
no_place f b zero a h = refl
no_place f b (suc m) a h = by (eqb (f b) a) refl (no_place f (b + 1) m a (λ i l q. h i (omega arith) (omega arith))) where
  by : (v : Bool) → v ≡ eqb (f b) a → place_in (map f (range_with_len (b + 1) m)) a ≡ m → cond v 0 (suc (place_in (map f (range_with_len (b + 1) m)) a)) ≡ suc m
  by true e r = absurd (let s : f b ≡ a = grind (arith, nat_tests) in h b (omega arith) (omega arith) s)
  by false e r = ap suc r

no_edges : (ts : List Target) (a : ℕ) → list_any (to a) ts ≡ false → edges_to ts a ≡ []
no_edges [] a h = refl
no_edges (t ∷ ts) a h =
    let p = or_parts (eqb t.thread.0 a) (list_any (to a) ts) h in
    ap (λ b. map (λ (x : Target). x.edge) (cond b (t ∷ filter (λ (x : Target). eqb x.thread.0 a) ts) (filter (λ (x : Target). eqb x.thread.0 a) ts))) p.0 ∙ no_edges ts a p.1

-- an address of no thread has no in-edges
none_from : (n : ShapeNumbers) (a k : ℕ) (ps : List Pin) → All (PinThere n) ps → (has_thread n a ≡ true → ⊥) → get_or (map (λ (p : Pin). edges_to p.targets a) (filter (λ (p : Pin). reaches p.targets (a / 64)) ps)) k [] ≡ []
none_from n a k [] h f = refl
none_from n a k (p ∷ ps) h f =
    by k (reaches p.targets (a / 64)) (no_edges p.targets a (not_to n p.targets a (h 0 p (omega arith)).targets.there f)) (λ j. none_from n a j ps (λ i d l. h (suc i) d (omega arith)) f) where
      by : (j : ℕ) (b : Bool) → edges_to p.targets a ≡ [] → ((i : ℕ) → get_or (map (λ (q : Pin). edges_to q.targets a) (filter (λ (q : Pin). reaches q.targets (a / 64)) ps)) i [] ≡ [])
          → get_or (map (λ (q : Pin). edges_to q.targets a) (cond b (p ∷ filter (λ (q : Pin). reaches q.targets (a / 64)) ps) (filter (λ (q : Pin). reaches q.targets (a / 64)) ps))) j [] ≡ []
      by zero true e r = e
      by (suc j) true e r = r j
      by j false e r = r j

none_listed : (n : ShapeNumbers) (ps : List Pin) (a k : ℕ) → PinsThere n ps → (has_thread n a ≡ true → ⊥) → in_lists ps a k ≡ []
unfolding lists_to
none_listed n ps a k h f = none_from n a k ps h.each f

place_first : (f : ℕ → ℕ) (m i : ℕ) → ((j k : ℕ) → j < k → k < 0 + m → f j < f k) → i < m → place_in (map f (range_with_len 0 m)) (f i) ≡ i
place_first f m i up h = let z : i ≡ 0 + i = omega arith in ap (λ x. place_in (map f (range_with_len 0 m)) (f x)) z ∙ place_at f 0 m i up h

from_zero : (m i : ℕ) → i < 0 + m → i < m
from_zero m i h = omega arith

-- in-edges by thread say the same as by address
pub same_lists : (n : ShapeNumbers) (ps : List Pin) (a k : ℕ) → WithinLimits n → PinsThere n ps → lists_in n (in_edges_of n ps) a k ≡ in_lists ps a k
same_lists n ps a k l h = by (has_thread n a) refl where
  f : ℕ → List (List InEdge)
  f i = lists_to ps (thread_at n i)

  by : (v : Bool) → v ≡ has_thread n a → lists_in n (in_edges_of n ps) a k ≡ in_lists ps a k
  by true e =
      let o = orders_threads n l in
      let t = o.each a (sym e) in
      let p : thread_place n a ≡ t.0 = ap (thread_place n) (sym t.2) ∙ place_first (thread_at n) (thread_count n) t.0 (λ i j x y. o.rising i j x (from_zero (thread_count n) j y)) t.1 in
      ap (λ i. get_or (get_or (in_edges_of n ps) i []) k []) p ∙ ap (λ (xs : List (List InEdge)). get_or xs k []) (get_or-map-range_with_len f 0 (thread_count n) t.0 t.0 [] t.1 (omega arith)) ∙ ap (λ b. in_lists ps b k) t.2
  by false e =
      let o = orders_threads n l in
      let none : has_thread n a ≡ true → ⊥ = λ q. absurd (cc (e, q)) in
      let p : thread_place n a ≡ thread_count n = no_place (thread_at n) 0 (thread_count n) a (λ i x y q. none (ap (has_thread n) (sym q) ∙ o.there i (from_zero (thread_count n) i y))) in
      let past : get_or (in_edges_of n ps) (thread_count n) [] ≡ [] = get_or_past (in_edges_of n ps) (thread_count n) [] (let c = length-map-range_with_len f 0 (thread_count n) in omega arith) in
      ap (λ i. get_or (get_or (in_edges_of n ps) i []) k []) p ∙ ap (λ (xs : List (List InEdge)). get_or xs k []) past ∙ sym (none_listed n ps a k h none)

sums_same : (f g : Hop → ℕ) (hs : List Hop) → ((h : Hop) → f h ≡ g h) → sum_by f hs ≡ sum_by g hs
sums_same f g [] h = refl
sums_same f g (x ∷ xs) h = let a = sum_by-cons f x xs in let b = sum_by-cons g x xs in let e = h x in let r = sums_same f g xs h in omega arith

-- lists that say the same find the same
pub once_same : (new old : Lists) (hops : List Hop) (targets : List Target) (local : ℕ → ℕ) → ((a k : ℕ) → new a k ≡ old a k) → EachOnce old hops targets local → EachOnce new hops targets local
once_same new old hops targets local e h = record {
  once = λ w. sums_same (λ (q : Hop). sum_by (λ x. w q.receiver x q.local) (new q.receiver q.local)) (λ (q : Hop). sum_by (λ x. w q.receiver x q.local) (old q.receiver q.local)) hops
      (λ (q : Hop). ap (sum_by (λ x. w q.receiver x q.local)) (e q.receiver q.local)) ∙ h.once w;
}

pub find_same : (new old : Lists) (hops : List Hop) → ((a k : ℕ) → new a k ≡ old a k) → AllFind old hops → AllFind new hops
find_same new old hops e h = record {
  found = λ k d l. let q = get_or hops k d in let f = h.found k d l in let s = ap length (e q.receiver q.local) in omega arith;
}
