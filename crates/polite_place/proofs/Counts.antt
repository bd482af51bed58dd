-- An order in which no vertex has two places is no longer than there are vertices.
use Rattle.std.proofs.Common.{◌≡◌, ◌<◌, ◌≤◌, ℕ, suc, zero, ◌+◌, eqb, cond, Bool, true, false, ◌||◌, List, [], ◌∷◌, ◌++◌, length, get_or, add-one, refl, sym, ◌∙◌, ap, arith}
use Rattle.std.proofs.lemmas.Bool.Decides.{nat_tests}
use Rattle.polite_place.specs.Order.{has, times, upto, bfs, AllBelow, AllListsBelow, Once}
use Rattle.polite_place.specs.Scan.{add, add_all, AllHave, Scan, Distinct, Extends}
use Rattle.tn_sums.specs.Totals.{total}
use Rattle.tn_sums.proofs.Laws.{total_zero, total-plus, total_one}
use Rattle.polite_place.proofs.Adds.{or-false, has-append, times-append, all_below_at}
use Rattle.std.proofs.lemmas.List.{get_or_default}
use Rattle.polite_place.proofs.Scans.{by_place, scan-step, scan-start, extends-all, extends-add, allhave-append, allhave-more, has-add}

pub all_below-append : (n : ℕ) (xs ys : List ℕ) → AllBelow n xs → AllBelow n ys → AllBelow n (xs ++ ys)
all_below-append n [] ys a b = b
all_below-append n (x ∷ xs) ys a b = (a.0, all_below-append n xs ys a.1 b)

once_more : (order : List ℕ) (v u : ℕ) (b : Bool) → b ≡ eqb v u → has order v ≡ false → times order u ≡ cond (has order u) 1 0 → times order u + (cond b 1 0 + 0) ≡ cond (has order u || (b || false)) 1 0
once_more order v u true e h t = let i : u ≡ v = grind (arith, nat_tests) in let no : has order u ≡ false = ap (has order) i ∙ h in let z : times order u ≡ 0 = t ∙ ap (λ b. cond b 1 0) no in rw no (omega arith)
once_more order v u false e h t = rw or-false (omega arith)

pub distinct-add : (n : ℕ) (order : List ℕ) (v : ℕ) → Distinct n order → v < n → Distinct n (add order v)
distinct-add n order v d lt = by_place order v (λ p. Distinct n p) (λ h. d) (λ h. record {
  below = all_below-append n order (v ∷ []) d.below (lt, tt);
  once = λ u. times-append order (v ∷ []) u ∙ once_more order v u (eqb v u) refl h (d.once u) ∙ ap (λ b. cond b 1 0) (sym (has-append order (v ∷ []) u));
})

pub distinct-all : (n : ℕ) (order vs : List ℕ) → Distinct n order → AllBelow n vs → Distinct n (add_all order vs)
distinct-all n order [] d a = d
distinct-all n order (v ∷ vs) d a = distinct-all n (add order v) vs (distinct-add n order v d a.0) a.1

pub count_all : (n : ℕ) (xs : List ℕ) → AllBelow n xs → total (times xs) n ≡ length xs
count_all n [] a = total_zero n
count_all n (x ∷ xs) a =
    let h = count_all n xs a.1 in
    let plus = total-plus (λ v. cond (eqb x v) 1 0) (times xs) n in
    let one = total_one x 1 n a.0 in
    omega arith

pub total_le : (f : ℕ → ℕ) (n : ℕ) → ((v : ℕ) → f v ≤ 1) → total f n ≤ n
unfolding total
total_le f zero h = omega arith
total_le f (suc n) h = let a = total_le f n h in let b = h n in omega arith

total_ones : (f : ℕ → ℕ) (n : ℕ) → ((v : ℕ) → v < n → f v ≡ 1) → total f n ≡ n
unfolding total
total_ones f zero h = refl
total_ones f (suc n) h = let a = total_ones f n (λ v lt. h v (omega arith)) in let b = h n (omega arith) in omega arith

pub one_or_none : (b : Bool) → cond b 1 0 ≤ 1
one_or_none true = omega arith
one_or_none false = omega arith

pub length_distinct : (n : ℕ) (order : List ℕ) → Distinct n order → length order ≤ n
length_distinct n order d = let e = count_all n order d.below in let l = total_le (times order) n (λ v. let t = d.once v in let o = one_or_none (has order v) in omega arith) in omega arith

have_front : (p xs ys : List ℕ) → AllHave p (xs ++ ys) → AllHave p xs
have_front p [] ys a = tt
have_front p (x ∷ xs) ys a = (a.0, have_front p xs ys a.1)

have_last : (p xs : List ℕ) (y : ℕ) → AllHave p (xs ++ y ∷ []) → has p y ≡ true
have_last p [] y a = a.0
have_last p (x ∷ xs) y a = have_last p xs y a.1

have_by : (order : List ℕ) (n v : ℕ) (b : Bool) → b ≡ eqb v n → v < suc n → (v < n → has order v ≡ true) → has order n ≡ true → has order v ≡ true
have_by order n v true e h r l = let i : v ≡ n = grind (arith, nat_tests) in ap (has order) i ∙ l
have_by order n v false e h r l = let lt : v < n = grind (arith, nat_tests) in r lt

all_have_at : (order : List ℕ) (n v : ℕ) → AllHave order (upto n) → v < n → has order v ≡ true
all_have_at order zero v a h = absurd (omega arith)
all_have_at order (suc n) v a h = have_by order n v (eqb v n) refl h (λ lt. all_have_at order n v (have_front order (upto n) (n ∷ []) a) lt) (have_last order (upto n) n a)

-- an order in which all vertices have a place has each once
pub once_all : (n : ℕ) (order : List ℕ) → Distinct n order → AllHave order (upto n) → Once n order × (length order ≡ n)
once_all n order d a =
    let one : (v : ℕ) → v < n → times order v ≡ 1 = λ v lt. d.once v ∙ ap (λ b. cond b 1 0) (all_have_at order n v a lt) in
    (record { below = d.below; once = one }, sym (count_all n order d.below) ∙ total_ones (times order) n one)

pub lists_below_at : (n : ℕ) (outs : List (List ℕ)) (v : ℕ) → AllListsBelow n outs → v < length outs → AllBelow n (get_or outs v [])
lists_below_at n [] v a h = absurd (omega arith)
lists_below_at n (xs ∷ xss) zero a h = a.0
lists_below_at n (xs ∷ xss) (suc v) a h = lists_below_at n xss v a.1 (omega arith)

-- the targets that are met next are those of the vertex that stands next in the order
pub targets_are : (outs : List (List ℕ)) (order : List ℕ) (i v : ℕ) (xs ys : List ℕ) → i < length order → v < length outs → v ≡ get_or order i v → xs ≡ get_or outs v xs → ys ≡ xs → ys ≡ get_or outs (get_or order i 0) []
targets_are outs order i v xs ys h w e f g =
    let a : get_or order i 0 ≡ v = get_or_default order i 0 v h ∙ sym e in
    g ∙ f ∙ get_or_default outs v xs [] w ∙ ap (λ k. get_or outs k []) (sym a)

pub next_below : (n : ℕ) (order : List ℕ) (i v : ℕ) → i < length order → AllBelow n order → v ≡ get_or order i v → v < n
next_below n order i v h a e = let b = all_below_at n order i a h in let d : get_or order i v ≡ get_or order i 0 = get_or_default order i v 0 h in omega arith

pub targets_below : (outs : List (List ℕ)) (order : List ℕ) (i v : ℕ) (xs ys : List ℕ) → AllListsBelow (length outs) outs → AllBelow (length outs) order → i < length order → v ≡ get_or order i v → xs ≡ get_or outs v xs → ys ≡ xs → AllBelow (length outs) ys
targets_below outs order i v xs ys a b h e f g =
    let w : v < length outs = next_below (length outs) order i v h b e in
    let d : xs ≡ get_or outs v [] = f ∙ get_or_default outs v xs [] w in
    rw (g, d) (lists_below_at (length outs) outs v a w)

pub record Spread (outs : List (List ℕ)) (order new : List ℕ) (i : ℕ) : Type 0 where
  pub distinct : Distinct (length outs) new
  pub scan : Scan outs new (i + 1)
  pub extends : Extends order new

pub spread_step : (outs : List (List ℕ)) (order new : List ℕ) (i v : ℕ) (xs ys : List ℕ) → AllListsBelow (length outs) outs → Distinct (length outs) order → Scan outs order i → i < length order
    → v ≡ get_or order i v → xs ≡ get_or outs v xs → ys ≡ xs → new ≡ add_all order ys → Spread outs order new i
spread_step outs order new i v xs ys a d s h e f g n =
    let w : v < length outs = next_below (length outs) order i v h d.below e in
    let t : ys ≡ get_or outs (get_or order i 0) [] = targets_are outs order i v xs ys h w e f g in
    let m : new ≡ add_all order (get_or outs (get_or order i 0) []) = n ∙ ap (add_all order) t in
    let b : AllBelow (length outs) ys = targets_below outs order i v xs ys a d.below h e f g in
    record { distinct = rw n (distinct-all (length outs) order ys d b); scan = rw m (scan-step outs order i s h); extends = rw n (extends-all order ys) }

pub start_of : (n : ℕ) → Scan [] [] 0
start_of n = record { ordered = refl; within = omega arith; scanned = tt }

-- a vertex that is met anew, and all that follows from it
pub begun : (outs : List (List ℕ)) (order new : List ℕ) (s from : ℕ) → new ≡ add order s → from ≡ length order → Scan outs order (length order) → s < length outs → AllHave order (upto s) → Scan outs new from
begun outs order new s from e f c h a = rw (e, f) (scan-start outs order s c h a)

pub begun_distinct : (n : ℕ) (order new : List ℕ) (s : ℕ) → new ≡ add order s → Distinct n order → s < n → Distinct n new
begun_distinct n order new s e d h = rw e (distinct-add n order s d h)

pub before_more : (order new last : List ℕ) (s : ℕ) → new ≡ add order s → Extends new last → AllHave order (upto s) → AllHave last (upto (s + 1))
before_more order new last s e x a =
    let here : AllHave (add order s) (upto s ++ s ∷ []) = allhave-append (add order s) (upto s) (s ∷ []) (allhave-more order (add order s) (upto s) (extends-add order s) a) (has-add order s, tt) in
    rw add-one (allhave-more new last (upto s ++ s ∷ []) x (rw e here))

pub ends : (outs : List (List ℕ)) (order : List ℕ) (s : ℕ) → length outs ≤ s → s ≤ length outs → Distinct (length outs) order → Scan outs order (length order) → AllHave order (upto s) → Once (length outs) order × (order ≡ bfs outs (length outs))
ends outs order s l m d c a =
    let e : s ≡ length outs = omega arith in
    let o = once_all (length outs) order d (rw e at a) in
    (o.0, c.ordered ∙ ap (bfs outs) o.1)

pub ends_count : (outs : List (List ℕ)) (order : List ℕ) (s : ℕ) → length outs ≤ s → s ≤ length outs → Distinct (length outs) order → AllHave order (upto s) → length order ≡ length outs
ends_count outs order s l m d a = let e : s ≡ length outs = omega arith in (once_all (length outs) order d (rw e at a)).1
