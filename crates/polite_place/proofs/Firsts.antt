-- In breadth-first order each vertex stands once.
use Rattle.std.proofs.Common.{◌⊎◌, ◌≡◌, ◌<◌, ◌≤◌, eqb, ℕ, suc, zero, cond, Bool, true, false, List, [], ◌∷◌, ◌++◌, length, get_or, refl, sym, ◌∙◌, ap, arith, inl, inr, length-append}
use Rattle.polite_place.specs.Order.{AllBelow, AllListsBelow, Once, bfs, first_new, has, next_vertex, targets, times, upto}
use Rattle.polite_place.specs.Scan.{AllHave, Distinct, add}
use Rattle.polite_place.proofs.Adds.{add-new}
use Rattle.polite_place.proofs.Counts.{all_below-append, count_all, distinct-add, lists_below_at, once_all, one_or_none, total_le}
use Rattle.std.proofs.lemmas.Bool.Decides.{nat_tests}
use Rattle.tn_sums.specs.Totals.{total}

split_by : (p vs : List ℕ) (v : ℕ) (b : Bool) → has p v ≡ b → (AllHave p vs) ⊎ (has p (first_new p vs) ≡ false) → ((has p v ≡ true) × AllHave p vs) ⊎ (has p (cond b (first_new p vs) v) ≡ false)
split_by p vs v true h (inl all) = inl (h, all)
split_by p vs v true h (inr new) = inr new
split_by p vs v false h rest = inr h

-- all have a place, or the first without one is found
first_split : (p vs : List ℕ) → (AllHave p vs) ⊎ (has p (first_new p vs) ≡ false)
first_split p [] = inl tt
first_split p (v ∷ vs) = split_by p vs v (has p v) refl (first_split p vs)

first_below : (n : ℕ) (p vs : List ℕ) → 0 < n → AllBelow n vs → first_new p vs < n
first_below n p [] h a = h
first_below n p (v ∷ vs) h a = elim (has p v) as (λ b. cond b (first_new p vs) v < n) [ true ↦ first_below n p vs h a.1 | false ↦ a.0 ]

have_back : (p xs ys : List ℕ) → AllHave p (xs ++ ys) → AllHave p ys
have_back p [] ys a = a
have_back p (x ∷ xs) ys a = have_back p xs ys a.1

below_more : (m n : ℕ) (xs : List ℕ) → m ≤ n → AllBelow m xs → AllBelow n xs
below_more m n [] h a = tt
below_more m n (x ∷ xs) h a = let l = a.0 in (omega arith, below_more m n xs h a.1)

upto_below : (n : ℕ) → AllBelow n (upto n)
upto_below zero = tt
upto_below (suc n) = all_below-append (suc n) (upto n) (n ∷ []) (below_more n (suc n) (upto n) (omega arith) (upto_below n)) (omega arith, tt)

targets_below : (outs : List (List ℕ)) (vs : List ℕ) → AllListsBelow (length outs) outs → AllBelow (length outs) vs → AllBelow (length outs) (targets outs vs)
targets_below outs [] a b = tt
targets_below outs (v ∷ vs) a b = all_below-append (length outs) (get_or outs v []) (targets outs vs) (lists_below_at (length outs) outs v a b.0) (targets_below outs vs a b.1)

abbrev First : List (List ℕ) → ℕ → Type 0
First outs n = Distinct (length outs) (bfs outs n) × (length (bfs outs n) ≡ n)

first_more : (outs : List (List ℕ)) (n : ℕ) → n < length outs → AllListsBelow (length outs) outs → First outs n
    → (AllHave (bfs outs n) (targets outs (bfs outs n) ++ upto (length outs))) ⊎ (has (bfs outs n) (next_vertex outs (bfs outs n)) ≡ false) → First outs (suc n)
first_more outs n h a f (inl all) =
    let o = once_all (length outs) (bfs outs n) f.0 (have_back (bfs outs n) (targets outs (bfs outs n)) (upto (length outs)) all) in
    let l : n ≡ length outs = sym f.1 ∙ o.1 in absurd (omega arith)
first_more outs n h a f (inr new) =
    let p : List ℕ = bfs outs n in
    let v : ℕ = next_vertex outs p in
    let b : v < length outs = first_below (length outs) p (targets outs p ++ upto (length outs)) (omega arith) (all_below-append (length outs) (targets outs p) (upto (length outs)) (targets_below outs p a f.0.below) (upto_below (length outs))) in
    let d : Distinct (length outs) (add p v) = distinct-add (length outs) p v f.0 b in
    let e : add p v ≡ p ++ v ∷ [] = add-new p v new in
    let l : length (p ++ v ∷ []) ≡ suc n = omega (arith, length-append p (v ∷ []), f.1) in
    (rw e at d, l)

firsts : (outs : List (List ℕ)) (n : ℕ) → n ≤ length outs → AllListsBelow (length outs) outs → First outs n
firsts outs zero h a = (record { below = tt; once = λ v. refl }, refl)
firsts outs (suc n) h a =
    first_more outs n (omega arith) a (firsts outs n (omega arith) a) (first_split (bfs outs n) (targets outs (bfs outs n) ++ upto (length outs)))

full_by : (f : ℕ → ℕ) (n v : ℕ) (b : Bool) → b ≡ eqb v n → v < suc n → f n ≡ 1 → (v < n → f v ≡ 1) → f v ≡ 1
full_by f n v true e h last rest = let i : v ≡ n = grind (arith, nat_tests) in ap f i ∙ last
full_by f n v false e h last rest = rest (grind (arith, nat_tests))

-- n numbers of at most 1 that sum up to n
total_full : (f : ℕ → ℕ) (n : ℕ) → ((v : ℕ) → f v ≤ 1) → total f n ≡ n → (v : ℕ) → v < n → f v ≡ 1
unfolding total
total_full f zero h e v l = absurd (omega arith)
total_full f (suc n) h e v l =
    let a = total_le f n h in
    let b = h n in
    let last : f n ≡ 1 = omega arith in
    let rest : total f n ≡ n = omega arith in
    full_by f n v (eqb v n) refl l last (λ w. total_full f n h rest v w)

pub once_bfs : (outs : List (List ℕ)) → AllListsBelow (length outs) outs → Once (length outs) (bfs outs (length outs))
once_bfs outs a =
    let f = firsts outs (length outs) (omega arith) a in
    let order : List ℕ = bfs outs (length outs) in
    let all : total (times order) (length outs) ≡ length outs = count_all (length outs) order f.0.below ∙ f.1 in
    record { below = f.0.below; once = total_full (times order) (length outs) (λ v. at_most f.0 v) all } where
      at_most : {n : ℕ} {order : List ℕ} → Distinct n order → (v : ℕ) → times order v ≤ 1
      at_most {n} {order} d v = let t = d.once v in let o = one_or_none (has order v) in omega arith

pub length_bfs : (outs : List (List ℕ)) → AllListsBelow (length outs) outs → length (bfs outs (length outs)) ≡ length outs
length_bfs outs a = (firsts outs (length outs) (omega arith) a).1
