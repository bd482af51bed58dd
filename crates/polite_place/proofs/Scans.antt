-- The search follows the order.
use Rattle.std.proofs.Common.{◌≡◌, ◌<◌, ◌≤◌, ℕ, suc, zero, ◌+◌, eqb, cond, Bool, true, false, ◌||◌, List, [], ◌∷◌, ◌++◌, length, take, drop, get_or, append_assoc, append-nil, refl, sym, ◌∙◌, ap, arith, length-append, drop-cons, subst}
use Rattle.std.proofs.lemmas.Grind.{common_steps}
use Rattle.std.proofs.lemmas.List.{take-append-drop, take-append-le}
use Rattle.std.proofs.lemmas.Bool.Decides.{nat_tests}
use Rattle.polite_place.specs.Order.{has, targets, upto, first_new, next_vertex, bfs}
use Rattle.polite_place.specs.Scan.{add, add_all, AllHave, Scan, Extends}
use Rattle.polite_place.proofs.Adds.{has-append}

pub allhave-append : (p xs ys : List ℕ) → AllHave p xs → AllHave p ys → AllHave p (xs ++ ys)
allhave-append p [] ys a b = b
allhave-append p (x ∷ xs) ys a b = (a.0, allhave-append p xs ys a.1 b)

pub allhave-more : (p q xs : List ℕ) → Extends p q → AllHave p xs → AllHave q xs
allhave-more p q [] e a = tt
allhave-more p q (x ∷ xs) e a = (e.keeps x a.0, allhave-more p q xs e a.1)

pub first_new-skip : (p cs : List ℕ) (v : ℕ) (ds : List ℕ) → AllHave p cs → has p v ≡ false → first_new p (cs ++ v ∷ ds) ≡ v
first_new-skip p [] v ds a h = rw h refl
first_new-skip p (c ∷ cs) v ds a h = rw a.0 (first_new-skip p cs v ds a.1 h)

pub extends-refl : (p : List ℕ) → Extends p p
extends-refl p = record { keeps = λ v h. h }

pub extends-trans : (p q r : List ℕ) → Extends p q → Extends q r → Extends p r
extends-trans p q r e f = record { keeps = λ v h. f.keeps v (e.keeps v h) }

or_left : (a b : Bool) → a ≡ true → (a || b) ≡ true
or_left a b h = rw h refl

or_right : (a b : Bool) → b ≡ true → (a || b) ≡ true
or_right true b h = refl
or_right false b h = h

pub extends-append : (p q : List ℕ) → Extends p (p ++ q)
extends-append p q = record { keeps = λ v h. has-append p q v ∙ or_left (has p v) (has q v) h }

-- by whether a vertex has a place
pub by_place : (order : List ℕ) (v : ℕ) (P : List ℕ → Type 0) → (has order v ≡ true → P order) → (has order v ≡ false → P (order ++ v ∷ [])) → P (add order v)
by_place order v P old new = go (has order v) refl where
  go : (b : Bool) → b ≡ has order v → P (cond b order (order ++ v ∷ []))
  go true e = old (sym e)
  go false e = new (sym e)

pub extends-add : (order : List ℕ) (v : ℕ) → Extends order (add order v)
extends-add order v = by_place order v (λ o. Extends order o) (λ h. extends-refl order) (λ h. extends-append order (v ∷ []))

eqb_same : (v : ℕ) → eqb v v ≡ true
eqb_same v = grind (arith, nat_tests)

pub has-add : (order : List ℕ) (v : ℕ) → has (add order v) v ≡ true
has-add order v = by_place order v (λ o. has o v ≡ true) (λ h. h) (λ h. has-append order (v ∷ []) v ∙ or_right (has order v) (eqb v v || false) (or_left (eqb v v) false (eqb_same v)))

pub targets-append : (outs : List (List ℕ)) (xs ys : List ℕ) → targets outs (xs ++ ys) ≡ targets outs xs ++ targets outs ys
targets-append outs [] ys = refl
targets-append outs (x ∷ xs) ys = ap (λ zs. get_or outs x [] ++ zs) (targets-append outs xs ys) ∙ sym (append_assoc (get_or outs x []) (targets outs xs) (targets outs ys))

-- the next vertex of the order is put at its end
pub ordered-add : (outs : List (List ℕ)) (order cs : List ℕ) (v : ℕ) (ds : List ℕ) → order ≡ bfs outs (length order) → targets outs order ++ upto (length outs) ≡ cs ++ v ∷ ds → AllHave order cs
    → add order v ≡ bfs outs (length (add order v))
ordered-add outs order cs v ds o e a =
    by_place order v (λ p. p ≡ bfs outs (length p)) (λ h. o) (λ h.
    let next : next_vertex outs order ≡ v = ap (first_new order) e ∙ first_new-skip order cs v ds a h in
    let long : length (order ++ v ∷ []) ≡ suc (length order) = omega (arith, length-append order (v ∷ [])) in
    rw long (ap (λ x. order ++ x ∷ []) (sym next) ∙ ap (λ xs. xs ++ next_vertex outs xs ∷ []) o))

-- all targets of one vertex are met in order
pub record Met (outs : List (List ℕ)) (order seen : List ℕ) : Type 0 where
  pub ordered : order ≡ bfs outs (length order)
  pub met : AllHave order seen

swing : (before : List ℕ) (v : ℕ) (rest : List ℕ) → before ++ v ∷ rest ≡ (before ++ v ∷ []) ++ rest
swing before v rest = sym (append_assoc before (v ∷ []) rest)

more_after : (outs : List (List ℕ)) (order before : List ℕ) (v : ℕ) (vs after new : List ℕ) → targets outs order ≡ before ++ (v ∷ vs ++ after) → targets outs (order ++ new) ≡ (before ++ v ∷ []) ++ (vs ++ (after ++ targets outs new))
more_after outs order before v vs after new e =
    targets-append outs order new ∙ ap (λ xs. xs ++ targets outs new) e
    ∙ append_assoc before (v ∷ vs ++ after) (targets outs new)
    ∙ ap (λ xs. before ++ v ∷ xs) (append_assoc vs after (targets outs new))
    ∙ swing before v (vs ++ (after ++ targets outs new))

pub met-all : (outs : List (List ℕ)) (order before vs after : List ℕ) → order ≡ bfs outs (length order) → targets outs order ≡ before ++ (vs ++ after) → AllHave order before → Met outs (add_all order vs) (before ++ vs)
met-all outs order before [] after o e a = record { ordered = o; met = rw append-nil a }
met-all outs order before (v ∷ vs) after o e a =
    let first : targets outs order ++ upto (length outs) ≡ before ++ v ∷ ((vs ++ after) ++ upto (length outs)) = ap (λ xs. xs ++ upto (length outs)) e ∙ append_assoc before (v ∷ vs ++ after) (upto (length outs)) in
    let rest : (more : List ℕ) × (targets outs (add order v) ≡ (before ++ v ∷ []) ++ (vs ++ more)) =
    by_place order v (λ p. (more : List ℕ) × (targets outs p ≡ (before ++ v ∷ []) ++ (vs ++ more))) (λ h. (after, e ∙ swing before v (vs ++ after))) (λ h. (after ++ targets outs (v ∷ []), more_after outs order before v vs after (v ∷ []) e)) in
    let here : AllHave (add order v) (before ++ v ∷ []) = allhave-append (add order v) before (v ∷ []) (allhave-more order (add order v) before (extends-add order v) a) (has-add order v, tt) in
    let m = met-all outs (add order v) (before ++ v ∷ []) vs rest.0 (ordered-add outs order before v ((vs ++ after) ++ upto (length outs)) o first a) rest.1 here in
    record { ordered = m.ordered; met = rw (swing before v vs) m.met }

pub extends-all : (order vs : List ℕ) → Extends order (add_all order vs)
extends-all order [] = extends-refl order
extends-all order (v ∷ vs) = extends-trans order (add order v) (add_all (add order v) vs) (extends-add order v) (extends-all (add order v) vs)

-- what is added stands behind
take_add : (i : ℕ) (order : List ℕ) (v : ℕ) → i ≤ length order → take i (add order v) ≡ take i order
take_add i order v h = by_place order v (λ p. take i p ≡ take i order) (λ _. refl) (λ _. take-append-le i order (v ∷ []) h)

length_add : (order : List ℕ) (v : ℕ) → length order ≤ length (add order v)
length_add order v = by_place order v (λ p. length order ≤ length p) (λ _. omega arith) (λ _. omega (arith, length-append order (v ∷ [])))

pub take_all : (i : ℕ) (order vs : List ℕ) → i ≤ length order → take i (add_all order vs) ≡ take i order
take_all i order [] h = refl
take_all i order (v ∷ vs) h = let l = length_add order v in take_all i (add order v) vs (omega arith) ∙ take_add i order v h

pub length_all : (order vs : List ℕ) → length order ≤ length (add_all order vs)
length_all order [] = omega arith
length_all order (v ∷ vs) = let l = length_add order v in let m = length_all (add order v) vs in omega arith

take_more : (xs : List ℕ) (i : ℕ) → i < length xs → take (i + 1) xs ≡ take i xs ++ get_or xs i 0 ∷ []
take_more xs i h = grind (arith, common_steps)

split_at : (xs : List ℕ) (i : ℕ) → i < length xs → xs ≡ take i xs ++ (get_or xs i 0 ∷ drop (suc i) xs)
split_at xs i h = sym (take-append-drop i xs) ∙ ap (λ ys. take i xs ++ ys) (drop-cons xs i 0 h)

-- one more vertex has all its targets met
pub scan-step : (outs : List (List ℕ)) (order : List ℕ) (i : ℕ) → Scan outs order i → i < length order → Scan outs (add_all order (get_or outs (get_or order i 0) [])) (i + 1)
scan-step outs order i s h =
    let v : ℕ = get_or order i 0 in
    let vs : List ℕ = get_or outs v [] in
    let whole : targets outs order ≡ targets outs (take i order) ++ (vs ++ targets outs (drop (suc i) order)) = ap (targets outs) (split_at order i h) ∙ targets-append outs (take i order) (v ∷ drop (suc i) order) in
    let m = met-all outs order (targets outs (take i order)) vs (targets outs (drop (suc i) order)) s.ordered whole s.scanned in
    let l = length_all order vs in
    let front : take (i + 1) (add_all order vs) ≡ take i order ++ v ∷ [] = take_all (i + 1) order vs (omega arith) ∙ take_more order i h in
    let seen : targets outs (take (i + 1) (add_all order vs)) ≡ targets outs (take i order) ++ vs = ap (targets outs) front ∙ targets-append outs (take i order) (v ∷ []) ∙ ap (λ xs. targets outs (take i order) ++ xs) (append-nil vs) in
    record { ordered = m.ordered; within = omega arith; scanned = rw seen m.met }

upto_by : (s n : ℕ) (b : Bool) → b ≡ eqb s n → s < suc n → (s < n → (rest : List ℕ) × (upto n ≡ upto s ++ s ∷ rest)) → (rest : List ℕ) × (upto n ++ n ∷ [] ≡ upto s ++ s ∷ rest)
upto_by s n true e h r = let i : n ≡ s = grind (arith, nat_tests) in ([], ap (λ k. upto k ++ k ∷ []) i)
upto_by s n false e h r = let lt : s < n = grind (arith, nat_tests) in let m = r lt in (m.0 ++ n ∷ [], ap (λ xs. xs ++ n ∷ []) m.1 ∙ append_assoc (upto s) (s ∷ m.0) (n ∷ []))

-- the least vertex that has no place begins anew
upto_more : (s n : ℕ) → s < n → (rest : List ℕ) × (upto n ≡ upto s ++ s ∷ rest)
upto_more s zero h = absurd (omega arith)
upto_more s (suc n) h = upto_by s n (eqb s n) refl h (λ lt. upto_more s n lt)

take_whole : (xs : List ℕ) → take (length xs) xs ≡ xs
take_whole xs = grind (arith, common_steps)

pub scan-start : (outs : List (List ℕ)) (order : List ℕ) (s : ℕ) → Scan outs order (length order) → s < length outs → AllHave order (upto s) → Scan outs (add order s) (length order)
scan-start outs order s c h a =
    let u = upto_more s (length outs) h in
    let met : AllHave order (targets outs order) = subst (λ (xs : List ℕ). AllHave order (targets outs xs)) (take_whole order) c.scanned in
    let cands : targets outs order ++ upto (length outs) ≡ (targets outs order ++ upto s) ++ s ∷ u.0 = ap (λ xs. targets outs order ++ xs) u.1 ∙ sym (append_assoc (targets outs order) (upto s) (s ∷ u.0)) in
    let front : take (length order) (add order s) ≡ order = take_add (length order) order s (omega arith) ∙ take_whole order in
    record {
      ordered = ordered-add outs order (targets outs order ++ upto s) s u.0 c.ordered cands (allhave-append order (targets outs order) (upto s) met a);
      within = length_add order s;
      scanned = rw front (allhave-more order (add order s) (targets outs order) (extends-add order s) met);
    }
