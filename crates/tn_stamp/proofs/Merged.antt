-- From one order of all entries, each in its journal's place, to the merge.
use Rattle.std.proofs.Common.{◌≡◌, ℕ, ◌<◌, ◌⊎◌, inl, inr, List, [], ◌∷◌, length, map, filter, refl, Bool, true, false, cond, ◌||◌, ◌&&◌, ◌==◌, eqb, Option, Some, None, sym, ◌∙◌, ap, subst, arith}
use Rattle.std.specs.List.{All}
use Rattle.std.proofs.lemmas.List.Elements.{All-nil, All-head, All-tail, All-cons}
use Rattle.std.proofs.lemmas.Bool.Decides.{nat_tests}
use Rattle.tn_stamp.specs.declared.entry.Entry.{Entry}
use Rattle.tn_stamp.specs.Journals.{Rises}
use Rattle.tn_stamp.specs.Pairs.{Pair, IsOwn, pair_of, is_pair}
use Rattle.tn_stamp.specs.Merging.{Placed, ArePaired, IsBefore, IsInOrder, IsMergeOf, is_least, is_on, of_part, entries_at}
use Rattle.tn_stamp.proofs.Rising.{IsIn, above_low, same_stamp, same_rising}

-- ---- standing in a list

abbrev pub Among : Placed → List Placed → Type 0
Among x [] = ⊥
Among x (y ∷ ys) = (x ≡ y) ⊎ Among x ys

kept_among : (p : Placed → Bool) (x y : Placed) (rest ys : List Placed) (b : Bool) → p y ≡ b → Among x (cond b (y ∷ rest) rest) → (Among x rest → Among x ys × (p x ≡ true)) → Among x (y ∷ ys) × (p x ≡ true)
kept_among p x y rest ys true e (inl h) f = (inl h, ap p h ∙ e)
kept_among p x y rest ys true e (inr h) f = let k = f h in (inr k.0, k.1)
kept_among p x y rest ys false e h f = let k = f h in (inr k.0, k.1)

pub from_filter : (p : Placed → Bool) (xs : List Placed) (x : Placed) → Among x (filter p xs) → Among x xs × (p x ≡ true)
from_filter p [] x h = absurd h
from_filter p (y ∷ ys) x h = kept_among p x y (filter p ys) ys (p y) refl h (from_filter p ys x)

into_kept : (x y : Placed) (rest : List Placed) (b : Bool) → (x ≡ y → b ≡ true) → (x ≡ y) ⊎ Among x rest → Among x (cond b (y ∷ rest) rest)
into_kept x y rest true f h = h
into_kept x y rest false f (inl e) = let no = f e in cc
into_kept x y rest false f (inr h) = h

pub into_filter : (p : Placed → Bool) (xs : List Placed) (x : Placed) → Among x xs → p x ≡ true → Among x (filter p xs)
into_filter p [] x h t = absurd h
into_filter p (y ∷ ys) x (inl e) t = into_kept x y (filter p ys) (p y) (λ s. ap p (sym s) ∙ t) (inl e)
into_filter p (y ∷ ys) x (inr h) t = into_kept x y (filter p ys) (p y) (λ s. ap p (sym s) ∙ t) (inr (into_filter p ys x h t))

abbrev pub entries : List Placed → List Entry
entries xs = map (λ x. x.entry) xs

pub from_entries : (xs : List Placed) (e : Entry) → IsIn e (entries xs) → (x : Placed) × Among x xs × (e ≡ x.entry)
from_entries [] e h = absurd h
from_entries (y ∷ ys) e (inl h) = (y, inl refl, h)
from_entries (y ∷ ys) e (inr h) = let k = from_entries ys e h in (k.0, inr k.1, k.2)

pub into_entries : (xs : List Placed) (x : Placed) → Among x xs → IsIn x.entry (entries xs)
into_entries [] x h = absurd h
into_entries (y ∷ ys) x (inl h) = inl (ap (λ (z : Placed). z.entry) h)
into_entries (y ∷ ys) x (inr h) = inr (into_entries ys x h)

pub from_all : (P : Placed → Type 0) (xs : List Placed) (x : Placed) → All P xs → Among x xs → P x
from_all P [] x a h = absurd h
from_all P (y ∷ ys) x a (inl h) = rw h (All-head P y ys a)
from_all P (y ∷ ys) x a (inr h) = from_all P ys x (All-tail P y ys a) h

pub to_all : (P : Placed → Type 0) (xs : List Placed) → ((x : Placed) → Among x xs → P x) → All P xs
to_all P [] f = All-nil P
to_all P (y ∷ ys) f = All-cons P y ys (f y (inl refl)) (to_all P ys (λ x h. f x (inr h)))

pub entry_from_all : (P : Entry → Type 0) (es : List Entry) (e : Entry) → All P es → IsIn e es → P e
entry_from_all P [] e a h = absurd h
entry_from_all P (y ∷ ys) e a (inl h) = rw h (All-head P y ys a)
entry_from_all P (y ∷ ys) e a (inr h) = entry_from_all P ys e (All-tail P y ys a) h

entry_kept : (p : Entry → Bool) (x y : Entry) (rest ys : List Entry) (b : Bool) → p y ≡ b → IsIn x (cond b (y ∷ rest) rest) → (IsIn x rest → IsIn x ys) → IsIn x (y ∷ ys)
entry_kept p x y rest ys true e (inl h) f = inl h
entry_kept p x y rest ys true e (inr h) f = inr (f h)
entry_kept p x y rest ys false e h f = inr (f h)

entry_from_filter : (p : Entry → Bool) (es : List Entry) (e : Entry) → IsIn e (filter p es) → IsIn e es
entry_from_filter p [] e h = absurd h
entry_from_filter p (y ∷ ys) e h = entry_kept p e y (filter p ys) ys (p y) refl h (entry_from_filter p ys e)

entry_into_kept : (x y : Entry) (rest : List Entry) (b : Bool) → (x ≡ y → b ≡ true) → (x ≡ y) ⊎ IsIn x rest → IsIn x (cond b (y ∷ rest) rest)
entry_into_kept x y rest true f h = h
entry_into_kept x y rest false f (inl e) = let no = f e in cc
entry_into_kept x y rest false f (inr h) = h

entry_into_filter : (p : Entry → Bool) (es : List Entry) (e : Entry) → IsIn e es → p e ≡ true → IsIn e (filter p es)
entry_into_filter p [] e h t = absurd h
entry_into_filter p (y ∷ ys) e (inl s) t = entry_into_kept e y (filter p ys) (p y) (λ r. ap p (sym r) ∙ t) (inl s)
entry_into_filter p (y ∷ ys) e (inr h) t = entry_into_kept e y (filter p ys) (p y) (λ r. ap p (sym r) ∙ t) (inr (entry_into_filter p ys e h t))

-- ---- an order of all entries

-- the entries of journal i
abbrev pub of_journal : ℕ → List Placed → List Entry
of_journal i xs = entries (filter (λ x. x.part == i) xs)

pub record IsOrder (js : List (List Entry)) (xs : List Placed) : Type 0 where
  pub in_order : IsInOrder xs
  pub each : (i : ℕ) → of_journal i xs ≡ entries_at js i

abbrev pub least_in : ℕ → Placed → Bool
least_in n x = is_least (pair_of n x.entry.event) x.part

abbrev pub on_in : ℕ → ℕ → Placed → Bool
on_in n i x = is_on (pair_of n x.entry.event) x.part i

eqb_self : (a : ℕ) → eqb a a ≡ true
eqb_self a = grind (arith, nat_tests)

eqb_true : (a b : ℕ) → eqb a b ≡ true → a ≡ b
eqb_true a b h = grind (arith, nat_tests)

or_cases : {X : Type 0} (a b : Bool) → (a || b) ≡ true → (a ≡ true → X) → (b ≡ true → X) → X
or_cases true b h f g = f refl
or_cases false b h f g = g h

or_left : (a b : Bool) → a ≡ true → (a || b) ≡ true
or_left true b h = refl
or_left false b h = cc

or_right : (a b : Bool) → b ≡ true → (a || b) ≡ true
or_right true b h = refl
or_right false b h = h

both : (a b : Bool) → a ≡ true → b ≡ true → (a && b) ≡ true
both true b e f = f
both false b e f = cc

kept_order : (p : Placed → Bool) (y : Placed) (ys : List Placed) (b : Bool) → All (IsBefore y) ys → IsInOrder (filter p ys) → IsInOrder (cond b (y ∷ filter p ys) (filter p ys))
kept_order p y ys true a o = (to_all (IsBefore y) (filter p ys) (λ x h. from_all (IsBefore y) ys x a (from_filter p ys x h).0), o)
kept_order p y ys false a o = o

filter_order : (p : Placed → Bool) (xs : List Placed) → IsInOrder xs → IsInOrder (filter p xs)
filter_order p [] o = tt
filter_order p (y ∷ ys) o = kept_order p y ys (p y) o.0 (filter_order p ys o.1)

-- in order, and where stamps are equal the parts are
pub rises_by : (low : ℕ) (xs : List Placed) → IsInOrder xs → ((x : Placed) → Among x xs → low < x.entry.stamp) → ((x y : Placed) → Among x xs → Among y xs → x.entry.stamp ≡ y.entry.stamp → x.part ≡ y.part) → Rises low (entries xs)
rises_by low [] o above same = tt
rises_by low (x ∷ xs) o above same = (above x (inl refl), rises_by x.entry.stamp xs o.1 (λ y h. later y h (from_all (IsBefore x) xs y o.0 h)) (λ y z h k e. same y z (inr h) (inr k) e))
  where
    later : (y : Placed) → Among y xs → IsBefore x y → x.entry.stamp < y.entry.stamp
    later y h (inl l) = l
    later y h (inr e) = let p = same x y (inl refl) (inr h) e.0 in let l = e.1 in absurd (omega arith)

module _ (js : List (List Entry)) (fine : ArePaired js) where
  pub own_at : (i : ℕ) (e : Entry) → IsIn e (entries_at js i) → IsOwn (length js) i (pair_of (length js) e.event)
  own_at i e h = entry_from_all (λ e. IsOwn (length js) i (pair_of (length js) e.event)) (entries_at js i) e (fine.own i) h

  -- an entry on a pair stands in both journals
  pub shared : (i : ℕ) (e : Entry) (p : Pair) → IsIn e (entries_at js i) → pair_of (length js) e.event ≡ Some p → IsIn e (entries_at js p.low) × IsIn e (entries_at js p.high)
  shared i e p h is =
      let test : is_pair (pair_of (length js) e.event) p.low p.high ≡ true = rw is (both (eqb p.low p.low) (eqb p.high p.high) (eqb_self p.low) (eqb_self p.high)) in
      let q : Entry → Bool = λ x. is_pair (pair_of (length js) x.event) p.low p.high in
      let low_to : IsIn e (entries_at js p.low) → IsIn e (entries_at js p.high) = λ k.
      entry_from_filter q (entries_at js p.high) e (subst (IsIn e) (fine.paired p.low p.high) (entry_into_filter q (entries_at js p.low) e k test)) in
      let high_to : IsIn e (entries_at js p.high) → IsIn e (entries_at js p.low) = λ k.
      entry_from_filter q (entries_at js p.low) e (subst (IsIn e) (sym (fine.paired p.low p.high)) (entry_into_filter q (entries_at js p.high) e k test)) in
      let own : IsOwn (length js) i (Some p) = rw is at (own_at i e h) in
      elim own.2 [
        | inl l ↦ let k : IsIn e (entries_at js p.low) = rw l h in (k, low_to k)
        | inr r ↦ let k : IsIn e (entries_at js p.high) = rw r h in (high_to k, k)
      ]

module _ (js : List (List Entry)) (fine : ArePaired js) (rises : (i : ℕ) → Rises 0 (entries_at js i)) (all : List Placed) (order : IsOrder js all) where
  -- what stands in the order stands in its journal, and the other way round
  in_journal : (x : Placed) → Among x all → IsIn x.entry (entries_at js x.part)
  in_journal x h = subst (IsIn x.entry) (order.each x.part) (into_entries (filter (λ y. y.part == x.part) all) x (into_filter (λ y. y.part == x.part) all x h (eqb_self x.part)))

  record Found (i : ℕ) (e : Entry) : Type 0 where
    x : Placed
    there : Among x all
    part : x.part ≡ i
    entry : x.entry ≡ e

  in_all : (i : ℕ) (e : Entry) → IsIn e (entries_at js i) → Found i e
  in_all i e h =
      let k = from_entries (filter (λ y. y.part == i) all) e (subst (IsIn e) (sym (order.each i)) h) in
      let f = from_filter (λ y. y.part == i) all k.0 k.1 in
      record { x = k.0; there = f.0; part = eqb_true k.0.part i f.1; entry = sym k.2 }

  -- an entry that stands on part i in the merge is one of its journal
  on_to_journal : (i : ℕ) (x : Placed) → Among x all → least_in (length js) x ≡ true → on_in (length js) i x ≡ true → IsIn x.entry (entries_at js i)
  on_to_journal i x h l t = by_pair (pair_of (length js) x.entry.event) refl l t
    where
      by_pair : (o : Option Pair) → pair_of (length js) x.entry.event ≡ o → is_least o x.part ≡ true → is_on o x.part i ≡ true → IsIn x.entry (entries_at js i)
      by_pair None is l t = rw (← eqb_true x.part i t) (in_journal x h)
      by_pair (Some p) is l t =
          let s = shared js fine x.part x.entry p (in_journal x h) is in
          or_cases (eqb p.low i) (eqb p.high i) t
          (λ e. rw (← eqb_true p.low i e) s.0)
          (λ e. rw (← eqb_true p.high i e) s.1)

  record Stands (i : ℕ) (e : Entry) : Type 0 where
    x : Placed
    there : Among x all
    entry : x.entry ≡ e
    least : least_in (length js) x ≡ true
    on : on_in (length js) i x ≡ true

  -- and each entry of the journal stands in the merge
  from_journal : (i : ℕ) (e : Entry) → IsIn e (entries_at js i) → Stands i e
  from_journal i e h = by_pair (pair_of (length js) e.event) refl
    where
      by_pair : (o : Option Pair) → pair_of (length js) e.event ≡ o → Stands i e
      by_pair None is =
          let f = in_all i e h in
          let p : pair_of (length js) f.x.entry.event ≡ None = rw f.entry is in
          record {
            x = f.x;
            there = f.there;
            entry = f.entry;
            least = ap (λ o. is_least o f.x.part) p;
            on = ap (λ o. is_on o f.x.part i) p ∙ rw f.part (eqb_self i);
          }
      by_pair (Some q) is =
          let f = in_all q.low e (shared js fine i e q h is).0 in
          let p : pair_of (length js) f.x.entry.event ≡ Some q = rw f.entry is in
          let own : IsOwn (length js) i (Some q) = rw is at (own_at js fine i e h) in
          let here : (q.low == i || q.high == i) ≡ true = elim own.2 [
            | inl l ↦ or_left (eqb q.low i) (eqb q.high i) (rw l (eqb_self i))
            | inr r ↦ or_right (eqb q.low i) (eqb q.high i) (rw r (eqb_self i))
          ] in
          record {
            x = f.x;
            there = f.there;
            entry = f.entry;
            least = ap (λ o. is_least o f.x.part) p ∙ rw f.part (eqb_self q.low);
            on = ap (λ o. is_on o f.x.part i) p ∙ here;
          }

  -- two entries on part i with one stamp are at one least part
  same_part : (i : ℕ) (x y : Placed) → Among x all → Among y all → least_in (length js) x ≡ true → least_in (length js) y ≡ true → on_in (length js) i x ≡ true → on_in (length js) i y ≡ true → x.entry.stamp ≡ y.entry.stamp → x.part ≡ y.part
  same_part i x y h k l m t u s =
      let same : x.entry ≡ y.entry = same_stamp 0 (entries_at js i) x.entry y.entry (rises i) (on_to_journal i x h l t) (on_to_journal i y k m u) s in
      let pairs : pair_of (length js) x.entry.event ≡ pair_of (length js) y.entry.event = ap (λ (e : Entry). pair_of (length js) e.event) same in
      by_pair (pair_of (length js) x.entry.event) (pair_of (length js) y.entry.event) pairs l m t u
    where
      by_pair : (o q : Option Pair) → o ≡ q → is_least o x.part ≡ true → is_least q y.part ≡ true → is_on o x.part i ≡ true → is_on q y.part i ≡ true → x.part ≡ y.part
      by_pair None None e l m t u = eqb_true x.part i t ∙ sym (eqb_true y.part i u)
      by_pair None (Some p) e l m t u = cc
      by_pair (Some p) None e l m t u = cc
      by_pair (Some p) (Some q) e l m t u =
          let r : p ≡ q = cc in
          sym (eqb_true p.low x.part l) ∙ ap (λ (z : Pair). z.low) r ∙ eqb_true q.low y.part m

  each_of : (i : ℕ) → of_part (length js) i (filter (least_in (length js)) all) ≡ entries_at js i
  each_of i =
      let ys : List Placed = filter (on_in (length js) i) (filter (least_in (length js)) all) in
      let order_is : IsInOrder ys = filter_order (on_in (length js) i) (filter (least_in (length js)) all) (filter_order (least_in (length js)) all order.in_order) in
      let facts : (x : Placed) → Among x ys → Among x all × (least_in (length js) x ≡ true) × (on_in (length js) i x ≡ true) = λ x h.
      let a = from_filter (on_in (length js) i) (filter (least_in (length js)) all) x h in
      let b = from_filter (least_in (length js)) all x a.0 in
      (b.0, b.1, a.1) in
      let journal : (x : Placed) → Among x ys → IsIn x.entry (entries_at js i) = λ x h. let f = facts x h in on_to_journal i x f.0 f.1 f.2 in
      let up : Rises 0 (entries ys) = rises_by 0 ys order_is
      (λ x h. above_low 0 (entries_at js i) x.entry (rises i) (journal x h))
      (λ x y h k s. let f = facts x h in let g = facts y k in same_part i x y f.0 g.0 f.1 g.1 f.2 g.2 s) in
      same_rising 0 (entries ys) (entries_at js i) up (rises i)
      (λ e h. let k = from_entries ys e h in rw k.2 (journal k.0 k.1))
      (λ e h.
      let s = from_journal i e h in
      rw (← s.entry) (into_entries ys s.x (into_filter (on_in (length js) i) (filter (least_in (length js)) all) s.x (into_filter (least_in (length js)) all s.x s.there s.least) s.on)))

  -- of all entries in order, those at their events' least parts are the merge
  pub merge_of : IsMergeOf js (filter (least_in (length js)) all)
  merge_of = record {
    in_order = filter_order (least_in (length js)) all order.in_order;
    least = to_all (λ x. is_least (pair_of (length js) x.entry.event) x.part ≡ true) (filter (least_in (length js)) all) (λ x h. (from_filter (least_in (length js)) all x h).1);
    each = each_of;
  }
