-- The merge of the journals of a machine's parts is a walk.
use Rattle.std.proofs.Common.{◌≡◌, ◌≢◌, ◌∙◌, ◌==◌, ◌||◌, ◌++◌, ◌∷◌, [], ℕ, zero, suc, ◌<◌, inl, inr, Bool, true, false, cond, eqb, List, length, filter, None, Some, refl, sym, ap, subst, set, is_some, option_map, option_and_then, arith}
use Rattle.std.specs.declared.option.Option.{Option}
use Rattle.std.specs.List.{All, slice_get}
use Rattle.std.proofs.lemmas.Bool.{eqb-true}
use Rattle.std.proofs.lemmas.Bool.Decides.{nat_tests}
use Rattle.std.proofs.lemmas.List.Elements.{All-head, All-tail}
use Rattle.std.proofs.lemmas.Option.{get_or_from_slice_get, slice_get_within}
use Rattle.tn_base.specs.declared.event.Event.{Event}
use Rattle.tn_base.specs.declared.shape.ShapeNumbers.{ShapeNumbers}
use Rattle.tn_base.specs.Parts.{kind_of, part_count}
use Rattle.tn_stamp.specs.declared.entry.Crossing.TheVariants as crossing
use Rattle.tn_stamp.specs.declared.entry.Entry.{Entry}
use Rattle.tn_stamp.specs.Merging.{Placed, IsMergeOf, entries_at, events_of, is_least, is_on, of_part}
use Rattle.tn_stamp.specs.Pairs.{Pair, IsOwn, pair_of}
use Rattle.tn_stamp.proofs.Merged.{Among, entries, entry_from_all, from_all, into_entries, into_filter, to_all}
use Rattle.tn_stamp.proofs.Rising.{IsIn}
use Rattle.tn_rows.specs.Events.{FitsKind, IsWorld, after, happened, happened_at, meets, meets_at, replay, with_both, with_part}
use Rattle.tn_rows.specs.PartView.{PartView, AbsentV}
use Rattle.tn_rows.specs.Places.{One, Two, places}
use Rattle.tn_rows.specs.Runs.{Walk}
use Rattle.tn_rows.specs.Stamped.{AreJournals, IsStamped, MergeIsWalk, StampedView, StandsAt, journals_of, machine, presents_of, starts_of}
use Rattle.tn_rows.proofs.Crossed.{one_row, rows_meet}
use Rattle.tn_rows.proofs.Keeping.{both_keep, kind_stays, world_keeps}
use Rattle.tn_rows.proofs.Standing.{agree, event_sides, is_placed, places_at}
use Rattle.tn_rows.proofs.Ways.{Behind}

-- ---- reading and writing parts

get_same : (xs : List PartView) (i : ℕ) (v w : PartView) → slice_get xs i ≡ Some w → slice_get (set xs i v) i ≡ Some v
get_same [] i v w h = cc
get_same (x ∷ xs) zero v w h = refl
get_same (x ∷ xs) (suc i) v w h = get_same xs i v w h

get_other : (xs : List PartView) (i j : ℕ) (v : PartView) → i ≢ j → slice_get (set xs i v) j ≡ slice_get xs j
get_other [] i j v h = refl
get_other (x ∷ xs) zero zero v h = absurd (h refl)
get_other (x ∷ xs) zero (suc j) v h = refl
get_other (x ∷ xs) (suc i) zero v h = refl
get_other (x ∷ xs) (suc i) (suc j) v h = get_other xs i j v (λ e. h (ap suc e))

same_parts : (xs ys : List PartView) → ((k : ℕ) → slice_get xs k ≡ slice_get ys k) → xs ≡ ys
same_parts [] [] h = refl
same_parts [] (y ∷ ys) h = let e = h 0 in cc
same_parts (x ∷ xs) [] h = let e = h 0 in cc
same_parts (x ∷ xs) (y ∷ ys) h = let e = h 0 in let rest = same_parts xs ys (λ k. h (suc k)) in cc

eqb_self : (a : ℕ) → eqb a a ≡ true
eqb_self a = grind (arith, nat_tests)

eqb_false : (a b : ℕ) → eqb a b ≡ false → a ≢ b
eqb_false a b h = λ e. grind (arith, nat_tests)

-- ---- the walk

-- an entry of the merge stands at the parts of its event, the lesser first
pub record IsAt (n : ShapeNumbers) (x : Placed) : Type 0 where
  pub places_are : places n x.entry.event ≡ places_at (pair_of (part_count n) x.entry.event) x.part
  pub apart : (p : Pair) → pair_of (part_count n) x.entry.event ≡ Some p → p.low < p.high

-- what the next entry leaves at a part, and what the others then have to make of it
record Next (e : Entry) (es : List Entry) (v : PartView) (end : Option PartView) : Type 0 where
  new : PartView
  row : after e.event e.crossing v ≡ Some new
  rest : replay es new ≡ end

next_by : (e : Entry) (es : List Entry) (v : PartView) (o end : Option PartView) → after e.event e.crossing v ≡ o → is_some end ≡ true → option_and_then (replay es) o ≡ end → Next e es v end
next_by e es v None end row some h = let not : is_some end ≡ false = ap (λ (o : Option PartView). is_some o) (sym h) in cc
next_by e es v (Some w) end row some h = record { new = w; row = row; rest = h }

-- the entries of part i, where the first one is on it, or not
abbrev entries_by : Bool → Entry → List Entry → List Entry
entries_by b e es = entries (cond b (record { part = 0; entry = e } ∷ []) []) ++ es

of_more : (m i : ℕ) (x : Placed) (xs : List Placed) → of_part m i (x ∷ xs) ≡ cond (is_on (pair_of m x.entry.event) x.part i) (x.entry ∷ of_part m i xs) (of_part m i xs)
of_more m i x xs = by (is_on (pair_of m x.entry.event) x.part i)
  where
    by : (b : Bool) → entries (cond b (x ∷ filter (λ y. is_on (pair_of m y.entry.event) y.part i) xs) (filter (λ y. is_on (pair_of m y.entry.event) y.part i) xs)) ≡ cond b (x.entry ∷ of_part m i xs) (of_part m i xs)
    by true = refl
    by false = refl

abbrev Replays : ℕ → List Placed → List PartView → List PartView → Type 0
Replays m xs old new = (i : ℕ) → option_and_then (replay (of_part m i xs)) (slice_get old i) ≡ slice_get new i

abbrev Alike : List PartView → List PartView → Type 0
Alike old new = (i : ℕ) → is_some (slice_get old i) ≡ is_some (slice_get new i)

some_there : (o : Option PartView) (es : List Entry) (end : Option PartView) → is_some o ≡ true → (v : PartView) × (o ≡ Some v)
some_there None es end s = cc
some_there (Some v) es end s = (v, refl)

module _ (m i : ℕ) (x : Placed) (xs : List Placed) (old new : List PartView) (each : Replays m (x ∷ xs) old new) (alike : Alike old new) (v : PartView) (here : slice_get old i ≡ Some v) where
  next_at : is_on (pair_of m x.entry.event) x.part i ≡ true → Next x.entry (of_part m i xs) v (slice_get new i)
  next_at on =
      let entries_are : of_part m i (x ∷ xs) ≡ x.entry ∷ of_part m i xs = of_more m i x xs ∙ ap (λ b. cond b (x.entry ∷ of_part m i xs) (of_part m i xs)) on in
      let all : option_and_then (replay (x.entry ∷ of_part m i xs)) (Some v) ≡ slice_get new i = ap (λ es. option_and_then (replay es) (Some v)) (sym entries_are) ∙ ap (option_and_then (replay (of_part m i (x ∷ xs)))) (sym here) ∙ each i in
      let some : is_some (slice_get new i) ≡ true = sym (alike i) ∙ ap (λ (o : Option PartView). is_some o) here in
      next_by x.entry (of_part m i xs) v (after x.entry.event x.entry.crossing v) (slice_get new i) refl some all

off_at : (m i : ℕ) (x : Placed) (xs : List Placed) (old new : List PartView) → Replays m (x ∷ xs) old new → is_on (pair_of m x.entry.event) x.part i ≡ false → option_and_then (replay (of_part m i xs)) (slice_get old i) ≡ slice_get new i
off_at m i x xs old new each off =
    ap (λ es. option_and_then (replay es) (slice_get old i)) (sym (of_more m i x xs ∙ ap (λ b. cond b (x.entry ∷ of_part m i xs) (of_part m i xs)) off)) ∙ each i

-- the machine after the first entry of a merge
record Stepped (n : ShapeNumbers) (m : ℕ) (x : Placed) (xs : List Placed) (old new : List PartView) : Type 0 where
  mid : List PartView
  happens : happened x.entry.event (machine n old) ≡ Some (machine n mid)
  world : IsWorld (machine n mid)
  alike : Alike mid new
  each : Replays m xs mid new

there_at : (n : ShapeNumbers) (old : List PartView) (p : ℕ) → IsWorld (machine n old) → p < part_count n → (v : PartView) × (slice_get old p ≡ Some v)
there_at n old p world less = read old p (let c = world.count in omega arith)
  where
    read : (xs : List PartView) (i : ℕ) → i < length xs → (v : PartView) × (slice_get xs i ≡ Some v)
    read [] i h = absurd (omega arith)
    read (y ∷ xs) zero h = (y, refl)
    read (y ∷ xs) (suc i) h = read xs i (omega arith)

fits_at : (n : ShapeNumbers) (old : List PartView) (p : ℕ) (v : PartView) → IsWorld (machine n old) → slice_get old p ≡ Some v → FitsKind n (kind_of n p) v
fits_at n old p v world here =
    let within = slice_get_within old p v here in
    let count = world.count in
    let less : p < part_count n = omega arith in
    subst (FitsKind n (kind_of n p)) (get_or_from_slice_get old p v AbsentV here) (world.each p less)

cond_same : {X : Type 0} (b : Bool) (a c : X) → b ≡ true → cond b a c ≡ a
cond_same true a c e = refl
cond_same false a c e = cc

set_some : (xs : List PartView) (i j : ℕ) (v : PartView) → is_some (slice_get (set xs i v) j) ≡ is_some (slice_get xs j)
set_some [] i j v = refl
set_some (x ∷ xs) zero zero v = refl
set_some (x ∷ xs) zero (suc j) v = refl
set_some (x ∷ xs) (suc i) zero v = refl
set_some (x ∷ xs) (suc i) (suc j) v = set_some xs i j v

or_self : (a b : ℕ) → (a == a || b == a) ≡ true
or_self a b = by (a == a) (eqb_self a)
  where
    by : (t : Bool) → t ≡ true → (t || b == a) ≡ true
    by true e = refl
    by false e = cc

or_second : (a b : ℕ) → (a == b || b == b) ≡ true
or_second a b = by (a == b) (b == b) (eqb_self b)
  where
    by : (s t : Bool) → t ≡ true → (s || t) ≡ true
    by true t e = refl
    by false t e = e

or_neither : (s t : Bool) → s ≡ false → t ≡ false → (s || t) ≡ false
or_neither false t e f = f
or_neither true t e f = cc

-- an event on one part
step_one : (n : ShapeNumbers) (x : Placed) (xs : List Placed) (old new : List PartView) → IsWorld (machine n old) → IsAt n x → Alike old new → Replays (part_count n) (x ∷ xs) old new → pair_of (part_count n) x.entry.event ≡ None → x.part < part_count n → Stepped n (part_count n) x xs old new
step_one n x xs old new world at alike each one within =
    let m = part_count n in
    let here = there_at n old x.part world within in
    let on : is_on (pair_of m x.entry.event) x.part x.part ≡ true = ap (λ o. is_on o x.part x.part) one ∙ eqb_self x.part in
    let next = next_at m x.part x xs old new each alike here.0 here.1 on in
    let row : after x.entry.event crossing.None here.0 ≡ Some next.new = one_row m x.entry.event x.entry.crossing here.0 next.new one next.row in
    let place : places n x.entry.event ≡ One x.part = at.places_are ∙ ap (λ o. places_at o x.part) one in
    let mid : List PartView = set old x.part next.new in
    record {
      mid = mid;
      happens = ap (happened_at x.entry.event (machine n old)) place
          ∙ ap (λ o. option_map (with_part (machine n old) x.part) (option_and_then (after x.entry.event crossing.None) o)) here.1
          ∙ ap (option_map (with_part (machine n old) x.part)) row;
      world = world_keeps (machine n old) x.part here.0 next.new here.1 (kind_stays x.entry.event x.entry.crossing n (kind_of n x.part) here.0 next.new next.row) world;
      alike = λ i. set_some old x.part i next.new ∙ alike i;
      each = λ i. each_at i (x.part == i) refl here.0 here.1 next.new next.rest;
    }
  where
    each_at : (i : ℕ) (b : Bool) → (x.part == i) ≡ b → (v : PartView) → slice_get old x.part ≡ Some v → (w : PartView) → replay (of_part (part_count n) x.part xs) w ≡ slice_get new x.part
        → option_and_then (replay (of_part (part_count n) i xs)) (slice_get (set old x.part w) i) ≡ slice_get new i
    each_at i true t v g w rest =
        let same : x.part ≡ i = eqb-true x.part i t in
        subst (λ i. option_and_then (replay (of_part (part_count n) i xs)) (slice_get (set old x.part w) i) ≡ slice_get new i) same
        (ap (option_and_then (replay (of_part (part_count n) x.part xs))) (get_same old x.part w v g) ∙ rest)
    each_at i false t v g w rest =
        ap (option_and_then (replay (of_part (part_count n) i xs))) (get_other old x.part i w (eqb_false x.part i t))
        ∙ off_at (part_count n) i x xs old new each (ap (λ o. is_on o x.part i) one ∙ t)

-- an event on two parts
step_two : (n : ShapeNumbers) (x : Placed) (xs : List Placed) (old new : List PartView) (p : Pair) → Behind n → IsWorld (machine n old) → IsAt n x → Alike old new → Replays (part_count n) (x ∷ xs) old new → pair_of (part_count n) x.entry.event ≡ Some p → p.low < p.high → p.high < part_count n → Stepped n (part_count n) x xs old new
step_two n x xs old new p behind world at alike each two less within =
    let m = part_count n in
    let low = there_at n old p.low world (omega arith) in
    let high = there_at n old p.high world within in
    let on_low : is_on (pair_of m x.entry.event) x.part p.low ≡ true = ap (λ o. is_on o x.part p.low) two ∙ or_self p.low p.high in
    let on_high : is_on (pair_of m x.entry.event) x.part p.high ≡ true = ap (λ o. is_on o x.part p.high) two ∙ or_second p.low p.high in
    let next = next_at m p.low x xs old new each alike low.0 low.1 on_low in
    let next' = next_at m p.high x xs old new each alike high.0 high.1 on_high in
    let place : places n x.entry.event ≡ Two p.low p.high = at.places_are ∙ ap (λ o. places_at o x.part) two in
    let sided = event_sides n x.entry.event p.low p.high low.0 high.0 behind place (fits_at n old p.low low.0 world low.1) (fits_at n old p.high high.0 world high.1) in
    let met : meets x.entry.event low.0 high.0 ≡ Some (record { low = next.new; high = next'.new }) = rows_meet m x.entry.event x.entry.crossing low.0 high.0 next.new next'.new p two sided.low_is sided.high_is next.row next'.row in
    let mid : List PartView = set (set old p.low next.new) p.high next'.new in
    record {
      mid = mid;
      happens = ap (happened_at x.entry.event (machine n old)) place
          ∙ ap (λ o. option_map (with_both (machine n old) p.low p.high) (meets_at x.entry.event o (slice_get old p.high))) low.1
          ∙ ap (λ o. option_map (with_both (machine n old) p.low p.high) (meets_at x.entry.event (Some low.0) o)) high.1
          ∙ ap (option_map (with_both (machine n old) p.low p.high)) met;
      world = both_keep x.entry.event (machine n old) p.low p.high low.0 high.0 (record { low = next.new; high = next'.new }) (λ e. omega arith) low.1 high.1 met world;
      alike = λ i. set_some (set old p.low next.new) p.high i next'.new ∙ set_some old p.low i next.new ∙ alike i;
      each = λ i. each_at i (p.low == i) refl (p.high == i) refl low.0 low.1 high.0 high.1 next.new next.rest next'.new next'.rest;
    }
  where
    each_at : (i : ℕ) (b : Bool) → (p.low == i) ≡ b → (c : Bool) → (p.high == i) ≡ c → (v : PartView) → slice_get old p.low ≡ Some v → (w : PartView) → slice_get old p.high ≡ Some w
        → (v' : PartView) → replay (of_part (part_count n) p.low xs) v' ≡ slice_get new p.low → (w' : PartView) → replay (of_part (part_count n) p.high xs) w' ≡ slice_get new p.high
        → option_and_then (replay (of_part (part_count n) i xs)) (slice_get (set (set old p.low v') p.high w') i) ≡ slice_get new i
    each_at i true t c u v g w h v' rest w' rest' =
        let same : p.low ≡ i = eqb-true p.low i t in
        let apart : p.high ≢ p.low = λ e. omega arith in
        subst (λ i. option_and_then (replay (of_part (part_count n) i xs)) (slice_get (set (set old p.low v') p.high w') i) ≡ slice_get new i) same
        (ap (option_and_then (replay (of_part (part_count n) p.low xs))) (get_other (set old p.low v') p.high p.low w' apart ∙ get_same old p.low v' v g) ∙ rest)
    each_at i false t true u v g w h v' rest w' rest' =
        let same : p.high ≡ i = eqb-true p.high i u in
        let apart : p.low ≢ p.high = λ e. omega arith in
        subst (λ i. option_and_then (replay (of_part (part_count n) i xs)) (slice_get (set (set old p.low v') p.high w') i) ≡ slice_get new i) same
        (ap (option_and_then (replay (of_part (part_count n) p.high xs))) (get_same (set old p.low v') p.high w' w (get_other old p.low p.high v' apart ∙ h)) ∙ rest')
    each_at i false t false u v g w h v' rest w' rest' =
        ap (option_and_then (replay (of_part (part_count n) i xs))) (get_other (set old p.low v') p.high i w' (eqb_false p.high i u) ∙ get_other old p.low i v' (eqb_false p.low i t))
        ∙ off_at (part_count n) i x xs old new each (ap (λ o. is_on o x.part i) two ∙ or_neither (p.low == i) (p.high == i) t u)

-- what is known of each entry of a merge
pub record IsOf (n : ShapeNumbers) (x : Placed) : Type 0 where
  pub at : IsAt n x
  pub part : x.part < part_count n
  pub high : (p : Pair) → pair_of (part_count n) x.entry.event ≡ Some p → p.high < part_count n

step_by : (n : ShapeNumbers) (x : Placed) (xs : List Placed) (old new : List PartView) (o : Option Pair) → Behind n → IsWorld (machine n old) → IsOf n x → Alike old new → Replays (part_count n) (x ∷ xs) old new → pair_of (part_count n) x.entry.event ≡ o → Stepped n (part_count n) x xs old new
step_by n x xs old new None behind world of alike each one = step_one n x xs old new world of.at alike each one of.part
step_by n x xs old new (Some p) behind world of alike each two = step_two n x xs old new p behind world of.at alike each two (of.at.apart p two) (of.high p two)

replay_none : (o : Option PartView) → o ≡ option_and_then (replay []) o
replay_none None = refl
replay_none (Some v) = refl

-- where each part is after what a list of entries has of it, the list is a walk
pub walk_of : (n : ShapeNumbers) (xs : List Placed) (old new : List PartView) → Behind n → IsWorld (machine n old) → All (IsOf n) xs → Alike old new → Replays (part_count n) xs old new → Walk (machine n old) (events_of xs) (machine n new)
walk_of n [] old new behind world of alike each = ap (machine n) (same_parts old new (λ k. replay_none (slice_get old k) ∙ each k))
walk_of n (x ∷ xs) old new behind world of alike each =
    let s = step_by n x xs old new (pair_of (part_count n) x.entry.event) behind world (All-head (IsOf n) x xs of) alike each refl in
    (machine n s.mid, s.happens, walk_of n xs s.mid new behind s.world (All-tail (IsOf n) x xs of) s.alike s.each)

-- ---- the merge

each_replays : (parts : List StampedView) (i : ℕ) → All IsStamped parts → option_and_then (replay (entries_at (journals_of parts) i)) (slice_get (starts_of parts) i) ≡ slice_get (presents_of parts) i
each_replays [] i all = refl
each_replays (s ∷ parts) zero all = (All-head IsStamped s parts all).replays
each_replays (s ∷ parts) (suc i) all = each_replays parts i (All-tail IsStamped s parts all)

same_size : (parts : List StampedView) → Alike (starts_of parts) (presents_of parts)
same_size [] i = refl
same_size (s ∷ parts) zero = refl
same_size (s ∷ parts) (suc i) = same_size parts i

count_of : (parts : List StampedView) → length (journals_of parts) ≡ length (starts_of parts)
count_of [] = refl
count_of (s ∷ parts) = ap suc (count_of parts)

in_within : (js : List (List Entry)) (i : ℕ) (e : Entry) → IsIn e (entries_at js i) → i < length js
in_within [] i e h = absurd h
in_within (j ∷ js) zero e h = omega arith
in_within (j ∷ js) (suc i) e h = let k = in_within js i e h in omega arith

module _ (n : ShapeNumbers) (parts : List StampedView) (are : AreJournals n parts) (xs : List Placed) (merge : IsMergeOf (journals_of parts) xs) where
  size : length (journals_of parts) ≡ part_count n
  size = count_of parts ∙ are.world.count

  of_each : (x : Placed) → Among x xs → IsOf n x
  of_each x h =
      let js = journals_of parts in
      let least : is_least (pair_of (length js) x.entry.event) x.part ≡ true = from_all (λ x. is_least (pair_of (length js) x.entry.event) x.part ≡ true) xs x merge.least h in
      by (pair_of (length js) x.entry.event) refl least
    where
      stands_here : (o : Option Pair) → is_least o x.part ≡ true → is_on o x.part x.part ≡ true
      stands_here None l = eqb_self x.part
      stands_here (Some p) l = let e = eqb-true p.low x.part l in subst (λ k. (p.low == k || p.high == k) ≡ true) e (or_self p.low p.high)

      by : (o : Option Pair) → pair_of (length (journals_of parts)) x.entry.event ≡ o → is_least (pair_of (length (journals_of parts)) x.entry.event) x.part ≡ true → IsOf n x
      by o is l =
          let js = journals_of parts in
          let on : is_on (pair_of (length js) x.entry.event) x.part x.part ≡ true = stands_here (pair_of (length js) x.entry.event) l in
          let mine : IsIn x.entry (entries_at js x.part) = subst (IsIn x.entry) (merge.each x.part) (into_entries (filter (λ y. is_on (pair_of (length js) y.entry.event) y.part x.part) xs) x (into_filter (λ y. is_on (pair_of (length js) y.entry.event) y.part x.part) xs x h on)) in
          let stands : StandsAt n x.part x.entry = entry_from_all (StandsAt n x.part) (entries_at js x.part) x.entry (are.placed x.part) mine in
          let own : IsOwn (length js) x.part (pair_of (length js) x.entry.event) = entry_from_all (λ e. IsOwn (length js) x.part (pair_of (length js) e.event)) (entries_at js x.part) x.entry (are.paired.own x.part) mine in
          let pairs : pair_of (length js) x.entry.event ≡ pair_of (part_count n) x.entry.event = ap (λ k. pair_of k x.entry.event) size in
          record {
            at = record {
              places_are = is_placed (pair_of (part_count n) x.entry.event) (places n x.entry.event) x.part (agree n x.entry.event) (ap (λ o. is_least o x.part) (sym pairs) ∙ l) stands;
              apart = λ p q. let k : IsOwn (length js) x.part (Some p) = subst (IsOwn (length js) x.part) (pairs ∙ q) own in k.0;
            };
            part = let k = in_within js x.part x.entry mine in let s = size in omega arith;
            high = λ p q. let k : IsOwn (length js) x.part (Some p) = subst (IsOwn (length js) x.part) (pairs ∙ q) own in let a = k.1 in let s = size in omega arith;
          }

  pub merge_walks : Behind n → All IsStamped parts → Walk (machine n (starts_of parts)) (events_of xs) (machine n (presents_of parts))
  merge_walks behind stamped =
      walk_of n xs (starts_of parts) (presents_of parts) behind are.world (to_all (IsOf n) xs of_each) (same_size parts)
      (λ i. ap (λ es. option_and_then (replay es) (slice_get (starts_of parts) i)) (ap (λ m. of_part m i xs) (sym size) ∙ merge.each i) ∙ each_replays parts i stamped)

-- the merge of the journals of a machine's parts is a walk
pub merge_is_walk : (n : ShapeNumbers) (parts : List StampedView) (events : List Event) → Behind n → MergeIsWalk n parts events
merge_is_walk n parts events behind stamped are (xs, merge, same) = rw same (merge_walks n parts are xs merge behind stamped)

of_append : (P : Placed → Type 0) (xs ys : List Placed) → All P (xs ++ ys) → All P xs
of_append P xs ys a = to_all P xs (λ x h. from_all P (xs ++ ys) x a (left xs x h))
  where
    left : (xs : List Placed) (x : Placed) → Among x xs → Among x (xs ++ ys)
    left [] x h = absurd h
    left (y ∷ xs) x (inl e) = inl e
    left (y ∷ xs) x (inr h) = inr (left xs x h)

-- a beginning of the merge walks to where each part is after what the beginning has of it
pub beginning_walks : (n : ShapeNumbers) (parts : List StampedView) (xs ys : List Placed) (new : List PartView) → Behind n → AreJournals n parts → IsMergeOf (journals_of parts) (xs ++ ys) → Alike (starts_of parts) new → Replays (part_count n) xs (starts_of parts) new
    → Walk (machine n (starts_of parts)) (events_of xs) (machine n new)
beginning_walks n parts xs ys new behind are merge alike each = walk_of n xs (starts_of parts) new behind are.world (of_append (IsOf n) xs ys (to_all (IsOf n) (xs ++ ys) (of_each n parts are (xs ++ ys) merge))) alike each
