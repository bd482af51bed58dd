-- Where each part is along the merge of the journals.
use Rattle.std.proofs.Common.{◌≡◌, ◌∙◌, ◌++◌, ◌∷◌, [], ℕ, zero, suc, true, false, List, length, None, Some, refl, sym, ap, subst, is_some, option_and_then, option_map, unwrap_or}
use Rattle.std.specs.declared.option.Option.{Option}
use Rattle.std.specs.List.{All, slice_get}
use Rattle.std.proofs.lemmas.List.{length-map}
use Rattle.std.proofs.lemmas.List.Elements.{All-head, All-tail}
use Rattle.tn_base.specs.declared.event.Event.{Event}
use Rattle.tn_base.specs.declared.shape.ShapeNumbers.{ShapeNumbers}
use Rattle.tn_base.specs.Parts.{part_count}
use Rattle.tn_stamp.specs.declared.entry.Entry.{Entry}
use Rattle.tn_stamp.specs.Merging.{Placed, IsMergeOf, entries_at, events_of, of_part}
use Rattle.tn_rows.proofs.Beginnings.{journal_split}
use Rattle.tn_rows.proofs.Cutting.{same_end}
use Rattle.tn_rows.proofs.Walking.{beginning_walks}
use Rattle.tn_rows.proofs.Ways.{Behind}
use Rattle.tn_rows.specs.Events.{after, happened, replay}
use Rattle.tn_rows.specs.PartView.{PartView}
use Rattle.tn_rows.specs.Runs.{Walk}
use Rattle.tn_rows.specs.Stamped.{AreJournals, IsStamped, StampedView, journals_of, machine, presents_of, starts_of}
use Rattle.tn_rows.specs.WorldView.{WorldView}

-- a part after entries, if each is possible in turn
abbrev pub after_all : List Entry → Option PartView → Option PartView
after_all es o = option_and_then (replay es) o

after_none : (es : List Entry) → after_all es None ≡ None
after_none es = refl

then_append : (xs ys : List Entry) (o : Option PartView) → ((v : PartView) → replay (xs ++ ys) v ≡ after_all ys (replay xs v)) → option_and_then (replay (xs ++ ys)) o ≡ after_all ys (option_and_then (replay xs) o)
then_append xs ys None h = refl
then_append xs ys (Some v) h = h v

replay_append : (xs ys : List Entry) (v : PartView) → replay (xs ++ ys) v ≡ after_all ys (replay xs v)
replay_append [] ys v = refl
replay_append (x ∷ xs) ys v = then_append xs ys (after x.event x.crossing v) (replay_append xs ys)

pub after_append : (xs ys : List Entry) (o : Option PartView) → after_all (xs ++ ys) o ≡ after_all ys (after_all xs o)
after_append xs ys o = then_append xs ys o (replay_append xs ys)

-- a walk, and one event more
pub walk_more : (start : WorldView) (es : List Event) (mid end : WorldView) (e : Event) → Walk start es mid → happened e mid ≡ Some end → Walk start (es ++ e ∷ []) end
walk_more start [] mid end e walk step = (end, subst (λ (w : WorldView). happened e w ≡ Some end) (sym walk) step, refl)
walk_more start (f ∷ fs) mid end e walk step = (walk.0, walk.1, walk_more walk.0 fs mid end e walk.2 step)

-- ---- a list made place by place

abbrev by_place : (ℕ → PartView → PartView) → List PartView → List PartView
by_place f [] = []
by_place f (v ∷ vs) = f 0 v ∷ by_place (λ k. f (suc k)) vs

at_place : (f : ℕ → PartView → PartView) (vs : List PartView) (k : ℕ) → slice_get (by_place f vs) k ≡ option_map (f k) (slice_get vs k)
at_place f [] k = refl
at_place f (v ∷ vs) zero = refl
at_place f (v ∷ vs) (suc k) = at_place (λ k. f (suc k)) vs k

same_there : (f : PartView → PartView) (o : Option PartView) → is_some o ≡ is_some (option_map f o)
same_there f None = refl
same_there f (Some v) = refl

-- what entries make of a part, where they are possible
abbrev made_of : List Entry → PartView → PartView
made_of es v = unwrap_or (replay es v) v

is_made : (o : Option PartView) (v : PartView) → is_some o ≡ true → o ≡ Some (unwrap_or o v)
is_made None v some = cc some
is_made (Some w) v some = refl

front_there : (ys : List Entry) (o p : Option PartView) → after_all ys o ≡ p → is_some p ≡ true → is_some o ≡ true
front_there ys None p h some = let not : is_some p ≡ false = ap (λ (o : Option PartView). is_some o) (sym h) in cc (some, not)
front_there ys (Some v) p h some = refl

-- the entries that can follow all come to be, and so do the first of them
made_at : (xs ys : List Entry) (o p : Option PartView) → after_all (xs ++ ys) o ≡ p → is_some o ≡ is_some p → after_all xs o ≡ option_map (made_of xs) o
made_at xs ys None p h same = refl
made_at xs ys (Some v) p h same = is_made (replay xs v) v (front_there ys (replay xs v) p (sym (replay_append xs ys v) ∙ h) (sym same))

-- ---- the parts along the merge

all_replay : (parts : List StampedView) (i : ℕ) → All IsStamped parts → after_all (entries_at (journals_of parts) i) (slice_get (starts_of parts) i) ≡ slice_get (presents_of parts) i
all_replay [] i all = refl
all_replay (s ∷ parts) zero all = (All-head IsStamped s parts all).replays
all_replay (s ∷ parts) (suc i) all = all_replay parts i (All-tail IsStamped s parts all)

all_there : (parts : List StampedView) (i : ℕ) → is_some (slice_get (starts_of parts) i) ≡ is_some (slice_get (presents_of parts) i)
all_there [] i = refl
all_there (s ∷ parts) zero = refl
all_there (s ∷ parts) (suc i) = all_there parts i

pub count_is : (n : ShapeNumbers) (parts : List StampedView) → AreJournals n parts → length (journals_of parts) ≡ part_count n
count_is n parts are = length-map parts (λ (s : StampedView). s.entries) ∙ sym (length-map parts (λ (s : StampedView). s.start)) ∙ are.world.count

-- a machine, each part of which is its start after the entries that a list has of it
pub record IsAfter (n : ShapeNumbers) (parts : List StampedView) (xs : List Placed) (w : WorldView) : Type 0 where
  pub now : List PartView
  pub is : w ≡ machine n now
  pub each : (i : ℕ) → slice_get now i ≡ after_all (of_part (part_count n) i xs) (slice_get (starts_of parts) i)

-- so is the machine along the merge
pub along : (n : ShapeNumbers) (parts : List StampedView) (xs ys : List Placed) (w : WorldView) → Behind n → All IsStamped parts → AreJournals n parts → IsMergeOf (journals_of parts) (xs ++ ys) → Walk (machine n (starts_of parts)) (events_of xs) w → IsAfter n parts xs w
along n parts xs ys w behind stamped are merge walk =
    let m = part_count n in
    let starts = starts_of parts in
    let now : List PartView = by_place (λ i. made_of (of_part m i xs)) starts in
    let read : (i : ℕ) → slice_get now i ≡ option_map (made_of (of_part m i xs)) (slice_get starts i) = λ i. at_place (λ i. made_of (of_part m i xs)) starts i in
    let size = count_is n parts are in
    let whole : (i : ℕ) → after_all (of_part m i xs ++ of_part m i ys) (slice_get starts i) ≡ slice_get (presents_of parts) i = λ i.
    subst (λ k. after_all (of_part k i xs ++ of_part k i ys) (slice_get starts i) ≡ slice_get (presents_of parts) i) size
    (subst (λ es. after_all es (slice_get starts i) ≡ slice_get (presents_of parts) i) (journal_split (journals_of parts) xs ys i merge) (all_replay parts i stamped)) in
    let made : (i : ℕ) → after_all (of_part m i xs) (slice_get starts i) ≡ slice_get now i = λ i.
    made_at (of_part m i xs) (of_part m i ys) (slice_get starts i) (slice_get (presents_of parts) i) (whole i) (all_there parts i) ∙ sym (read i) in
    let alike : (i : ℕ) → is_some (slice_get starts i) ≡ is_some (slice_get now i) = λ i.
    same_there (made_of (of_part m i xs)) (slice_get starts i) ∙ ap (λ (o : Option PartView). is_some o) (sym (read i)) in
    let there = beginning_walks n parts xs ys now behind are merge alike made in
    record {
      now = now;
      is = same_end (machine n starts) (events_of xs) w (machine n now) walk there;
      each = λ i. sym (made i);
    }
