-- A send over a run, event by event.
use Rattle.std.proofs.Common.{◌≡◌, ◌∙◌, ℕ, ◌+◌, ◌<◌, ◌≤◌, List, [], ◌∷◌, ◌++◌, length, drop, get_or, map, Option, Some, None, refl, ap, sym, subst, append_assoc}
use Rattle.std.specs.Prelude.{IsSome, OnOk}
use Rattle.std.specs.declared.alloc.AllocError.{AllocError}
use Rattle.std.specs.declared.result.Result.{Result}
use Rattle.std.specs.declared.result.Result.TheVariants.{Ok, Err}
use Rattle.std.specs.List.{filter_map}
use Rattle.std.proofs.lemmas.List.{append-nil, drop_all, drop_more, map-append}
use Rattle.tn_base.specs.Shape.{WithinLimits}
use Rattle.tn_base.specs.declared.event.Event.{Event}
use Rattle.tn_base.specs.declared.shape.ShapeNumbers.{ShapeNumbers}
use Rattle.tn_letters.specs.Steps.{event_steps}
use Rattle.tn_letters.specs.declared.steps.BagStep.{BagStep}
use Rattle.tn_quiet.proofs.Runs.{kept_at}
use Rattle.tn_rows.specs.Events.{IsWorld, happened}
use Rattle.tn_rows.specs.Places.{Places, Nowhere, One, Two, places}
use Rattle.tn_rows.specs.Runs.{Run}
use Rattle.tn_rows.specs.WorldView.{WorldView}
use Rattle.tn_stamped.specs.Placing.{ArePartsOf}
use Rattle.tn_stamped.specs.declared.placing.EventParts.{EventParts}
use Rattle.tn_stamped.specs.declared.placing.EventParts.TheVariants as parts
use Rattle.tn_tile.specs.declared.deliver.Did.{Did}
use Rattle.tn_tile.specs.declared.deliver.Did.TheVariants as did
use Rattle.tn_world.specs.Plays.{Redone}
use Rattle.tn_follow.proofs.Apart.{new_at_its_parts}
use Rattle.tn_follow.specs.Follow.{letter_dropped, letter_handed, new_spots, receivers, sighted_from, sighted_in, sighted_then, sightings, spots}
use Rattle.tn_follow.specs.Parts.{AreInOrder, ends_in, greater_spots, lesser_spots, new_at, places_of}
use Rattle.tn_follow.specs.declared.sighting.Sighting.{Sighting}
use Rattle.tn_follow.specs.declared.sighting.Sighting.TheVariants as sighting
use Rattle.tn_follow.specs.declared.spots.Spot.{Spot}

-- the events before this place were made, and what they do with the send is told
pub record Following (start : WorldView) (events : List Event) (origin number place at : ℕ) (now : WorldView) (all : List Sighting) : Type 0 where
  pub counted : at ≡ place
  pub world : IsWorld now
  pub run : (end : WorldView) × Run now (drop place events) end
  pub told : all ++ sighted_from origin number place now (drop place events) ≡ sightings start events origin number

some_is : (o : Option WorldView) (w : WorldView) → o ≡ Some w → IsSome o
some_is o w e = rw e refl

first_step : (e : Event) (es : List Event) (now : WorldView) → ((end : WorldView) × Run now (e ∷ es) end) → (mid : WorldView) × (happened e now ≡ Some mid) × ((end : WorldView) × Run mid es end)
first_step e es now r = (r.1.0, r.1.1, (r.0, r.1.3))

pub begins : (start now : WorldView) (events : List Event) (origin number : ℕ) → now ≡ start → IsWorld start → ((end : WorldView) × Run start events end) → Following start events origin number 0 0 now []
begins start now events origin number same world run =
    subst (λ w. Following start events origin number 0 0 w []) (sym same) (record { counted = refl; world = world; run = run; told = refl })

next_step : (start now : WorldView) (events : List Event) (origin number place at : ℕ) (all : List Sighting) (d : Event) → Following start events origin number place at now all → place < length events
    → (mid : WorldView) × (happened (get_or events place d) now ≡ Some mid) × ((end : WorldView) × Run mid (drop (place + 1) events) end)
next_step start now events origin number place at all d f less =
    first_step (get_or events place d) (drop (place + 1) events) now (subst (λ es. (end : WorldView) × Run now es end) (drop_more events place d less) f.run)

-- the next event is enabled
pub can_go_on : (start now : WorldView) (events : List Event) (origin number place at : ℕ) (all : List Sighting) (d : Event) → Following start events origin number place at now all → place < length events → IsSome (happened (get_or events place d) now)
can_go_on start now events origin number place at all d f less =
    let s = next_step start now events origin number place at all d f less in
    some_is (happened (get_or events place d) now) s.0 s.1

-- the next event was made
pub goes_on : (start now next : WorldView) (events : List Event) (origin number place at : ℕ) (all more : List Sighting) (d : Event) → Following start events origin number place at now all → place < length events
    → happened (get_or events place d) now ≡ Some next → more ≡ all ++ sighted_in origin number (at + 1) (get_or events place d) now next → Following start events origin number (place + 1) (at + 1) next more
goes_on start now next events origin number place at all more d f less made told =
    let e = get_or events place d in
    let rest = drop (place + 1) events in
    let s = next_step start now events origin number place at all d f less in
    let both : Some s.0 ≡ Some next = sym s.1 ∙ made in
    let same : s.0 ≡ next = cc both in
    let tail : sighted_from origin number place now (drop place events) ≡ sighted_in origin number (place + 1) e now next ++ sighted_from origin number (place + 1) next rest =
    ap (sighted_from origin number place now) (drop_more events place d less)
    ∙ ap (λ (o : Option WorldView). sighted_then origin number place e now o (λ mid. sighted_from origin number (place + 1) mid rest)) made in
    record {
      counted = ap (λ n. n + 1) f.counted;
      world = (kept_at e now next (places now.shape e) f.world made).0;
      run = subst (λ w. (end : WorldView) × Run w rest end) same s.2;
      told =
          ap (λ (t : List Sighting). t ++ sighted_from origin number (place + 1) next rest) (told ∙ ap (λ n. all ++ sighted_in origin number (n + 1) e now next) f.counted)
          ∙ (append_assoc all (sighted_in origin number (place + 1) e now next) (sighted_from origin number (place + 1) next rest)
          ∙ (ap (λ (t : List Sighting). all ++ t) (sym tail) ∙ f.told));
    }

-- all events were made
pub ends : (start now : WorldView) (events : List Event) (origin number place at : ℕ) (all : List Sighting) → Following start events origin number place at now all → length events ≤ place → all ≡ sightings start events origin number
ends start now events origin number place at all f past =
    sym (append-nil all) ∙ (ap (λ es. all ++ sighted_from origin number place now es) (sym (drop_all place events past)) ∙ f.told)

-- an event that is enabled is made
pub is_made : (did : Did) (o : Option WorldView) (new : WorldView) → Redone did o new → IsSome o → o ≡ Some new
is_made did.Moved o new redone some = redone
is_made did.Nothing None new redone some = cc some
is_made did.Nothing (Some w) new redone some = cc redone

-- ---- the parts of an event

pub places_are : (n : ShapeNumbers) (e : Event) (ps : EventParts) → ArePartsOf n e ps → places n e ≡ places_of ps
places_are n e parts.Nowhere are = are
places_are n e (parts.One p) are = are.0
places_are n e (parts.Two p q port) are = are.here

pub in_order : (n : ShapeNumbers) (e : Event) (ps : EventParts) → ArePartsOf n e ps → AreInOrder n (places_of ps)
in_order n e parts.Nowhere are = tt
in_order n e (parts.One p) are = are.1
in_order n e (parts.Two p q port) are = (are.order, are.within)

pub still_in_order : (e : Event) (old new : WorldView) (ps : EventParts) → ArePartsOf old.shape e ps → IsWorld old → happened e old ≡ Some new → AreInOrder new.shape (places_of ps)
still_in_order e old new ps are world made = subst (λ n. AreInOrder n (places_of ps)) (sym (kept_at e old new (places old.shape e) world made).1) (in_order old.shape e ps are)

by_two : (origin number : ℕ) (old new : WorldView) (at : Places) → new_at origin number old new at ≡ new_spots (lesser_spots origin number new at) (lesser_spots origin number old at) ++ new_spots (greater_spots origin number new at) (greater_spots origin number old at)
by_two origin number old new Nowhere = refl
by_two origin number old new (One p) = sym (append-nil _)
by_two origin number old new (Two p q) = refl

-- what is told of an event
pub told_of : (origin number k : ℕ) (e : Event) (old new : WorldView) (ps : EventParts) (steps : List BagStep) (low high new_low new_high : List Spot) (a b c d : List Sighting)
    → WithinLimits old.shape → IsWorld old → happened e old ≡ Some new → ArePartsOf old.shape e ps
    → low ≡ lesser_spots origin number old (places_of ps) → high ≡ greater_spots origin number old (places_of ps)
    → new_low ≡ lesser_spots origin number new (places_of ps) → new_high ≡ greater_spots origin number new (places_of ps) → steps ≡ event_steps e old
    → b ≡ a ++ map (λ (s : Spot). sighting.At k s.place s.receiver) (new_spots new_low low)
    → c ≡ b ++ map (λ (s : Spot). sighting.At k s.place s.receiver) (new_spots new_high high)
    → d ≡ c ++ ends_in origin number k steps → d ≡ a ++ sighted_in origin number k e old new
told_of origin number k e old new ps steps low high new_low new_high a b c d limits world made are is_low is_high is_new_low is_new_high is_steps first second third =
    let at = places_of ps in
    let here = places_are old.shape e ps are in
    let f : Spot → Sighting = λ s. sighting.At k s.place s.receiver in
    let x = map f (new_spots (spots origin number new) (spots origin number old)) in
    let h = map (λ r. sighting.Handed k r) (receivers origin number (filter_map letter_handed (event_steps e old))) in
    let g = map (λ r. sighting.Dropped k r) (receivers origin number (filter_map letter_dropped (event_steps e old))) in
    let fresh : new_spots (spots origin number new) (spots origin number old) ≡ new_spots new_low low ++ new_spots new_high high =
    new_at_its_parts origin number e old new limits world made (subst (AreInOrder old.shape) (sym here) (in_order old.shape e ps are))
    ∙ (ap (new_at origin number old new) here ∙ (by_two origin number old new at
    ∙ rw (is_low, is_high, is_new_low, is_new_high) refl)) in
    let shown : c ≡ a ++ x =
    second ∙ (ap (λ (t : List Sighting). t ++ map f (new_spots new_high high)) first
    ∙ (append_assoc a (map f (new_spots new_low low)) (map f (new_spots new_high high))
    ∙ (ap (λ (t : List Sighting). a ++ t) (sym (map-append f (new_spots new_low low) (new_spots new_high high)))
    ∙ ap (λ (t : List Spot). a ++ map f t) (sym fresh)))) in
    third ∙ (ap (λ ss. c ++ ends_in origin number k ss) is_steps
    ∙ (ap (λ (t : List Sighting). t ++ (h ++ g)) shown
    ∙ (append_assoc a x (h ++ g) ∙ ap (λ (t : List Sighting). a ++ t) (sym (append_assoc x h g)))))

on_ok : {T E : Type 0} (r : Result T E) (P Q : Type 0) → (P → Q) → OnOk r P → OnOk r Q
on_ok (Ok x) P Q f h = f h
on_ok (Err e) P Q f h = h

-- the same of a call that may want memory at its end
pub told_all : (origin number k : ℕ) (e : Event) (old new : WorldView) (ps : EventParts) (steps : List BagStep) (low high new_low new_high : List Spot) (a b c d : List Sighting) (r : Result (Unit {0}) AllocError)
    → WithinLimits old.shape → IsWorld old → happened e old ≡ Some new → ArePartsOf old.shape e ps
    → low ≡ lesser_spots origin number old (places_of ps) → high ≡ greater_spots origin number old (places_of ps)
    → new_low ≡ lesser_spots origin number new (places_of ps) → new_high ≡ greater_spots origin number new (places_of ps) → steps ≡ event_steps e old
    → b ≡ a ++ map (λ (s : Spot). sighting.At k s.place s.receiver) (new_spots new_low low)
    → c ≡ b ++ map (λ (s : Spot). sighting.At k s.place s.receiver) (new_spots new_high high)
    → OnOk r (d ≡ c ++ ends_in origin number k steps) → OnOk r (d ≡ a ++ sighted_in origin number k e old new)
told_all origin number k e old new ps steps low high new_low new_high a b c d r limits world made are is_low is_high is_new_low is_new_high is_steps first second third =
    on_ok r (d ≡ c ++ ends_in origin number k steps) (d ≡ a ++ sighted_in origin number k e old new)
    (λ last. told_of origin number k e old new ps steps low high new_low new_high a b c d limits world made are is_low is_high is_new_low is_new_high is_steps first second last) third

-- those that are handed, and then those that are dropped
pub ends_told : (origin number k : ℕ) (steps : List BagStep) (handed dropped : List ℕ) (a b c : List Sighting) (r : Result (Unit {0}) AllocError)
    → handed ≡ receivers origin number (filter_map letter_handed steps) → dropped ≡ receivers origin number (filter_map letter_dropped steps)
    → b ≡ a ++ map (λ x. sighting.Handed k x) handed → OnOk r (c ≡ b ++ map (λ x. sighting.Dropped k x) dropped) → OnOk r (c ≡ a ++ ends_in origin number k steps)
ends_told origin number k steps handed dropped a b c r is_handed is_dropped first second =
    on_ok r (c ≡ b ++ map (λ x. sighting.Dropped k x) dropped) (c ≡ a ++ ends_in origin number k steps)
    (λ last. last ∙ (rw (first, is_handed, is_dropped) (append_assoc a (map (λ x. sighting.Handed k x) (receivers origin number (filter_map letter_handed steps))) (map (λ x. sighting.Dropped k x) (receivers origin number (filter_map letter_dropped steps)))))) second
