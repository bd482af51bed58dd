-- Events made again, up to the first final one.
use Rattle.std.proofs.Common.{◌≡◌, ◌∙◌, ℕ, ◌+◌, ◌<◌, ◌≤◌, inl, inr, Bool, true, false, List, ◌∷◌, length, take, drop, get_or, Option, Some, is_some, refl, sym, subst}
use Rattle.std.proofs.Math.Seq.{take_all}
use Rattle.std.proofs.lemmas.List.{drop_more, take-append-drop}
use Rattle.tn_base.specs.declared.event.Event.{Event}
use Rattle.tn_check.proofs.Runs.{SoFar, none_yet, one_more}
use Rattle.tn_rows.specs.Cuts.{IsCut}
use Rattle.tn_rows.specs.Ends.{final_of}
use Rattle.tn_rows.specs.Events.{happened}
use Rattle.tn_rows.specs.Runs.{Walk}
use Rattle.tn_rows.specs.WorldView.{WorldView}
use Rattle.tn_settle.specs.Settles.{CanHappen}
use Rattle.tn_tile.specs.declared.deliver.Did.{Did}
use Rattle.tn_tile.specs.declared.deliver.Did.TheVariants as did
use Rattle.tn_world.specs.Plays.{Redone}

-- the events before this place were made, none of them is final, and the others can happen in turn
pub record Replayed (start : WorldView) (events : List Event) (place made : ℕ) (now : WorldView) : Type 0 where
  pub run : SoFar start events place made false now
  pub left : CanHappen now (drop place events)

pub replayed_none : (start : WorldView) (events : List Event) → CanHappen start events → Replayed start events 0 0 start
replayed_none start events can = record { run = none_yet start events; left = can }

-- an event that can happen does happen when it is made again
redone_is : (did : Did) (row : Option WorldView) (new mid : WorldView) → Redone did row new → row ≡ Some mid → row ≡ Some new
redone_is did.Moved row new mid redone step = redone
redone_is did.Nothing row new mid redone step = cc (redone, step)

-- behind one event more
pub record Stepped (start : WorldView) (events : List Event) (place made : ℕ) (ended : Bool) (now : WorldView) : Type 0 where
  pub run : SoFar start events place made ended now
  pub left : CanHappen now (drop place events)

pub stepped : (start now next : WorldView) (events : List Event) (place made : ℕ) (d : Event) (did : Did) (ended : Bool) → Replayed start events place made now → place < length events
    → Redone did (happened (get_or events place d) now) next → ended ≡ is_some (final_of (get_or events place d) next) → Stepped start events (place + 1) (made + 1) ended next
stepped start now next events place made d did ended s less redone ends =
    let e = get_or events place d in
    let walk : Walk now (e ∷ drop (place + 1) events) s.left.0 = subst (λ es. Walk now es s.left.0) (drop_more events place d less) s.left.1 in
    let step : happened e now ≡ Some next = redone_is did (happened e now) next walk.0 redone walk.1 in
    let same : walk.0 ≡ next = let is : Some walk.0 ≡ Some next = sym walk.1 ∙ step in cc is in
    record {
      run = one_more start now next events place made d false ended s.run refl less step ends;
      left = (s.left.0, subst (λ w. Walk w (drop (place + 1) events) s.left.0) same walk.2);
    }

-- the event was not final
pub goes_on : (start now : WorldView) (events : List Event) (place made : ℕ) (ended : Bool) → Stepped start events place made ended now → ended ≡ false → Replayed start events place made now
goes_on start now events place made ended s calm = record { run = subst (λ b. SoFar start events place made b now) calm s.run; left = s.left }

-- the event was final
pub cut_here : (start now : WorldView) (events : List Event) (place made : ℕ) (ended : Bool) → Stepped start events place made ended now → ended ≡ true → IsCut start events (take made events) now
cut_here start now events place made ended s final =
    subst (λ k. IsCut start events (take k events) now) (sym s.run.counted) (record {
      rest = drop place events;
      begins = take-append-drop place events;
      run = s.run.run;
      ends = inl (sym s.run.marked ∙ final);
    })

-- no event was final
pub cut_whole : (start now : WorldView) (events : List Event) (place made : ℕ) → Replayed start events place made now → length events ≤ place → IsCut start events (take made events) now
cut_whole start now events place made s all =
    subst (λ k. IsCut start events (take k events) now) (sym s.run.counted) (record {
      rest = drop place events;
      begins = take-append-drop place events;
      run = s.run.run;
      ends = inr (take_all place events all);
    })
