-- What a check of events finds.
use Rattle.std.specs.Prelude.{ℕ, ◌≡◌, ◌⊎◌, List, ◌∷◌, ◌++◌, length, None, IsSome}
use Rattle.tn_base.specs.declared.event.Event.{Event}
use Rattle.tn_check.specs.declared.check.Verdict.{Verdict}
use Rattle.tn_check.specs.declared.check.Verdict.TheVariants as verdict
use Rattle.tn_rows.specs.Ends.{final_after, last_of}
use Rattle.tn_rows.specs.Events.{happened}
use Rattle.tn_rows.specs.Runs.{Run}
use Rattle.tn_rows.specs.WorldView.{WorldView}

-- the events are a run of the machine
abbrev pub IsRun : WorldView → List Event → Type 0
IsRun start events = (end : WorldView) × Run start events end

-- the event behind so many events is the first at fault: the events before it are a run, and after them it is not enabled, or the last of
-- them is final
pub record FaultAt (at : ℕ) (start : WorldView) (events : List Event) : Type 0 where
  pub before : List Event
  pub event : Event
  pub others : List Event
  pub split : events ≡ before ++ event ∷ others
  pub place : length before ≡ at
  pub end : WorldView
  pub run : Run start before end
  pub fault : (happened event end ≡ None) ⊎ IsSome (final_after (last_of before) end)

-- each verdict with its cause
abbrev pub Checks : Verdict → WorldView → List Event → Type 0
Checks verdict.Run start events = IsRun start events
Checks (verdict.Refused at) start events = FaultAt at start events

-- events have at most one verdict
abbrev pub OneVerdict : Type 0
OneVerdict = (a b : Verdict) (start : WorldView) (events : List Event) → Checks a start events → Checks b start events → a ≡ b
