-- A history cut after its first final event.
use Rattle.std.specs.Prelude.{◌≡◌, ◌++◌, ◌⊎◌, List, MatchOption, IsSome}
use Rattle.tn_base.specs.declared.event.Event.{Event}
use Rattle.tn_rows.specs.Ends.{final_after, last_of}
use Rattle.tn_rows.specs.Events.{Rests}
use Rattle.tn_rows.specs.Runs.{Run}
use Rattle.tn_rows.specs.WorldView.{WorldView}

-- the whole history up to its first final event, which ends it; or all of it, where no event is final
pub record IsCut (start : WorldView) (whole cut : List Event) (end : WorldView) : Type 0 where
  pub rest : List Event
  pub begins : cut ++ rest ≡ whole
  pub run : Run start cut end
  pub ends : IsSome (final_after (last_of cut) end) ⊎ (cut ≡ whole)

-- a run is over: its last event is final, or no event is enabled after it
abbrev pub IsOver : List Event → WorldView → Type 0
IsOver history end = MatchOption (final_after (last_of history) end) (Rests end) (λ o. Unit {0})
