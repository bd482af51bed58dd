-- The run that all parts of a machine made together.
use Rattle.std.specs.Prelude.{◌≡◌, ◌==◌, ◌≤◌, ℕ, Bool, List, None, Some, filter, is_some, length, true}
use Rattle.std.specs.declared.option.Option.{Option}
use Rattle.std.specs.List.{list_all, list_any}
use Rattle.tn_base.specs.declared.event.Event.{Event}
use Rattle.tn_rows.specs.Cuts.{IsCut}
use Rattle.tn_rows.specs.Runs.{Walk}
use Rattle.tn_rows.specs.Stamped.{StampedView, first_final, journals_of}
use Rattle.tn_rows.specs.WorldView.{WorldView}
use Rattle.tn_stamp.specs.Journals.{last_stamp}
use Rattle.tn_stamp.specs.Merging.{IsMerge}
use Rattle.tn_stamped.specs.Placed.{PlacedView}

-- an event of a part's journal is final
abbrev pub has_ended : StampedView → Bool
has_ended s = is_some (first_final s.entries s.start)

abbrev pub some_ended : List StampedView → Bool
some_ended parts = list_any has_ended parts

-- these events can happen in turn
abbrev pub CanHappen : WorldView → List Event → Type 0
CanHappen start events = (end : WorldView) × Walk start events end

-- the merge of the parts' journals, cut behind its first final event. If no event is final, it is the whole merge
pub record IsHistory (parts : List StampedView) (start : WorldView) (history : List Event) (end : WorldView) : Type 0 where
  pub whole : List Event
  pub merged : IsMerge (journals_of parts) whole
  pub cut : IsCut start whole history end

-- a first final event, if there is one, has the last stamp
abbrev pub is_at_last : ℕ → Option ℕ → Bool
is_at_last last None = true
is_at_last last (Some stamp) = last == stamp

-- the first final event of the part's journal, if there is one, is the journal's last event
abbrev pub is_last_final : StampedView → Bool
is_last_final s = is_at_last (last_stamp 0 s.entries) (first_final s.entries s.start)

-- at most one part has ended, and by the last event of its journal
pub record EndsByLast (parts : List StampedView) : Type 0 where
  pub few : length (filter has_ended parts) ≤ 1
  pub last : list_all is_last_final parts ≡ true

-- the same of a part at its place
abbrev pub ended_here : PlacedView → Bool
ended_here p = has_ended p.stamped

abbrev pub last_here : PlacedView → Bool
last_here p = is_last_final p.stamped
