-- Parts with their journals, and when the journals of all parts are those of one machine.
use Rattle.std.specs.Prelude.{ℕ, ◌≡◌, ◌==◌, ◌||◌, Bool, true, false, List, [], ◌∷◌, map, Option, Some, None, option_and_then}
use Rattle.std.specs.List.{All}
use Rattle.tn_base.specs.declared.event.Event.{Event}
use Rattle.tn_base.specs.declared.event.Outcome.{Outcome}
use Rattle.tn_base.specs.declared.shape.ShapeNumbers.{ShapeNumbers}
use Rattle.tn_stamp.specs.declared.entry.Entry.{Entry}
use Rattle.tn_stamp.specs.Journals.{Rises}
use Rattle.tn_stamp.specs.Merging.{ArePaired, IsMerge, entries_at}
use Rattle.tn_rows.specs.Ends.{final_on}
use Rattle.tn_rows.specs.Events.{IsWorld, after, replay}
use Rattle.tn_rows.specs.PartView.{PartView}
use Rattle.tn_rows.specs.Places.{Places, Nowhere, One, Two, places}
use Rattle.tn_rows.specs.Runs.{Walk}
use Rattle.tn_rows.specs.WorldView.{WorldView}

-- a part with what it did: where it began, its journal with room for so many entries more, and where it is
pub record StampedView : Type 0 where
  pub start : PartView
  pub entries : List Entry
  pub room : ℕ
  pub present : PartView

-- the stamps rise, and the present is the start after the journal's entries
pub record IsStamped (s : StampedView) : Type 0 where
  pub rises : Rises 0 s.entries
  pub replays : replay s.entries s.start ≡ Some s.present

-- the stamp of the first final event of these entries, if there is one: each entry's part tells whether its event is final
abbrev pub first_by : Option Outcome → ℕ → Option ℕ → Option ℕ
first_by None stamp later = later
first_by (Some o) stamp later = Some stamp

abbrev pub first_final : List Entry → PartView → Option ℕ
first_final [] part = None
first_final (entry ∷ entries) part = option_and_then (λ next. first_by (final_on entry.event next) entry.stamp (first_final entries next)) (after entry.event entry.crossing part)

abbrev pub touches : Places → ℕ → Bool
touches Nowhere i = false
touches (One p) i = p == i
touches (Two p q) i = (p == i) || (q == i)

-- an event of part i's journal is on part i
abbrev pub StandsAt : ShapeNumbers → ℕ → Entry → Type 0
StandsAt n i e = touches (places n e.event) i ≡ true

abbrev pub starts_of : List StampedView → List PartView
starts_of parts = map (λ s. s.start) parts

abbrev pub presents_of : List StampedView → List PartView
presents_of parts = map (λ s. s.present) parts

abbrev pub journals_of : List StampedView → List (List Entry)
journals_of parts = map (λ s. s.entries) parts

abbrev pub machine : ShapeNumbers → List PartView → WorldView
machine n parts = record { shape = n; parts = parts }

-- the starts are a machine, each event stands in the journals of its parts and in no other, and an event on two parts is the
-- same in both
pub record AreJournals (n : ShapeNumbers) (parts : List StampedView) : Type 0 where
  pub world : IsWorld (machine n (starts_of parts))
  pub paired : ArePaired (journals_of parts)
  pub placed : (i : ℕ) → All (StandsAt n i) (entries_at (journals_of parts) i)

-- the merge of the journals is a walk from the starts to the presents
abbrev pub MergeIsWalk : ShapeNumbers → List StampedView → List Event → Type 0
MergeIsWalk n parts events =
    All IsStamped parts → AreJournals n parts → IsMerge (journals_of parts) events
    → Walk (machine n (starts_of parts)) events (machine n (presents_of parts))
