-- The first event of a list that is enabled.
use Rattle.std.specs.Prelude.{◌≡◌, ◌⊎◌, List, [], ◌∷◌, Option, None, IsSome, MatchOption}
use Rattle.tn_base.specs.declared.event.Event.{Event}
use Rattle.tn_rows.specs.Events.{happened}
use Rattle.tn_rows.specs.WorldView.{WorldView}

-- an event is enabled, and none before it in the list is
abbrev pub First : WorldView → List Event → Event → Type 0
First w [] e = ⊥
First w (x ∷ xs) e = ((x ≡ e) × IsSome (happened x w)) ⊎ ((happened x w ≡ None) × First w xs e)

-- none of these events is enabled
abbrev pub NoneOf : WorldView → List Event → Type 0
NoneOf w [] = Unit {0}
NoneOf w (x ∷ xs) = (happened x w ≡ None) × NoneOf w xs

-- the first of these events that is enabled, or none of them is
abbrev pub FirstOf : WorldView → List Event → Option Event → Type 0
FirstOf w events found = MatchOption found (NoneOf w events) (First w events)
