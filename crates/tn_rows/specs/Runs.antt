-- Walks and runs: lists of events that are enabled in turn.
use Rattle.std.specs.Prelude.{ℕ, ◌≡◌, ◌≢◌, ◌<◌, List, [], ◌∷◌, Some, None}
use Rattle.tn_base.specs.declared.event.Event.{Event}
use Rattle.tn_base.specs.declared.event.Event.TheVariants as event
use Rattle.tn_rows.specs.Ends.{final_of}
use Rattle.tn_rows.specs.Events.{happened}
use Rattle.tn_rows.specs.WorldView.{WorldView}

-- each event is enabled in turn
abbrev pub Walk : WorldView → List Event → WorldView → Type 0
Walk start [] end = start ≡ end
Walk start (e ∷ es) end = (mid : WorldView) × (happened e start ≡ Some mid) × Walk mid es end

-- a walk in which no event but the last is final
abbrev pub Run : WorldView → List Event → WorldView → Type 0
Run start [] end = start ≡ end
Run start (e ∷ es) end = (mid : WorldView) × (happened e start ≡ Some mid) × (es ≢ [] → final_of e mid ≡ None) × Run mid es end

-- a turn could not have been longer
abbrev pub IsLongest : Event → WorldView → Type 0
IsLongest (event.Turn t n) w = (m : ℕ) → n < m → happened (event.Turn t m) w ≡ None
IsLongest _ w = Unit {0}

-- no turn of these events could have been longer, if each event is enabled in turn
abbrev pub LongTurns : WorldView → List Event → Type 0
LongTurns start [] = Unit {0}
LongTurns start (e ∷ es) = IsLongest e start × ((mid : WorldView) → happened e start ≡ Some mid → LongTurns mid es)
