-- What stands on the parts that an event is not on.
use Rattle.std.specs.Prelude.{ℕ, ◌≡◌, false, Some}
use Rattle.tn_base.specs.declared.event.Event.{Event}
use Rattle.tn_letters.specs.Standing.{standing_on}
use Rattle.tn_rows.specs.Events.{happened}
use Rattle.tn_rows.specs.Places.{places}
use Rattle.tn_rows.specs.Stamped.{touches}
use Rattle.tn_rows.specs.WorldView.{WorldView}

-- an event leaves what stands on each part that it is not on
abbrev pub LeavesOthers : Type 0
LeavesOthers = (e : Event) (old new : WorldView) (p : ℕ) → happened e old ≡ Some new → touches (places old.shape e) p ≡ false → standing_on new p ≡ standing_on old p
