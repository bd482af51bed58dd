-- Events on two parts of a machine.
use Rattle.std.specs.Prelude.{ℕ, List, slice_set}
use Rattle.tn_rows.specs.Events.{Met}
use Rattle.tn_rows.specs.PartView.{PartView}

-- the parts with both of an event in their places
abbrev pub set_both : List PartView → ℕ → ℕ → Met → List PartView
set_both parts p q m = slice_set (slice_set parts p m.low) q m.high
