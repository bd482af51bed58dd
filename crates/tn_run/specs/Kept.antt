-- What is kept of a call, as contracts see it.
use Rattle.std.specs.Prelude.{◌≡◌, List, [], None, Option}
use Rattle.tn_base.specs.declared.event.Event.{Event}
use Rattle.tn_rows.specs.WorldView.{WorldView}

pub record KeptView : Type 0 where
  pub start : Option WorldView
  pub history : List Event

-- nothing is kept
pub record IsFresh (kept : KeptView) : Type 0 where
  pub start : kept.start ≡ None
  pub history : kept.history ≡ []
