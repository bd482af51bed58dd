use Rattle.std.specs.Prelude.{◌≡◌}
use Rattle.tn_base.specs.declared.shape.ShapeNumbers.{ShapeNumbers}
use Rattle.tn_rows.specs.Events.{IsWorld}
use Rattle.tn_rows.specs.WorldView.{WorldView}

-- a machine, and the numbers of the shape whose places are known
pub record IsSited (w : WorldView) (known : ShapeNumbers) : Type 0 where
  pub world : IsWorld w
  pub all : known ≡ w.shape
