use Rattle.std.specs.Prelude.{List}
use Rattle.tn_base.specs.declared.shape.ShapeNumbers.{ShapeNumbers}
use Rattle.tn_rows.specs.PartView.{PartView}

-- a machine: its numbers, and its parts in order
pub record WorldView : Type 0 where
  pub shape : ShapeNumbers
  pub parts : List PartView
