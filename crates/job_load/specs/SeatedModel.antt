-- A thread of a graph's machine at the start.
use Rattle.std.specs.Prelude.{ℕ, List}
use Rattle.polite_switch.specs.SwitchModel.{SwitchModel}

-- the states of its vertices, which its memory begins with, and its softswitch
pub record SeatedModel : Type 0 where
  pub image : List ℕ
  pub switch : SwitchModel
