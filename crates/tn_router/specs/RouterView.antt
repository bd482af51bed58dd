use Rattle.std.specs.Prelude.{Option, option_map}
use Rattle.tn_base.specs.declared.ids.Board.{Board}
use Rattle.tn_base.specs.declared.shape.ShapeNumbers.{ShapeNumbers}
use Rattle.tn_keys.specs.Tables.{Table}
use Rattle.tn_router.specs.declared.state.RouterState.{RouterState}

-- what no event changes
pub record RouterPlan : Type 0 where
  -- the machine, and the router's board in it
  pub shape : ShapeNumbers
  pub board : Board
  -- the beats of the board's table
  pub beats : Table

pub record RouterView : Type 0 where
  pub plan : RouterPlan
  -- the packets in process by the side they came from, those that wait for a way out, and the first bad key
  pub now : RouterState

-- a router in another state, and in another state if there is such a state
abbrev pub with_now : RouterView → RouterState → RouterView
with_now v s = record v { now = s }

abbrev pub now_by : RouterView → Option RouterState → Option RouterView
now_by v o = option_map (with_now v) o
