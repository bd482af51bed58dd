-- What a tile is: a plan, which no event changes, and a state. The state is that of the code: lists of threads, of
-- senders and of pending packets, the pool, the node, a count and the first trap.
use Rattle.std.specs.Prelude.{ℕ, List, Option, option_map}
use Rattle.rv_isa.specs.declared.instr.Instr.{Instr}
use Rattle.tn_base.specs.declared.shape.ShapeNumbers.{ShapeNumbers}
pub use Rattle.tn_tile.specs.declared.state.TileState.{TileState}

-- what no event changes
pub record TilePlan : Type 0 where
  -- the machine, and the tile's address in it
  pub shape : ShapeNumbers
  pub tile : ℕ
  -- for each word of the code the instruction that it is, if it is an instruction
  pub code : List (Option Instr)

pub record TileView : Type 0 where
  pub plan : TilePlan
  pub now : TileState

-- a tile in another state, and in another state if there is such a state
abbrev pub with_now : TileView → TileState → TileView
with_now v s = record v { now = s }

abbrev pub now_by : TileView → Option TileState → Option TileView
now_by v o = option_map (with_now v) o
