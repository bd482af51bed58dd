-- What the law on graph jobs asks of the tiles at the end of a walk.
use Rattle.std.specs.Prelude.{ℕ, ◌≡◌, ◌<◌, None}
use Rattle.tn_base.specs.Address.{tile_threads}
use Rattle.tn_rows.specs.PartView.{PartView, TileV, RouterV, LinkV, HostV, DetectorV, AbsentV}
use Rattle.tn_slots.specs.Pool.{first_free}
use Rattle.tn_thread.specs.declared.state.ThreadState.{ThreadState}
use Rattle.tn_thread.specs.declared.state.ThreadState.TheVariants as state
use Rattle.tn_tile.specs.Step.{thread_at}
use Rattle.tn_tile.specs.declared.state.TileState.{TileState}
use Rattle.tn_tile.specs.TileView.{TileView}
use Rattle.polite_flow.specs.Able.{HasStep}

-- a thread has not trapped
abbrev pub IsWhole : ThreadState → Type 0
IsWhole state.Run = Unit {0}
IsWhole (state.Wait waits) = Unit {0}
IsWhole (state.Idle vote) = Unit {0}
IsWhole (state.Answered value) = Unit {0}
IsWhole (state.Dead value) = Unit {0}
IsWhole (state.Trapped why) = ⊥

-- the thread at a place of a tile has not trapped, and has steps left
pub record HasFuel (fuel k : ℕ) (s : TileState) : Type 0 where
  pub whole : IsWhole (thread_at s k).state
  pub left : (thread_at s k).steps < fuel

-- each thread of a tile has not trapped and has steps left; and if no slot is free, a thread of the tile can make a step
pub record TileServes (v : TileView) : Type 0 where
  pub threads : (k : ℕ) → k < tile_threads v.plan.shape → HasFuel v.plan.shape.fuel k v.now
  pub served : first_free v.now.pool ≡ None → HasStep v

abbrev pub PartServes : PartView → Type 0
PartServes (TileV v) = TileServes v
PartServes (RouterV v) = Unit {0}
PartServes (LinkV v) = Unit {0}
PartServes (HostV s) = Unit {0}
PartServes (DetectorV v) = Unit {0}
PartServes AbsentV = Unit {0}
