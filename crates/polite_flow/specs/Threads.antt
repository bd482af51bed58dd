-- Threads of a graph's job: of a tile that is not still a thread can make a step, or a packet stands on the tile.
use Rattle.std.specs.Prelude.{ℕ, ◌≡◌, ◌<◌, ◌⊎◌, true, false, List, [], bit_and}
use Rattle.tn_base.specs.Address.{tile_threads}
use Rattle.tn_slots.specs.Pool.{queue_at}
use Rattle.tn_thread.specs.declared.state.ThreadState.{ThreadState}
use Rattle.tn_thread.specs.declared.state.ThreadState.TheVariants as state
use Rattle.tn_thread.specs.Step.{runnable}
use Rattle.tn_tile.specs.Kept.{IsFit}
use Rattle.tn_tile.specs.Step.{sight_at, thread_at}
use Rattle.tn_tile.specs.Still.{is_still}
use Rattle.tn_tile.specs.declared.state.TileState.{TileState}
use Rattle.tn_tile.specs.TileView.{TileView}
use Rattle.polite_flow.specs.Able.{HasStep}
use Rattle.polite_flow.specs.Standing.{TileHas}

-- a thread in this state, with these letters in its queue, waits for room to send if it waits; has no letters if it is dead; and has not
-- trapped
abbrev pub GoesOn : ThreadState → List ℕ → Type 0
GoesOn state.Run queue = Unit {0}
GoesOn (state.Wait waits) queue = bit_and waits.0 1 ≡ 1
GoesOn (state.Idle vote) queue = Unit {0}
GoesOn (state.Answered value) queue = Unit {0}
GoesOn (state.Dead value) queue = queue ≡ []
GoesOn (state.Trapped why) queue = ⊥

-- the thread at a place of a tile goes on so, and it has steps left if it is runnable
pub record ThreadGoesOn (fuel k : ℕ) (s : TileState) : Type 0 where
  pub state : GoesOn (thread_at s k).state (queue_at s.pool k)
  pub left : runnable (sight_at s k) (thread_at s k).state ≡ true → (thread_at s k).steps < fuel

-- if each thread of a tile that is not still goes on so, the tile has a packet, or a thread of the tile can make a step
abbrev pub TilesMoveUnlessStill : Type 0
TilesMoveUnlessStill = (v : TileView) → IsFit v.plan v.now → ((k : ℕ) → k < tile_threads v.plan.shape → ThreadGoesOn v.plan.shape.fuel k v.now) → is_still v.now ≡ false → TileHas v.now ⊎ HasStep v
