-- One step of the thread at a place, as the code makes it.
use Rattle.std.proofs.Common.{ℕ, ◌≡◌, ◌<◌, ◌≤◌, true, length, arith}
use Rattle.std.proofs.lemmas.Bool.{and_parts, ltb-true}
use Rattle.tn_base.specs.Address.{in_tile, tile_threads}
use Rattle.tn_slots.specs.PoolModel.{PoolModel}
use Rattle.tn_slots.specs.Pool.{queue_at}
use Rattle.tn_slots.specs.WellKept.{WellKept}
use Rattle.tn_slots.proofs.Kept.{queue_short}
use Rattle.tn_thread.specs.Step.{runnable}
use Rattle.tn_tile.specs.Kept.{IsFit}
use Rattle.tn_tile.specs.Step.{can_step, sight_at, thread_at}
use Rattle.tn_tile.specs.TileView.{TilePlan, TileState}

-- what a step needs of its thread
pub record CanRun (plan : TilePlan) (k : ℕ) (s : TileState) : Type 0 where
  pub runs : runnable (sight_at s k) (thread_at s k).state ≡ true
  pub fuel : (thread_at s k).steps < (thread_at s k).shape.fuel
  pub id : (thread_at s k).id ≡ record { 0 = in_tile plan.shape plan.tile k }

pub can_run : (plan : TilePlan) (k : ℕ) (s : TileState) → k < tile_threads plan.shape → IsFit plan s → can_step plan.shape.fuel k s ≡ true → CanRun plan k s
can_run plan k s h w can =
    let parts = and_parts (runnable (sight_at s k) (thread_at s k).state) _ can in
    let is = w.threads.each k h in
    let few : (thread_at s k).steps < plan.shape.fuel = ltb-true _ _ parts.1 in
    record { runs = parts.0; fuel = rw is.shape few; id = is.id }

-- a queue has at most as many letters as a pool has slots
pub few_letters : (p : PoolModel) (k : ℕ) → WellKept p → k < length p.queues → length (queue_at p k) ≤ 512
few_letters p k w h = let short = queue_short p w k h in let few = w.few_slots in omega arith
