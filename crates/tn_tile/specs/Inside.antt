-- What holds inside of every tile.
use Rattle.std.specs.Prelude.{ℕ, ◌≡◌, ◌≤◌}
use Rattle.tn_base.specs.Address.{tile_threads}
use Rattle.tn_tile.specs.Kept.{WellShaped}
use Rattle.tn_tile.specs.Ready.{Marks}
use Rattle.tn_tile.specs.Receivers.{dead_in}
use Rattle.tn_tile.specs.Step.{can_step}
use Rattle.tn_tile.specs.TileView.{TileView}

-- one word says which threads can make a step, the other which threads ended
pub record KnowsReady (v : TileView) (word ended : ℕ) : Type 0 where
  pub shaped : WellShaped v
  pub few : tile_threads v.plan.shape ≤ 64
  pub ready : Marks (λ k. can_step v.plan.shape.fuel k v.now) word
  pub dead : ended ≡ dead_in v.now.threads
