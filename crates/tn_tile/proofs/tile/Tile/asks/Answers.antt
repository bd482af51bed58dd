use Rattle.std.proofs.Common.{◌≡◌, ◌<◌, ◌∙◌, true}
use Rattle.tn_base.specs.Address.{tile_threads}
use Rattle.tn_tile.specs.Rows.{is_here}
use Rattle.tn_tile.specs.Step.{can_step, thread_at}
use Rattle.tn_tile.specs.TileView.{TileView}
use Rattle.tn_tile.proofs.Made.{can_run}
use Rattle.tn_tile.proofs.tile.Tile.asks.Goals as goal

pub advance-ask-requires-clause-fuel : goal.advance-ask-requires-clause-fuel
advance-ask-requires-clause-fuel c =
    let v : TileView = record { plan = c.self.inside.plan; now = c.self.inside.state } in
    let k = c.place-place.result in
    let here : is_here v.plan c.args.t.0 ≡ true = rw (← c.self.view_is) at c.requires.here in
    let below : k < tile_threads v.plan.shape = c.place-place.ensures.below here in
    let can : can_step v.plan.shape.fuel k v.now ≡ true = rw (c.place-place.ensures.value) (rw (← c.self.view_is) at c.requires.can) in
    let same : c.in_ok-thread.thread ≡ thread_at v.now k = c.in_ok-thread.ensures ∙ c.get.ensures in
    rw same (can_run v.plan k v.now below c.self.invariant.shaped.fits can).fuel

pub advance-ask-requires-clause-runnable : goal.advance-ask-requires-clause-runnable
advance-ask-requires-clause-runnable c =
    let v : TileView = record { plan = c.self.inside.plan; now = c.self.inside.state } in
    let k = c.place-place.result in
    let here : is_here v.plan c.args.t.0 ≡ true = rw (← c.self.view_is) at c.requires.here in
    let below : k < tile_threads v.plan.shape = c.place-place.ensures.below here in
    let can : can_step v.plan.shape.fuel k v.now ≡ true = rw (c.place-place.ensures.value) (rw (← c.self.view_is) at c.requires.can) in
    let same : c.in_ok-thread.thread ≡ thread_at v.now k = c.in_ok-thread.ensures ∙ c.get.ensures in
    rw (same, c.is_free.ensures) (can_run v.plan k v.now below c.self.invariant.shaped.fits can).runs
