use Rattle.tn_base.specs.Address.{tile_threads}
use Rattle.tn_tile.specs.Step.{can_step}
use Rattle.tn_tile.specs.TileView.{TileView}
use Rattle.tn_tile.proofs.Elsewhere.{past_last}
use Rattle.tn_tile.proofs.Marked.{first_by}
use Rattle.tn_tile.proofs.tile.Tile.next_ready.Goals as goal

pub returns : goal.returns
returns c =
    let v : TileView = record { plan = c.self.inside.plan; now = c.self.inside.state } in
    let w = c.self.invariant in
    rw (← c.self.view_is) (
    first_by (λ k. can_step v.plan.shape.fuel k v.now) c.self.inside.ready c.args.from (tile_threads v.plan.shape) c.first_bit.result w.ready w.few
    (λ k h. past_last v.plan.shape.fuel k v.now (rw w.shaped.fits.threads.count h)) c.first_bit.ensures
    )
