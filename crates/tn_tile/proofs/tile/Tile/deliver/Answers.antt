use Rattle.std.proofs.Common.{◌≡◌, ◌<◌, true, arith, refl}
use Rattle.tn_base.specs.Address.{tile_threads}
use Rattle.tn_tile.specs.Kept.{IsFit}
use Rattle.tn_tile.specs.Ready.{LooksAt}
use Rattle.tn_tile.specs.Rows.{is_here}
use Rattle.tn_tile.specs.Step.{can_step, pending_at}
use Rattle.tn_tile.specs.TileView.{TileView}
use Rattle.tn_tile.proofs.Known.{delivered_known, named_places}
use Rattle.tn_tile.proofs.Packets.{delivered_fits}
use Rattle.tn_tile.proofs.tile.Tile.deliver.Goals as goal

pub look_at-self-inside-requires : goal.look_at-self-inside-requires
look_at-self-inside-requires c =
    let v : TileView = record { plan = c.self.inside.plan; now = c.self.inside.state } in
    let k = c.place-place.result in
    let here : is_here v.plan c.args.t.0 ≡ true = rw (← c.self.view_is) at c.requires in
    let below : k < tile_threads v.plan.shape = c.place-place.ensures.below here in
    let few = c.self.invariant.few in
    let fits : IsFit v.plan c.deliver.new.self = delivered_fits v.plan k (pending_at v.now k) v.now c.deliver.new.self refl c.in-Some.ensures.0 c.self.invariant.shaped.fits in
    named_places v.plan c.with.result c.in-Some.woken k v.now c.deliver.new.self below (omega arith) c.with.ensures c.self.invariant.shaped.fits fits c.in-Some.ensures.1

pub invariant_of-self-2 : goal.invariant_of-self-2
invariant_of-self-2 c =
    let v : TileView = record { plan = c.self.inside.plan; now = c.self.inside.state } in
    let k = c.place-place.result in
    let here : is_here v.plan c.args.t.0 ≡ true = rw (← c.self.view_is) at c.requires in
    let below : k < tile_threads v.plan.shape = c.place-place.ensures.below here in
    let few = c.self.invariant.few in
    let looks : LooksAt c.self.inside.ready c.look_at-self-inside.result c.with.result (λ j. can_step v.plan.shape.fuel j c.deliver.new.self) = rw c.fuel.ensures.value at c.look_at-self-inside.ensures in
    delivered_known v k c.self.inside.ready c.look_at-self-inside.result c.self.inside.dead c.in-Some.woken c.with.result c.deliver.new.self below (omega arith) c.self.invariant c.in-Some.ensures.0 c.in-Some.ensures.1 c.with.ensures looks
