use Rattle.std.proofs.Common.{◌≤◌, arith, length}
use Rattle.tn_tile.specs.Kept.{IsFit}
use Rattle.tn_tile.specs.Ready.{LooksAt}
use Rattle.tn_tile.specs.Step.{can_step}
use Rattle.tn_tile.specs.TileView.{TileView}
use Rattle.tn_tile.proofs.Known.{accepted_drops, accepted_fits, accepted_known, has_places}
use Rattle.tn_tile.proofs.tile.Tile.accept.Goals as goal

pub look_at-self-inside-requires : goal.look_at-self-inside-requires
look_at-self-inside-requires c =
    let v : TileView = record { plan = c.self.inside.plan; now = c.self.inside.state } in
    let new = c.accept-woken.new.self in
    let fits : IsFit v.plan new = accepted_fits v.plan c.args.p.now v.now new c.accept-woken.ensures.row c.self.invariant.shaped.fits in
    has_places v.plan c.accept-woken.result v.now new c.self.invariant.shaped.fits fits c.accept-woken.ensures.woken

pub overflow_sub-result : goal.overflow_sub-result
overflow_sub-result c =
    let v : TileView = record { plan = c.self.inside.plan; now = c.self.inside.state } in
    let few : length v.now.threads ≤ 64 = rw c.self.invariant.shaped.fits.threads.count c.self.invariant.few in
    (accepted_drops v.plan c.args.p.now v.now c.accept-woken.new.self few c.accept-woken.ensures.row).more

pub overflow_cast-result : goal.overflow_cast-result
overflow_cast-result c =
    let v : TileView = record { plan = c.self.inside.plan; now = c.self.inside.state } in
    let few : length v.now.threads ≤ 64 = rw c.self.invariant.shaped.fits.threads.count c.self.invariant.few in
    let drops = accepted_drops v.plan c.args.p.now v.now c.accept-woken.new.self few c.accept-woken.ensures.row in
    let more = drops.more in
    let most = drops.few in
    omega arith

pub invariant_of-self : goal.invariant_of-self
invariant_of-self c =
    let v : TileView = record { plan = c.self.inside.plan; now = c.self.inside.state } in
    let new = c.accept-woken.new.self in
    let looks : LooksAt c.self.inside.ready c.look_at-self-inside.result c.accept-woken.result (λ j. can_step v.plan.shape.fuel j new) = rw c.fuel.ensures.value at c.look_at-self-inside.ensures in
    accepted_known v c.args.p.now c.self.inside.ready c.look_at-self-inside.result c.self.inside.dead c.accept-woken.result new c.self.invariant c.accept-woken.ensures.row c.accept-woken.ensures.woken looks
