use Rattle.std.proofs.Common.{◌≡◌, ◌<◌, ◌∙◌, true, ap, cond}
use Rattle.tn_base.specs.Address.{tile_threads}
use Rattle.tn_base.specs.Mask.{with_bit}
use Rattle.tn_tile.specs.Rows.{is_here}
use Rattle.tn_tile.specs.Step.{can_step}
use Rattle.tn_tile.specs.TileView.{TileView}
use Rattle.tn_tile.proofs.Known.{turned_known}
use Rattle.tn_tile.proofs.Moved.{steps_fit}
use Rattle.tn_tile.proofs.Shaped.{has_place}
use Rattle.tn_tile.proofs.tile.Tile.turn_up_to.Goals as goal

pub can_go_on-can-requires-clause-place : goal.can_go_on-can-requires-clause-place
can_go_on-can-requires-clause-place c =
    let v : TileView = record { plan = c.self.inside.plan; now = c.self.inside.state } in
    let k = c.place-place.result in
    let here : is_here v.plan c.args.t.0 ≡ true = rw (← c.self.view_is) at c.requires.here in
    let below : k < tile_threads v.plan.shape = c.place-place.ensures.below here in
    has_place v.plan k c.turn-made.new.self below (steps_fit c.turn-made.result v.plan k v.now c.turn-made.new.self below c.turn-made.ensures.steps.steps c.self.invariant.shaped.fits)

pub invariant_of-self : goal.invariant_of-self
invariant_of-self c =
    let v : TileView = record { plan = c.self.inside.plan; now = c.self.inside.state } in
    let k = c.place-place.result in
    let here : is_here v.plan c.args.t.0 ≡ true = rw (← c.self.view_is) at c.requires.here in
    let below : k < tile_threads v.plan.shape = c.place-place.ensures.below here in
    turned_known v k c.turn-made.result c.self.inside.ready c.write_bit-self-inside.result c.self.inside.dead c.with_if-self-inside.result c.turn-made.new.self below c.self.invariant c.turn-made.ensures.steps.steps
    (c.write_bit-self-inside.ensures.written ∙ c.can_go_on-can.ensures ∙ ap (λ f. can_step f k c.turn-made.new.self) c.fuel-fuel.ensures.value) c.write_bit-self-inside.ensures.others
    (c.with_if-self-inside.ensures ∙ ap (λ b. cond b (with_bit c.self.inside.dead k) c.self.inside.dead) c.has_ended.ensures)

pub has_ended-requires : goal.has_ended-requires
has_ended-requires c =
    let v : TileView = record { plan = c.self.inside.plan; now = c.self.inside.state } in
    let k = c.place-place.result in
    let here : is_here v.plan c.args.t.0 ≡ true = rw (← c.self.view_is) at c.requires.here in
    let below : k < tile_threads v.plan.shape = c.place-place.ensures.below here in
    (has_place v.plan k c.turn-made.new.self below (steps_fit c.turn-made.result v.plan k v.now c.turn-made.new.self below c.turn-made.ensures.steps.steps c.self.invariant.shaped.fits)).thread

pub can_go_on-can-requires-clause-stops : goal.can_go_on-can-requires-clause-stops
can_go_on-can-requires-clause-stops c = λ early. ap (λ f. can_step f c.place-place.result c.turn-made.new.self) c.fuel-fuel.ensures.value ∙ c.turn-made.ensures.steps.stops early
