use Rattle.std.proofs.Common.{arith, sym}
use Rattle.tn_base.specs.declared.event.Event.TheVariants as event
use Rattle.tn_tile.specs.Turns.{moved}
use Rattle.tn_rows.specs.WorldView.{WorldView}
use Rattle.tn_world.proofs.Places.{At, does_keeps, does_world, one_place}
use Rattle.tn_world.proofs.world.World.deliver.Goals as goal

pub invariant_of-self : goal.invariant_of-self
invariant_of-self g c =
    let w : WorldView = record { shape = c.self.inside.shape; parts = c.self.inside.parts.items } in
    let at : At w c.in-Some.p.0 c.index_mut.result.now = record { within = omega (arith, c.if-at-len.false, c.len.ensures, c.self.inside.parts.ok); is = c.index_mut.ensures.value } in
    record {
      world = does_keeps w (event.Deliver c.args.t) c.in-Some.p.0 c.index_mut.result.now c.deliver.new.self (moved c.deliver.result) at c.deliver.ensures c.self.invariant.world;
      all = c.self.invariant.all;
    }

pub returns : goal.returns
returns g c =
    let w : WorldView = record { shape = c.self.inside.shape; parts = c.self.inside.parts.items } in
    let at : At w c.in-Some.p.0 c.index_mut.result.now = record { within = omega (arith, c.if-at-len.false, c.len.ensures, c.self.inside.parts.ok); is = c.index_mut.ensures.value } in
    rw (← c.self.view_is) (does_world w (event.Deliver c.args.t) c.in-Some.p.0 c.index_mut.result.now c.deliver.new.self (moved c.deliver.result) (one_place w.shape c.args.t c.in-Some.p.0 (rw (← c.self.view_is) at (sym c.in-Some.ensures))) at c.deliver.ensures)
