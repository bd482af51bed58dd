use Rattle.std.proofs.Common.{arith, sym}
use Rattle.tn_rows.specs.WorldView.{WorldView}
use Rattle.tn_world.proofs.Places.{At, up_to_keeps, up_to_world}
use Rattle.tn_world.proofs.world.World.turn_up_to.Goals as goal

pub invariant_of-self : goal.invariant_of-self
invariant_of-self g c =
    let w : WorldView = record { shape = c.self.inside.shape; parts = c.self.inside.parts.items } in
    let at : At w c.in-Some.p.0 c.index_mut.result.now = record { within = omega (arith, c.if-at-len.false, c.len.ensures, c.self.inside.parts.ok); is = c.index_mut.ensures.value } in
    record {
      world = up_to_keeps w c.args.t c.args.n c.in-Some.p.0 c.index_mut.result.now c.turn_up_to.new.self c.turn_up_to.result at c.turn_up_to.ensures c.self.invariant.world;
      all = c.self.invariant.all;
    }

pub returns : goal.returns
returns g c =
    let w : WorldView = record { shape = c.self.inside.shape; parts = c.self.inside.parts.items } in
    let at : At w c.in-Some.p.0 c.index_mut.result.now = record { within = omega (arith, c.if-at-len.false, c.len.ensures, c.self.inside.parts.ok); is = c.index_mut.ensures.value } in
    rw (← c.self.view_is) (up_to_world w c.args.t c.args.n c.in-Some.p.0 c.index_mut.result.now c.turn_up_to.new.self c.turn_up_to.result (rw (← c.self.view_is) at (sym c.in-Some.ensures)) at c.turn_up_to.ensures)
