use Rattle.std.proofs.Common.{arith, refl, sym}
use Rattle.tn_rows.specs.WorldView.{WorldView}
use Rattle.tn_world.proofs.Places.{At, final_turn, turns_keeps, turns_world}
use Rattle.tn_world.proofs.world.World.turn.Goals as goal

pub invariant_of-self : goal.invariant_of-self
invariant_of-self g c =
    let w : WorldView = record { shape = c.self.inside.shape; parts = c.self.inside.parts.items } in
    let at : At w c.in-Some.p.0 c.index_mut.result.now = record { within = omega (arith, c.if-at-len.false, c.len.ensures, c.self.inside.parts.ok); is = c.index_mut.ensures.value } in
    record {
      world = turns_keeps w c.args.t c.in-Some.p.0 c.index_mut.result.now c.turn.new.self c.turn.result.turned at c.turn.ensures.turn c.self.invariant.world;
      all = c.self.invariant.all;
    }

pub returns-clause-turn : goal.returns-clause-turn
returns-clause-turn g c =
    let w : WorldView = record { shape = c.self.inside.shape; parts = c.self.inside.parts.items } in
    let at : At w c.in-Some.p.0 c.index_mut.result.now = record { within = omega (arith, c.if-at-len.false, c.len.ensures, c.self.inside.parts.ok); is = c.index_mut.ensures.value } in
    rw (← c.self.view_is) (turns_world w c.args.t c.in-Some.p.0 c.index_mut.result.now c.turn.new.self c.turn.result.turned (rw (← c.self.view_is) at (sym c.in-Some.ensures)) at c.turn.ensures.turn)

pub returns-clause-ends : goal.returns-clause-ends
returns-clause-ends g c =
    let w : WorldView = record { shape = c.self.inside.shape; parts = c.self.inside.parts.items } in
    let at : At w c.in-Some.p.0 c.index_mut.result.now = record { within = omega (arith, c.if-at-len.false, c.len.ensures, c.self.inside.parts.ok); is = c.index_mut.ensures.value } in
    let told = final_turn w c.args.t c.in-Some.p.0 c.index_mut.result.now c.turn.new.self (rw (← c.self.view_is) at (sym c.in-Some.ensures)) at in
    rw (told, c.turn.ensures.ends) refl
