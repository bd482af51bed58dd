use Rattle.std.proofs.Common.{arith}
use Rattle.tn_tile.proofs.Moved.{steps_fit}
use Rattle.tn_tile.proofs.Shaped.{has_place}
use Rattle.tn_tile.proofs.Steps.{steps_join, steps_none}
use Rattle.tn_tile.proofs.state.TileState.turn.Goals as goal

pub loop-made-init : goal.loop-made-init
loop-made-init c = record { few = omega arith; steps = steps_none c.args.plan.now c.args.place c.args.self.now; pages = omega arith; fits = c.requires.fits; counts = omega arith }

pub can_step-requires : goal.can_step-requires
can_step-requires c = has_place c.args.plan.now c.args.place c.loop-made.self c.requires.there c.loop-made.invariant.fits

pub loop-made-preserved : goal.loop-made-preserved
loop-made-preserved c =
    let p = c.args.plan.now in
    let k = c.args.place in
    let more = c.advance-made.ensures.steps.count in
    let some = c.advance-made.ensures.steps.some in
    let few = c.advance-made.ensures.steps.few in
    record {
      few = omega arith;
      steps = steps_join c.loop-made.made c.advance-made.result p k c.args.self.now c.loop-made.self c.advance-made.new.self c.loop-made.invariant.steps c.advance-made.ensures.steps.steps;
      pages = let used = c.advance-made.ensures.stock in let had = c.loop-made.invariant.pages in omega arith;
      fits = steps_fit c.advance-made.result p k c.loop-made.self c.advance-made.new.self c.requires.there c.advance-made.ensures.steps.steps c.loop-made.invariant.fits;
      counts = omega arith;
    }
