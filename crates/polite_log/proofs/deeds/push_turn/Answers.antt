use Rattle.std.specs.Prelude.{reverse}
use Rattle.polite_log.proofs.Making.{turn_can, turn_done, turn_goes}
use Rattle.polite_log.proofs.deeds.push_turn.Goals as goal

pub push_step-requires : goal.push_step-requires
push_step-requires g c =
    turn_can c.args.t c.args.n c.loop-made._made c.args.world.now c.loop-made.world (reverse c.args.deeds.now.items) (reverse c.loop-made.deeds.items) c.loop-made.invariant c.loop-made-test.true

pub loop-made-preserved : goal.loop-made-preserved
loop-made-preserved g c =
    turn_goes c.args.t c.args.n c.loop-made._made c.args.world.now c.loop-made.world c.push_step.new.world (reverse c.args.deeds.now.items) (reverse c.loop-made.deeds.items) (reverse c.push_step.new.deeds.items)
    c.loop-made.invariant c.loop-made-test.true c.in_ok-push_step.ensures.made c.in_ok-push_step.ensures.deeds

pub returns-clause-deeds : goal.returns-clause-deeds
returns-clause-deeds g c =
    (turn_done c.args.t c.args.n c.loop-made._made c.args.world.now c.loop-made.world (reverse c.args.deeds.now.items) (reverse c.loop-made.deeds.items) c.loop-made.invariant c.loop-made-test.false).1
