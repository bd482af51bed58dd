use Rattle.std.proofs.Common.{◌∙◌, ap}
use Rattle.tn_follow.proofs.Ending.{received_more}
use Rattle.tn_follow.specs.Follow.{letter_dropped}
use Rattle.tn_follow.proofs.ends.receivers_dropped.Goals as goal

pub loop-step-preserved : goal.loop-step-preserved
loop-step-preserved c =
    received_more letter_dropped c.args.origin c.args.number c.args.steps.now c.loop-step.step-index _ _ c.loop-step.all.items c.push_receiver.new.all.items c.loop-step.invariant c.loop-step-test.true
    (c.letter_dropped.ensures ∙ ap letter_dropped c.step-item.is) c.in_ok-push_receiver.ensures
