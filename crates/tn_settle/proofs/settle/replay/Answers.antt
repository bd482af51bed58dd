use Rattle.std.proofs.Common.{◌+◌, ◌∙◌, ap, is_some}
use Rattle.std.specs.declared.option.Option.{Option}
use Rattle.tn_base.specs.declared.event.Outcome.{Outcome}
use Rattle.tn_settle.proofs.Replaying.{cut_here, goes_on, stepped}
use Rattle.tn_settle.proofs.settle.replay.Goals as goal

pub returns-then-is_some : goal.returns-then-is_some
returns-then-is_some g c =
    cut_here c.args.world.now c.redo.new.world c.args.events.now (c.loop-event.event-index + 1) (c.loop-event.made + 1) c.is_some.result
    (stepped c.args.world.now c.loop-event.world c.redo.new.world c.args.events.now c.loop-event.event-index c.loop-event.made _ c.in_ok-_did._did c.is_some.result
    c.loop-event.invariant c.loop-event-test.true c.in_ok-_did.ensures (c.is_some.ensures ∙ ap (λ (o : Option Outcome). is_some o) c.final_of.ensures))
    c.if-is_some.true

pub loop-event-preserved : goal.loop-event-preserved
loop-event-preserved g c =
    goes_on c.args.world.now c.redo.new.world c.args.events.now (c.loop-event.event-index + 1) (c.loop-event.made + 1) c.is_some.result
    (stepped c.args.world.now c.loop-event.world c.redo.new.world c.args.events.now c.loop-event.event-index c.loop-event.made _ c.in_ok-_did._did c.is_some.result
    c.loop-event.invariant c.loop-event-test.true c.in_ok-_did.ensures (c.is_some.ensures ∙ ap (λ (o : Option Outcome). is_some o) c.final_of.ensures))
    c.if-is_some.false
