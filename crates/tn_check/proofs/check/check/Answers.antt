use Rattle.std.proofs.Common.{inl, inr, ◌∙◌, ap, is_some}
use Rattle.std.specs.declared.option.Option.{Option}
use Rattle.tn_base.specs.declared.event.Event.TheVariants as event
use Rattle.tn_base.specs.declared.event.Outcome.{Outcome}
use Rattle.tn_check.proofs.Runs.{fault_at, one_more}
use Rattle.tn_check.proofs.check.check.Goals as goal

pub returns-then-ended : goal.returns-then-ended
returns-then-ended g c = fault_at c.args.start c.loop-event.world c.args.events.now c.loop-event.event-index c.loop-event.at event.Begin c.loop-event.ended c.loop-event.invariant c.loop-event-test.true (inr c.if-ended.true)

pub returns-in-Nothing : goal.returns-in-Nothing
returns-in-Nothing g c =
    fault_at c.args.start c.loop-event.world c.args.events.now c.loop-event.event-index c.loop-event.at _ c.loop-event.ended c.loop-event.invariant c.loop-event-test.true
    (inl (rw c.in-Nothing.is at c.in_ok-redo.ensures))

pub loop-event-preserved : goal.loop-event-preserved
loop-event-preserved g c =
    one_more c.args.start c.loop-event.world c.redo.new.world c.args.events.now c.loop-event.event-index c.loop-event.at _ c.loop-event.ended c.is_some-ended.result c.loop-event.invariant c.if-ended.false c.loop-event-test.true
    (rw c.in-Moved.is at c.in_ok-redo.ensures)
    (c.is_some-ended.ensures ∙ ap (λ (o : Option Outcome). is_some o) c.final_of.ensures)
