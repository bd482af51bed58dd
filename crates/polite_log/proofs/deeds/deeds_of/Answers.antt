use Rattle.std.proofs.Common.{drop, subst, sym}
use Rattle.std.specs.Prelude.{reverse}
use Rattle.polite_log.proofs.Replaying.{SoFar, so_far_all, so_far_next, so_far_none, so_far_tells}
use Rattle.polite_log.proofs.deeds.deeds_of.Goals as goal

pub loop-event-init : goal.loop-event-init
loop-event-init g c =
    subst (λ xs. SoFar c.args.start.now c.in_ok-world.world c.args.history.now c.args.history.now (reverse xs)) (sym c.new-deeds.ensures.items)
    (so_far_none c.args.start.now c.in_ok-world.world c.args.history.now c.requires.start c.requires.run c.in_ok-world.ensures)

pub push_event-requires-clause-tells : goal.push_event-requires-clause-tells
push_event-requires-clause-tells g c =
    so_far_tells c.args.start.now c.loop-event.world c.args.history.now (drop c.loop-event.event-index c.args.history.now) (reverse c.loop-event.deeds.items) c.loop-event.invariant

pub loop-event-preserved : goal.loop-event-preserved
loop-event-preserved g c =
    so_far_next c.args.start.now c.loop-event.world c.push_event.new.world c.args.history.now c.loop-event.event-index _ (reverse c.loop-event.deeds.items) (reverse c.push_event.new.deeds.items)
    c.loop-event.invariant c.loop-event-test.true c.in_ok-push_event.ensures.made c.in_ok-push_event.ensures.deeds

pub returns : goal.returns
returns g c =
    so_far_all c.args.start.now c.loop-event.world c.args.history.now c.loop-event.event-index (reverse c.loop-event.deeds.items) c.loop-event.invariant c.loop-event-test.false c.requires.start c.requires.run c.law_tiles.ensures
