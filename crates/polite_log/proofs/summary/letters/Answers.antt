use Rattle.polite_log.proofs.Hands.{counting_next}
use Rattle.polite_log.proofs.summary.letters.Goals as goal

pub loop-event-preserved : goal.loop-event-preserved
loop-event-preserved g c =
    counting_next c.args.start.now c.loop-event.world c.make_and_count.new.world c.args.history.now c.loop-event.event-index _ c.loop-event.count c.in_ok-hands.hands c.in_ok-count.count
    c.loop-event.invariant c.loop-event-test.true c.in_ok-hands.ensures.made c.in_ok-hands.ensures.hands c.in_ok-count.ensures
