use Rattle.tn_follow.proofs.Following.{goes_on}
use Rattle.tn_follow.proofs.follow.follow.Goals as goal

pub loop-event-preserved : goal.loop-event-preserved
loop-event-preserved g c =
    goes_on c.args.start c.loop-event.world c.follow_event.new.world c.args.events.now c.args.origin c.args.number c.loop-event.event-index c.loop-event.at c.loop-event.all.items c.follow_event.new.all.items _
    c.loop-event.invariant c.loop-event-test.true c.in_ok-follow_event.ensures.made c.in_ok-follow_event.ensures.told
