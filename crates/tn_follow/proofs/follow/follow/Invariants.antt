use Rattle.tn_follow.proofs.Following.{Following}
use Rattle.tn_follow.proofs.follow.follow.Given as goal

abbrev pub invariant-loop-event : goal.invariant-loop-event
invariant-loop-event g l = Following l.fn.start l.events l.origin l.number l.event-index l.at l.world l.all.items
