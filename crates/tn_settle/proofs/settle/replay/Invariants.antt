use Rattle.tn_settle.proofs.Replaying.{Replayed}
use Rattle.tn_settle.proofs.settle.replay.Given as goal

abbrev pub invariant-loop-event : goal.invariant-loop-event
invariant-loop-event g l = Replayed l.fn.world l.events l.event-index l.made l.world
