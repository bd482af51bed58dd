use Rattle.tn_check.proofs.Runs.{SoFar}
use Rattle.tn_check.proofs.check.check.Given as goal

abbrev pub invariant-loop-event : goal.invariant-loop-event
invariant-loop-event g l = SoFar l.fn.start l.events l.event-index l.at l.ended l.world
