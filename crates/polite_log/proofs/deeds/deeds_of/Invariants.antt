use Rattle.std.specs.Prelude.{drop, reverse}
use Rattle.polite_log.proofs.Replaying.{SoFar}
use Rattle.polite_log.proofs.deeds.deeds_of.Given as goal

abbrev pub invariant-loop-event : goal.invariant-loop-event
invariant-loop-event g l = SoFar l.start l.world l.history (drop l.event-index l.history) (reverse l.deeds.items)
