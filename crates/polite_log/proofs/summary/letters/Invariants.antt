use Rattle.std.specs.Prelude.{drop}
use Rattle.polite_log.proofs.Hands.{Counting}
use Rattle.polite_log.proofs.summary.letters.Given as goal

abbrev pub invariant-loop-event : goal.invariant-loop-event
invariant-loop-event g l = Counting l.start l.world l.history (drop l.event-index l.history) l.count
