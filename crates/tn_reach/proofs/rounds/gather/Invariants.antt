use Rattle.tn_reach.specs.Marks.{Marked}
use Rattle.tn_reach.proofs.rounds.gather.Given as goal

abbrev pub invariant-loop-round : goal.invariant-loop-round
invariant-loop-round l = Marked l.measure l._round l.shape l.tables l.marks.items
