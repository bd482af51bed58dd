use Rattle.std.proofs.Common.{length}
use Rattle.tn_crew.proofs.Laying.{Laying}
use Rattle.tn_crew.proofs.crew.laid_all.Given as goal

abbrev pub invariant-loop-part : goal.invariant-loop-part
invariant-loop-part l = Laying l.fn.shape l.fn.parts.items l.all.items l.parts.items

abbrev pub decreases-loop-part : goal.decreases-loop-part
decreases-loop-part l = length l.parts.items
