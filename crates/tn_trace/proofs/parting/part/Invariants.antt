use Rattle.std.proofs.Common.{length}
use Rattle.tn_trace.proofs.Parted.{Passed}
use Rattle.tn_trace.proofs.parting.part.Given as goal

abbrev pub invariant-loop-line : goal.invariant-loop-line
invariant-loop-line l = Passed l.text l.rest l.number

abbrev pub decreases-loop-line : goal.decreases-loop-line
decreases-loop-line l = length l.rest
