use Rattle.std.proofs.Common.{length}
use Rattle.tn_trace.proofs.Said.{StillSaid}
use Rattle.tn_trace.proofs.parting.line_of.Given as goal

abbrev pub invariant-loop-line : goal.invariant-loop-line
invariant-loop-line l = StillSaid l.text l.rest l.first l.number l.others l.left

abbrev pub decreases-loop-line : goal.decreases-loop-line
decreases-loop-line l = length l.rest
