use Rattle.tn_follow.proofs.Taking.{Passed}
use Rattle.tn_follow.proofs.spots.take_out.Given as goal

abbrev pub invariant-loop-place : goal.invariant-loop-place
invariant-loop-place l = Passed l.spot l.place l.spots.items l.initial.spots.items
