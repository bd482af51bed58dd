use Rattle.std.proofs.Common.{◌≡◌, take}
use Rattle.tn_follow.specs.Follow.{spots_in}
use Rattle.tn_follow.proofs.spots.spots_in.Given as goal

abbrev pub invariant-loop-place : goal.invariant-loop-place
invariant-loop-place l = l.spots.items ≡ spots_in l.origin l.number (take l.place-index l.all)
