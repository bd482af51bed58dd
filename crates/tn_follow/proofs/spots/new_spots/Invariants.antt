use Rattle.std.proofs.Common.{◌≡◌, ◌++◌, drop}
use Rattle.tn_follow.specs.Follow.{new_spots}
use Rattle.tn_follow.proofs.spots.new_spots.Given as goal

abbrev pub invariant-loop-spot : goal.invariant-loop-spot
invariant-loop-spot l = l.all.items ++ new_spots (drop l.spot-index l.spots) l.left.items ≡ new_spots l.spots l.fn.old.items
