use Rattle.std.proofs.Common.{◌≡◌, ◌++◌}
use Rattle.tn_base.specs.Parts.{part_count}
use Rattle.tn_letters.specs.Standing.{standing, standing_on}
use Rattle.tn_bag.proofs.Loops.{from_on}
use Rattle.tn_bag.proofs.places.standing.Given as goal

abbrev pub invariant-loop-p : goal.invariant-loop-p
invariant-loop-p g l = l.all.items ++ from_on (standing_on l.world) l.p (part_count l.world.shape) ≡ standing l.world
