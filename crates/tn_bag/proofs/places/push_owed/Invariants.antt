use Rattle.std.proofs.Common.{◌≡◌, ◌++◌}
use Rattle.tn_base.specs.Address.{tile_threads}
use Rattle.tn_letters.specs.Standing.{owed_standing, owed_to}
use Rattle.tn_bag.proofs.Loops.{from_on}
use Rattle.tn_bag.proofs.places.push_owed.Given as goal

abbrev pub invariant-loop-place : goal.invariant-loop-place
invariant-loop-place l = l.all.items ++ from_on (owed_to l.tile l.slot) l.place (tile_threads l.tile.plan.shape) ≡ l.initial.all.items ++ owed_standing l.tile l.slot
