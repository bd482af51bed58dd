use Rattle.std.proofs.Common.{◌≡◌, ◌++◌, length}
use Rattle.tn_letters.specs.Standing.{owed_standing, slots_standing}
use Rattle.tn_bag.proofs.Loops.{from_on}
use Rattle.tn_bag.proofs.places.push_slots.Given as goal

abbrev pub invariant-loop-slot : goal.invariant-loop-slot
invariant-loop-slot l = l.all.items ++ from_on (owed_standing l.tile) l.slot (length l.tile.now.pool.slots) ≡ l.initial.all.items ++ slots_standing l.tile
