use Rattle.std.proofs.Common.{◌≡◌, take}
use Rattle.tn_slots.proofs.pool.copy_slots.Given as goal

abbrev pub invariant-loop-slot : goal.invariant-loop-slot
invariant-loop-slot l = l.all.items ≡ take l.slot-index l.slots.items
