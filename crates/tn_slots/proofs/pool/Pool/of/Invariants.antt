use Rattle.std.proofs.Common.{◌≡◌, replicate}
use Rattle.tn_slots.specs.Slot.{fresh_slot}
use Rattle.tn_slots.proofs.pool.Pool.of.Given as goal

abbrev pub invariant-loop-i : goal.invariant-loop-i
invariant-loop-i l = l.all.items ≡ replicate l._i fresh_slot
