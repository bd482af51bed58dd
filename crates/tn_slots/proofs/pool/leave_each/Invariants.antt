use Rattle.std.proofs.Common.{length, ◌≡◌, ◌++◌, map, take, drop}
use Rattle.tn_slots.specs.Slot.{is_free, left_slot}
use Rattle.tn_slots.proofs.pool.leave_each.Given as goal

abbrev pub invariant-loop-i : goal.invariant-loop-i
invariant-loop-i l = record { slots : l.slots.items ≡ map (left_slot l.t) (take l.i l.fn.slots.items) ++ drop l.i l.fn.slots.items; long : length l.slots.items ≡ length l.fn.slots.items; free : l.free ≡ map is_free l.slots.items }
