use Rattle.std.proofs.Common.{◌≡◌, ◌≤◌, take}
use Rattle.std.specs.VecDeque.{deque_capacity}
use Rattle.tn_link.proofs.plain.copy_ring.Given as goal

abbrev pub invariant-loop-i : goal.invariant-loop-i
invariant-loop-i l = (l.all.items ≡ take l.i l.packets.items) × (l.room ≤ deque_capacity l.all)
