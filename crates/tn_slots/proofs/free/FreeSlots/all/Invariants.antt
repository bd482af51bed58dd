use Rattle.std.proofs.Common.{◌≡◌, ◌++◌, ◌-◌, true, false, replicate}
use Rattle.tn_slots.proofs.free.FreeSlots.all.Given as goal

abbrev pub invariant-loop-s : goal.invariant-loop-s
invariant-loop-s l = l.free ≡ replicate l.s true ++ replicate (l.count - l.s) false
