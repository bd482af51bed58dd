use Rattle.std.proofs.Common.{◌≡◌, take}
use Rattle.tn_world.proofs.world.same_parts.Given as goal

abbrev pub invariant-loop-i : goal.invariant-loop-i
invariant-loop-i g l = take l.i l.a.items ≡ take l.i l.b.items
