use Rattle.std.proofs.Common.{◌≤◌, ◌-◌, length}
use Rattle.tn_world.proofs.Calm.{Calm}
use Rattle.tn_world.proofs.play.play.Given as goal

abbrev pub invariant-loop-world : goal.invariant-loop-world
invariant-loop-world g l = Calm l.fn.world l.history.items l.world × (length l.history.items ≤ l.limit)

abbrev pub decreases-loop-world : goal.decreases-loop-world
decreases-loop-world g l = l.limit - length l.history.items
