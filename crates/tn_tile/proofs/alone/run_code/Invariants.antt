use Rattle.std.proofs.Common.{◌≤◌, ◌-◌, ◌+◌}
use Rattle.tn_tile.proofs.Runs.{Further}
use Rattle.tn_tile.proofs.alone.run_code.Given as goal

abbrev pub invariant-loop-made : goal.invariant-loop-made
invariant-loop-made g l = (l.made ≤ l.most) × (l.fn.stock ≤ l.stock + l.made) × Further l.made l.code (g.V.View.sight l.sight) l.fn.thread l.thread l.pc

abbrev pub decreases-loop-made : goal.decreases-loop-made
decreases-loop-made g l = l.most - l.made
