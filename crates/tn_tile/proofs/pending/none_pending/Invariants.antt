use Rattle.std.proofs.Common.{◌≡◌, replicate, None}
use Rattle.tn_tile.proofs.pending.none_pending.Given as goal

abbrev pub invariant-loop-k : goal.invariant-loop-k
invariant-loop-k l = l.all.items ≡ replicate l._k None
