use Rattle.std.proofs.Common.{◌≡◌, take}
use Rattle.tn_tile.proofs.threads.copy_threads.Given as goal

abbrev pub invariant-loop-t : goal.invariant-loop-t
invariant-loop-t l = l.all.items ≡ take l.t-index l.threads.items
