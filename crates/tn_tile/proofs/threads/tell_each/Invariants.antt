use Rattle.std.proofs.Common.{◌≡◌, ◌++◌, map, take, drop}
use Rattle.tn_tile.specs.Rows.{told}
use Rattle.tn_tile.proofs.threads.tell_each.Given as goal

abbrev pub invariant-loop-k : goal.invariant-loop-k
invariant-loop-k l = l.threads.items ≡ map (told l.value) (take l.k l.fn.threads.items) ++ drop l.k l.fn.threads.items
