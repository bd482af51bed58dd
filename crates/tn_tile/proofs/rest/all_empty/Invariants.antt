use Rattle.std.proofs.Common.{◌≡◌, take, true}
use Rattle.std.specs.List.{list_all}
use Rattle.tn_tile.specs.Still.{is_nil}
use Rattle.tn_tile.proofs.rest.all_empty.Given as goal

abbrev pub invariant-loop-t : goal.invariant-loop-t
invariant-loop-t l = list_all is_nil (take l.t l.pool.queues) ≡ true
