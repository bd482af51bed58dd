use Rattle.std.proofs.Common.{◌≡◌, ◌≤◌, ◌*◌, take}
use Rattle.std.specs.List.{sum_by}
use Rattle.tn_reach.specs.Marks.{last_of}
use Rattle.tn_reach.proofs.rounds.first_mark.Given as goal

abbrev pub invariant-loop-route : goal.invariant-loop-route
invariant-loop-route l = record {
  so_far : l.sum ≡ sum_by (last_of l.measure) (take l.route-index l.beat);
  small : l.sum ≤ l.route-index * 64;
}
