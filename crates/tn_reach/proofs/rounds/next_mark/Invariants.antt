use Rattle.std.proofs.Common.{◌≡◌, ◌≤◌, ◌*◌, ◌+◌, ◌^◌, take}
use Rattle.std.specs.List.{sum_by}
use Rattle.tn_keys.specs.Copies.{onward}
use Rattle.tn_reach.specs.Marks.{marks_beyond, own_of}
use Rattle.tn_reach.proofs.rounds.next_mark.Given as goal

abbrev pub invariant-loop-route : goal.invariant-loop-route
invariant-loop-route l = record {
  so_far : l.sum ≡ sum_by (λ r. own_of l.measure r + marks_beyond l.shape l.marks (onward l.shape l.board r)) (take l.route-index l.beat);
  small : l.sum ≤ l.route-index * 2 ^ 34;
}
