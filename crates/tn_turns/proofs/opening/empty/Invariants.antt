use Rattle.std.proofs.Common.{◌≡◌, ◌+◌, ◌++◌, length, Some, map, reverse}
use Rattle.std.specs.Vec.{vec_capacity}
use Rattle.tn_turns.proofs.opening.empty.Given as goal

abbrev pub invariant-loop-slot : goal.invariant-loop-slot
invariant-loop-slot g l = record {
  moved : l.slots.items ++ map (λ x. Some x) (reverse l.items.items) ≡ l.fn.slots.items;
  count : length l.slots.items + length l.items.items ≡ length l.fn.slots.items;
  capacity : vec_capacity l.items ≡ vec_capacity l.fn.items;
}

abbrev pub decreases-loop-slot : goal.decreases-loop-slot
decreases-loop-slot g l = goal.left-loop-slot g l
