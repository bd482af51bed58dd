use Rattle.std.proofs.Common.{◌≡◌, ◌+◌, ◌++◌, length, Some, map, reverse}
use Rattle.std.specs.Vec.{vec_capacity}
use Rattle.tn_turns.proofs.opening.fill.Given as goal

abbrev pub invariant-loop-x : goal.invariant-loop-x
invariant-loop-x g l = record {
  moved : l.slots.items ++ map (λ x. Some x) (reverse l.items.items) ≡ map (λ x. Some x) l.fn.items.items;
  count : length l.slots.items + length l.items.items ≡ length l.fn.items.items;
  capacity : vec_capacity l.items ≡ vec_capacity l.fn.items;
  room : vec_capacity l.slots ≡ vec_capacity l.fn.slots;
}

abbrev pub decreases-loop-x : goal.decreases-loop-x
decreases-loop-x g l = goal.left-loop-x g l
