use Rattle.std.proofs.Common.{◌≡◌, ℕ, ◌<◌, length, false, Some, map, take, get_or}
use Rattle.std.specs.Vec.{vec_capacity}
use Rattle.std.specs.Slots.{slots_items, slots_filled, slots_len}
use Rattle.std.specs.Mem.Slots.Ownership.{Filled}
use Rattle.tn_turns.proofs.closing.take_all.Given as goal

abbrev pub invariant-loop-i : goal.invariant-loop-i
invariant-loop-i g l = record {
  items : slots_items l.closed.slots ≡ slots_items l.fn.closed.slots;
  len : slots_len l.closed.slots ≡ slots_len l.fn.closed.slots;
  full : Filled (slots_filled l.closed.slots) l.i (slots_len l.closed.slots);
  taken : (k : ℕ) → k < l.i → get_or (slots_filled l.closed.slots) k false ≡ false;
  room : map (λ x. Some x) l.room.items ≡ take l.i (slots_items l.fn.closed.slots);
  count : length l.room.items ≡ l.i;
  capacity : vec_capacity l.room ≡ vec_capacity l.fn.room;
}
