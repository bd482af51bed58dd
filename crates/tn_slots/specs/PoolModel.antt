use Rattle.std.specs.Prelude.{ℕ, List}
use Rattle.tn_slots.specs.declared.slot.Slot.{Slot}

-- a pool: its slots, for each thread the slots that it is owed, the oldest first, and the most bytes of a message
pub record PoolModel : Type 0 where
  pub slots : List Slot
  pub queues : List (List ℕ)
  pub slot_bytes : ℕ
