-- What each call makes of a pool.
use Rattle.std.specs.Prelude.{ℕ, ◌+◌, ◌*◌, ◌≡◌, ◌==◌, List, [], ◌∷◌, map, replicate, position, slice_index, slice_index_or, slice_set, if◌then◌else◌, option_map, Option, Some, None}
use Rattle.std.specs.Int.{bit_at}
use Rattle.tn_slots.specs.declared.slot.Slot.{Slot}
use Rattle.tn_slots.specs.PoolModel.{PoolModel}
use Rattle.tn_slots.specs.Slot.{empty_slot, fresh_slot, freed_slot, is_free, left_slot, taken_slot}
use Rattle.tn_slots.specs.Queues.{appended, first_of}

abbrev pub slot_at : PoolModel → ℕ → Slot
slot_at p s = slice_index_or p.slots s empty_slot

abbrev pub queue_at : PoolModel → ℕ → List ℕ
queue_at p t = slice_index_or p.queues t []

-- a pool whose slots are all free
abbrev pub fresh : ℕ → ℕ → ℕ → PoolModel
fresh slots threads slot_bytes = record {
  slots = replicate slots fresh_slot;
  queues = replicate threads [];
  slot_bytes = slot_bytes;
}

-- the least slot that nobody is owed or holds
abbrev pub first_free : PoolModel → Option ℕ
first_free p = position is_free p.slots

-- the pool after a message for the threads of the mask was put into slot s
abbrev pub put_at : ℕ → List ℕ → ℕ → PoolModel → PoolModel
put_at s bytes mask p = record {
  slots = slice_set p.slots s (record { bytes = bytes; owed = mask; holders = 0 });
  queues = appended mask s p.queues;
  slot_bytes = p.slot_bytes;
}

-- the pool after thread t took the first of its queue, which is given
abbrev pub taken_from : ℕ → List ℕ → PoolModel → PoolModel
taken_from t [] p = p
taken_from t (s ∷ rest) p = record {
  slots = slice_set p.slots s (taken_slot t (slot_at p s));
  queues = slice_set p.queues t rest;
  slot_bytes = p.slot_bytes;
}

-- the pool after thread t took the first of its queue, if there is one
abbrev pub taken : ℕ → PoolModel → PoolModel
taken t p = taken_from t (queue_at p t) p

-- thread t took slot s and did not free it
abbrev pub Holds : PoolModel → ℕ → ℕ → Type 0
Holds p t s = bit_at (slot_at p s).holders t ≡ 1

-- the pool after thread t freed slot s
abbrev pub freed : ℕ → ℕ → PoolModel → PoolModel
freed t s p = record {
  slots = slice_set p.slots s (freed_slot t (slot_at p s));
  queues = p.queues;
  slot_bytes = p.slot_bytes;
}

-- the pool after thread t left: it is owed nothing and holds nothing
abbrev pub left : ℕ → PoolModel → PoolModel
left t p = record {
  slots = map (left_slot t) p.slots;
  queues = slice_set p.queues t [];
  slot_bytes = p.slot_bytes;
}

-- the message in slot s, where somebody is owed or holds it
abbrev pub message_at : PoolModel → ℕ → Option (List ℕ)
message_at p s = if is_free (slot_at p s) then None else Some (slot_at p s).bytes

-- the message in slot s, where thread t holds it
abbrev pub held_by : PoolModel → ℕ → ℕ → Option (List ℕ)
held_by p t s = if bit_at (slot_at p s).holders t == 1 then Some (slot_at p s).bytes else None

-- the first two bytes of a message, the lower one first
abbrev pub key_in : List ℕ → ℕ
key_in bytes = slice_index bytes 0 + 256 * slice_index bytes 1

-- the first 16 bits of the message in the first slot of the queue of thread t
abbrev pub key_for : PoolModel → ℕ → Option ℕ
key_for p t = option_map (λ s. key_in (slot_at p s).bytes) (first_of (queue_at p t))
