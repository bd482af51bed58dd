-- The queues of a pool's threads as rings in one block, which has as many places for each thread as a queue has room for.
use Rattle.std.specs.Prelude.{ℕ, ◌+◌, ◌-◌, ◌*◌, ◌≡◌, ◌≤◌, List, nat_lt, if◌then◌else◌, length, map, slice_index, slice_index_or}
use Rattle.std.specs.List.{range_with_len}
use Rattle.tn_slots.specs.declared.ring.Ring.{Ring}

-- the place of a ring that a count from its first place comes to: behind the last place comes the first
unfoldable pub wrapped : ℕ → ℕ → ℕ
wrapped room at = if nat_lt at room then at else at - room

-- where that place of thread t stands in the block
abbrev pub cell : ℕ → ℕ → ℕ → ℕ
cell room t at = t * room + wrapped room at

abbrev pub no_ring : Ring
no_ring = record { head = 0; len = 0 }

-- the slots of thread t's queue, the oldest first
abbrev pub slots_of : List ℕ → ℕ → ℕ → Ring → List ℕ
slots_of block room t ring = map (λ k. slice_index block (cell room t (ring.head + k))) (range_with_len 0 ring.len)

abbrev pub queues_of : List ℕ → List Ring → ℕ → List (List ℕ)
queues_of block rings room = map (λ t. slots_of block room t (slice_index_or rings t no_ring)) (range_with_len 0 (length rings))

-- the block has the places of each thread, and no queue is longer than they are
pub record RingsFit (block : List ℕ) (rings : List Ring) (room : ℕ) : Type 0 where
  pub few_threads : length rings ≤ 64
  pub few_slots : room ≤ 512
  pub long : length block ≡ length rings * room
  pub each : (t : ℕ) → ((slice_index_or rings t no_ring).head ≤ room) × ((slice_index_or rings t no_ring).len ≤ room)
