-- What holds of every pool.
use Rattle.std.specs.Prelude.{ℕ, ◌+◌, ◌<◌, ◌≤◌, ◌≡◌, ◌==◌, ◌^◌, List, length, sum_by, count_by}
use Rattle.std.specs.Int.{bit_at}
use Rattle.tn_slots.specs.PoolModel.{PoolModel}
use Rattle.tn_slots.specs.Pool.{queue_at, slot_at}

-- how often x stands in the list
abbrev pub times : ℕ → List ℕ → ℕ
times x xs = count_by (λ y. y == x) xs

pub record WellKept (p : PoolModel) : Type 0 where
  pub few_threads : length p.queues ≤ 64
  pub few_slots : length p.slots ≤ 512
  -- a slot stands in a thread's queue once where the thread is owed it, else not
  pub each : (t s : ℕ) → t < length p.queues → times s (queue_at p t) ≡ bit_at (slot_at p s).owed t
  -- a queue is as long as the thread is owed slots
  pub long : (t : ℕ) → t < length p.queues → length (queue_at p t) ≡ sum_by (λ slot. bit_at slot.owed t) p.slots
  -- a thread that holds a slot is not owed it
  pub apart : (t s : ℕ) → t < length p.queues → bit_at (slot_at p s).owed t + bit_at (slot_at p s).holders t ≤ 1
  -- only threads of the pool are owed a slot or hold it
  pub named : (s : ℕ) → ((slot_at p s).owed < 2 ^ length p.queues) × ((slot_at p s).holders < 2 ^ length p.queues)
  -- a message is no longer than a slot
  pub fits : (s : ℕ) → length (slot_at p s).bytes ≤ p.slot_bytes

-- no thread of the pool is owed slot s or holds it
pub record Unused (p : PoolModel) (s : ℕ) : Type 0 where
  pub not_owed : (t : ℕ) → t < length p.queues → bit_at (slot_at p s).owed t ≡ 0
  pub not_held : (t : ℕ) → t < length p.queues → bit_at (slot_at p s).holders t ≡ 0
