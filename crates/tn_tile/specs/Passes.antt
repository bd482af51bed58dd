-- What calls answer that pass a packet on.
use Rattle.std.specs.Prelude.{ℕ, ◌≡◌, ◌<◌, Option, Some, None, length}
use Rattle.std.specs.declared.result.Result.{Result}
use Rattle.std.specs.declared.result.Result.TheVariants.{Ok, Err}
use Rattle.std.specs.Int.{bit_at}
use Rattle.tn_base.specs.declared.message.Packet.{Packet}
use Rattle.tn_slots.specs.Pool.{queue_at}
use Rattle.tn_slots.specs.PoolModel.{PoolModel}
use Rattle.tn_tile.specs.TileView.{TileState}

-- the queues of all threads but those of the set are as they were, and the set names threads of the pool
pub record Wakes (set : ℕ) (old new : PoolModel) : Type 0 where
  pub within : (k : ℕ) → k < 64 → bit_at set k ≡ 1 → k < length old.queues
  pub kept : (k : ℕ) → k < 64 → bit_at set k ≡ 0 → queue_at new k ≡ queue_at old k

-- the packet is passed on, or it comes back and nothing changed
abbrev pub Passes : Packet → Result ℕ Packet → Option TileState → TileState → TileState → Type 0
Passes p (Ok set) row old new = (row ≡ Some new) × Wakes set old.pool new.pool
Passes p (Err q) row old new = (row ≡ None) × (new ≡ old) × (q ≡ p)

-- a packet is delivered, or nothing changed
abbrev pub Delivers : Option ℕ → Option TileState → TileState → TileState → Type 0
Delivers None row old new = (row ≡ None) × (new ≡ old)
Delivers (Some set) row old new = (row ≡ Some new) × Wakes set old.pool new.pool
