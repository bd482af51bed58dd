-- How what a pool keeps beside its slots fits them.
use Rattle.std.specs.Prelude.{ℕ, ◌≤◌, ◌≡◌, Bool, List, length, map}
use Rattle.tn_slots.specs.PoolModel.{PoolModel}
use Rattle.tn_slots.specs.Slot.{is_free}
use Rattle.tn_slots.specs.WellKept.{WellKept}

-- the pool is well kept, the flags say which of its slots are free, and each queue has room for all slots
pub record Fitting (p : PoolModel) (free : List Bool) (room : ℕ) : Type 0 where
  pub kept : WellKept p
  pub flagged : free ≡ map is_free p.slots
  pub enough : length p.slots ≤ room
