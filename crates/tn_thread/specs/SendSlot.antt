-- The send slot as the code keeps it.
use Rattle.std.specs.Prelude.{◌≡◌, ◌≤◌, ◌+◌, ◌*◌, ◌==◌, ◌||◌, IsTrue, length}
use Rattle.tn_thread.specs.declared.send_slot.SendSlot.TheInside.{Inside}

-- its size is that of a message slot of version 1 or 2, and its message lies within it
pub record IsSendSlot (s : Inside) : Type 0 where
  pub whole : length s.bytes ≡ 128
  pub size : IsTrue (s.size == 64 || s.size == 128)
  pub fits : 16 * (s.last + 1) ≤ s.size
