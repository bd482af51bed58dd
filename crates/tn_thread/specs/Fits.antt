-- What each step keeps of its thread, and when it asks for what.
use Rattle.std.specs.Prelude.{◌≡◌, ◌≤◌, ◌+◌, IsTrue, length, is_some}
use Rattle.tn_pages.specs.Paged.{pages_made}
use Rattle.tn_base.specs.Message.{has_dest}
use Rattle.tn_base.specs.declared.op.Op.{Op}
use Rattle.tn_base.specs.declared.op.Op.TheVariants as op
use Rattle.tn_thread.specs.declared.state.ThreadState.TheVariants as state
use Rattle.tn_thread.specs.declared.thread.Thread.{Thread}
use Rattle.tn_thread.specs.Sight.{Sight}
use Rattle.tn_thread.specs.Step.{Stepped, slot_size}

-- a thread keeps its name, its machine and the sizes of its memory
pub record Keeps (old new : Thread) : Type 0 where
  pub id : new.id ≡ old.id
  pub shape : new.shape ≡ old.shape
  pub firmware : new.firmware ≡ old.firmware
  pub mem : length new.mem.bytes ≡ length old.mem.bytes
  pub out : slot_size new ≡ slot_size old

-- a step asks for a send only where none is pending, to a destination of the machine, of bytes that fit a slot;
-- for a hand only where the queue is not empty; to free a slot only where the thread holds it;
-- and it says that the thread is idle, has ended or has trapped exactly so
abbrev pub OpFits : Sight → Thread → Thread → Op → Type 0
OpFits seen old new op.None = Unit {0}
OpFits seen old new (op.Send to bytes) = IsTrue seen.can_send × IsTrue (has_dest old.shape to) × (length bytes ≤ slot_size old)
OpFits seen old new op.Hand = IsTrue (is_some seen.first)
OpFits seen old new (op.Free slot) = IsTrue (is_some (seen.held slot))
OpFits seen old new (op.Idle vote) = new.state ≡ state.Idle vote
OpFits seen old new (op.Kill value) = new.state ≡ state.Dead value
OpFits seen old new (op.Trap why) = new.state ≡ state.Trapped why

-- a step counts one, and makes at most one page
pub record StepFits (seen : Sight) (old : Thread) (r : Stepped) : Type 0 where
  pub keeps : Keeps old r.thread
  pub steps : r.thread.steps ≡ old.steps + 1
  pub pages : pages_made r.thread.mem ≤ pages_made old.mem + 1
  pub op : OpFits seen old r.thread r.op
