-- What a thread of a graph job does outside of dispatches: it asks nothing of its tile.
use Rattle.std.specs.Prelude.{◌≡◌, ⊤, List, true, Option, None}
use Rattle.rv_isa.specs.declared.instr.Instr.{Instr}
use Rattle.tn_base.specs.declared.op.Op.{Op}
use Rattle.tn_base.specs.declared.op.Op.TheVariants as op
use Rattle.tn_thread.specs.declared.thread.Thread.{Thread}
use Rattle.tn_thread.specs.Sight.{Sight}
use Rattle.tn_thread.specs.Step.{Stepped}
use Rattle.tn_tile.specs.Step.{due_by, next_step}

-- a step asks nothing, or traps
abbrev pub IsPrivate : Op → Type 0
IsPrivate op.None = ⊤
IsPrivate (op.Send to bytes) = ⊥
IsPrivate op.Hand = ⊥
IsPrivate (op.Free slot) = ⊥
IsPrivate (op.Idle vote) = ⊥
IsPrivate (op.Kill value) = ⊥
IsPrivate (op.Trap why) = ⊤

-- the step leaves the softswitch, the slot in hand and the count of sends
pub record LeavesSwitch (old : Thread) (r : Stepped) : Type 0 where
  pub asks : IsPrivate r.op
  pub switch : r.thread.switch ≡ old.switch
  pub hand : r.thread.hand ≡ old.hand
  pub sends : r.thread.sends ≡ old.sends

-- a step of a thread with firmware, at which no dispatch is due, is private to the thread
abbrev pub HandlersArePrivate : Type 0
HandlersArePrivate = (code : List (Option Instr)) (seen : Sight) (t : Thread) → t.firmware ≡ true → due_by t.state code t ≡ None → LeavesSwitch t (next_step code seen t)
