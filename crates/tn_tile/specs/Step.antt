-- One step of a thread of a tile.
use Rattle.std.specs.Prelude.{ℕ, zero, suc, ◌+◌, ◌/◌, ◌&&◌, Bool, List, [], length, Option, Some, None, is_none, nat_lt, option_map, slice_get, slice_index_or, slice_set, replicate, false, if◌then◌else◌}
use Rattle.rv_isa.specs.declared.instr.Instr.{Instr}
use Rattle.rv_exec.specs.Exec.{regs_after, step_at}
use Rattle.tn_base.specs.declared.effect.Effect.{Effect}
use Rattle.tn_base.specs.declared.effect.Effect.TheVariants as effect
use Rattle.tn_base.specs.declared.event.Trap.{Trap}
use Rattle.tn_base.specs.declared.event.Trap.TheVariants as trap
use Rattle.tn_base.specs.declared.ids.ThreadId.{ThreadId}
use Rattle.tn_base.specs.declared.message.Dest.{Dest}
use Rattle.tn_base.specs.declared.message.Packet.{Packet}
use Rattle.tn_base.specs.declared.op.Op.{Op}
use Rattle.tn_base.specs.declared.op.Op.TheVariants as op
use Rattle.polite_switch.specs.declared.action.SwitchView.{SwitchView}
use Rattle.polite_switch.specs.SwitchModel.{SwitchModel}
use Rattle.tn_slots.specs.Pool.{freed, held_by, key_for, left, queue_at, taken}
use Rattle.tn_slots.specs.Queues.{first_of}
use Rattle.tn_thread.specs.declared.state.ThreadState.{ThreadState}
use Rattle.tn_thread.specs.declared.state.ThreadState.TheVariants as state
use Rattle.tn_thread.specs.declared.thread.Thread.{Thread}
use Rattle.tn_thread.specs.Dispatch.{at_firmware, dispatch, view_of}
use Rattle.tn_thread.specs.Sight.{Sight}
use Rattle.tn_thread.specs.Step.{Stepped, runnable, turned}
use Rattle.tn_tile.specs.TileView.{TilePlan, TileState}

-- a thread with what its instruction writes to the registers, and the instruction's effect
pub record Fetched : Type 0 where
  pub thread : Thread
  pub effect : Effect

abbrev pub executed : Instr → Thread → Fetched
executed i t =
    let s = step_at i t.pc t.regs in
    record { thread = record t { regs = regs_after s.written i.rd t.regs }; effect = s.effect }

-- what stands at the pc: nothing, a word that is no instruction, or an instruction
abbrev pub fetched_at : Option (Option Instr) → Thread → Fetched
fetched_at None t = record { thread = t; effect = effect.Trap trap.BadFetch }
fetched_at (Some None) t = record { thread = t; effect = effect.Trap trap.BadInstr }
fetched_at (Some (Some i)) t = executed i t

-- a thread that runs executes the instruction at its pc; one that waits or is idle executes none
abbrev pub fetched_by : ThreadState → List (Option Instr) → Thread → Fetched
fetched_by state.Run code t = fetched_at (slice_get code (t.pc / 4)) t
fetched_by (state.Wait waits) code t = record { thread = t; effect = effect.Next }
fetched_by (state.Idle vote) code t = record { thread = t; effect = effect.Next }
fetched_by (state.Answered value) code t = record { thread = t; effect = effect.Next }
fetched_by (state.Dead value) code t = record { thread = t; effect = effect.Next }
fetched_by (state.Trapped why) code t = record { thread = t; effect = effect.Next }

-- the softswitch of a thread that is at the firmware's address, where no code stands
abbrev pub due_at : Option (Option Instr) → Thread → Option SwitchModel
due_at None t = at_firmware t
due_at (Some word) t = None

-- the softswitch of a thread that runs and has to make a dispatch
abbrev pub due_by : ThreadState → List (Option Instr) → Thread → Option SwitchModel
due_by state.Run code t = due_at (slice_get code (t.pc / 4)) t
due_by (state.Wait waits) code t = None
due_by (state.Idle vote) code t = None
due_by (state.Answered value) code t = None
due_by (state.Dead value) code t = None
due_by (state.Trapped why) code t = None

-- a dispatch of the softswitch that is due, or else the step of an instruction or of a thread that is resumed
abbrev pub step_by : Option SwitchModel → List (Option Instr) → Sight → Thread → Stepped
step_by None code seen t = let f = fetched_by t.state code t in turned f.effect seen f.thread
step_by (Some s) code seen t = dispatch s seen t

-- the next step of a thread over this code: the new thread, and what it asks of its tile
abbrev pub next_step : List (Option Instr) → Sight → Thread → Stepped
next_step code seen t = step_by (due_by t.state code t) code seen t

-- what stands past the last thread
abbrev pub no_thread : Thread
no_thread = record {
  id = record { 0 = 0 };
  shape = record { version = 0; boards_x = 0; boards_y = 0; tiles_x = 0; tiles_y = 0; cores = 0; threads = 0; slots = 0; link = 0; mem = 0; fuel = 0; turn = 0 };
  firmware = false;
  state = state.Dead 0;
  pc = 0;
  regs = replicate 32 0;
  steps = 0;
  sends = 0;
  given = 0;
  answer_to = 0;
  dest = 0;
  mask_low = 0;
  mask_high = 0;
  mem = record { bytes = []; made = [] };
  out = record { bytes = []; last = 0 };
  hand = 0;
  switch = None;
}

-- the thread at a place of the tile, and the packet that it sent and that is not delivered yet
abbrev pub thread_at : TileState → ℕ → Thread
thread_at s k = slice_index_or s.threads k no_thread

abbrev pub pending_at : TileState → ℕ → Option Packet
pending_at s k = slice_index_or s.pending k None

-- what the thread at a place sees of its tile
abbrev pub sight_at : TileState → ℕ → Sight
sight_at s k = record {
  can_send = is_none (pending_at s k);
  first = first_of (queue_at s.pool k);
  key = key_for s.pool k;
  held = held_by s.pool k;
}

abbrev pub step_at_place : List (Option Instr) → ℕ → TileState → Stepped
step_at_place code k s = next_step code (sight_at s k) (thread_at s k)

-- what the softswitch of the thread at a place sees, if the thread's next step is a dispatch
abbrev pub dispatch_view_at : List (Option Instr) → ℕ → TileState → Option SwitchView
dispatch_view_at code k s =
    let t = thread_at s k in
    option_map (λ _. view_of (sight_at s k) t) (due_by t.state code t)

-- the first thread that trapped stays noted
abbrev pub noted : ThreadId → Trap → Option (ThreadId × Trap) → Option (ThreadId × Trap)
noted id why None = Some (id, why)
noted id why (Some first) = Some first

-- the packet that a send of a thread becomes: it bears the thread's send number
abbrev pub packet_of : Thread → Dest → List ℕ → Packet
packet_of t to bytes = record { origin = t.id.0; number = t.sends; dest = to; bytes = bytes }

-- the tile after what the thread at a place, which was this one, asked of it. A thread that ends gives up what it holds,
-- and the letters of its queue are dropped
abbrev pub acted : ℕ → Thread → Op → TileState → TileState
acted k t op.None s = s
acted k t (op.Send to bytes) s = record s { pending = slice_set s.pending k (Some (packet_of t to bytes)) }
acted k t op.Hand s = record s { pool = taken k s.pool }
acted k t (op.Free slot) s = record s { pool = freed k slot s.pool }
acted k t (op.Idle vote) s = s
acted k t (op.Kill value) s = record s { pool = left k s.pool; dropped = s.dropped + length (queue_at s.pool k) }
acted k t (op.Trap why) s = record s { ended = noted t.id why s.ended }

abbrev pub with_thread : ℕ → Thread → TileState → TileState
with_thread k t s = record s { threads = slice_set s.threads k t }

-- the tile after one step of the thread at a place
abbrev pub stepped : List (Option Instr) → ℕ → TileState → TileState
stepped code k s =
    let made = step_at_place code k s in
    acted k (thread_at s k) made.op (with_thread k made.thread s)

-- the thread at a place can make a step: it is runnable and has steps left
abbrev pub can_step : ℕ → ℕ → TileState → Bool
can_step fuel k s = runnable (sight_at s k) (thread_at s k).state && nat_lt (thread_at s k).steps fuel

-- the tile after this many steps of the thread at a place, if the thread can make them all
unfoldable pub steps_of : TilePlan → ℕ → ℕ → TileState → Option TileState
steps_of plan k zero s = Some s
steps_of plan k (suc n) s = if can_step plan.shape.fuel k s then steps_of plan k n (stepped plan.code k s) else None
