-- One step of a thread: what it reads and writes, what it asks of its tile, and when it traps.
use Rattle.std.specs.Prelude.{ℕ, ◌≡◌, ◌≤◌, ◌<◌, ◌+◌, ◌-◌, ◌*◌, ◌/◌, ◌%◌, ◌^◌, ◌==◌, ◌&&◌, ◌||◌, Bool, true, false, not, IsTrue, List, length, replicate, take, bit_and, nat_le, nat_lt, Option, Some, None, is_some, if◌then◌else◌}
use Rattle.tn_base.specs.Regs.{set_reg}
use Rattle.tn_base.specs.Message.{has_dest, slot_bytes}
use Rattle.tn_base.specs.declared.ids.ThreadId.{ThreadId}
use Rattle.tn_base.specs.declared.shape.ShapeNumbers.{ShapeNumbers}
use Rattle.tn_base.specs.declared.message.Dest.{Dest}
use Rattle.tn_base.specs.declared.message.Dest.TheVariants as dest
use Rattle.tn_base.specs.declared.event.Trap.{Trap}
use Rattle.tn_base.specs.declared.event.Trap.TheVariants as trap
use Rattle.tn_base.specs.declared.effect.Effect.{Effect}
use Rattle.tn_base.specs.declared.effect.Effect.TheVariants as effect
use Rattle.tn_base.specs.declared.op.Op.{Op}
use Rattle.tn_base.specs.declared.op.Op.TheVariants as op
use Rattle.tn_thread.specs.declared.place.Place.{Place}
use Rattle.tn_thread.specs.declared.place.Place.TheVariants as place
use Rattle.tn_thread.specs.declared.register.Register.{Register}
use Rattle.tn_thread.specs.declared.register.Register.TheVariants as register
use Rattle.tn_thread.specs.declared.state.ThreadState.{ThreadState}
use Rattle.tn_thread.specs.declared.state.ThreadState.TheVariants as state
use Rattle.tn_thread.specs.declared.thread.Thread.{Thread}
use Rattle.tn_base.specs.Effects.{is_width}
use Rattle.tn_pages.specs.Numbers.{value_at, written}
use Rattle.tn_pages.specs.Paged.{started as memory_of, stored_in}
use Rattle.tn_thread.specs.Memory.{extended}
use Rattle.tn_thread.specs.Registers.{is_open, may_write, register_of}
use Rattle.tn_thread.specs.Sight.{Sight}

-- a thread after a step, and what the step asks of the tile
pub record Stepped : Type 0 where
  pub thread : Thread
  pub op : Op

-- what holds of each effect of an instruction
abbrev pub FitsStep : Effect → Type 0
FitsStep effect.Next = Unit {0}
FitsStep (effect.Jump target) = target % 4 ≡ 0
FitsStep (effect.Load rd addr width signed) = (rd < 32) × IsTrue (is_width width)
FitsStep (effect.Store addr width value) = IsTrue (is_width width)
FitsStep (effect.CsrRead rd csr) = rd < 32
FitsStep (effect.CsrWrite rd csr value) = rd < 32
FitsStep (effect.Trap why) = Unit {0}

-- the thread goes on at an address
abbrev pub went_to : ℕ → Thread → Op → Stepped
went_to target t asked = record { thread = record t { pc = target; steps = t.steps + 1; given = 0 }; op = asked }

-- the thread goes on behind its instruction
abbrev pub went : Thread → Op → Stepped
went t asked = went_to ((t.pc + 4) % 2 ^ 32) t asked

-- a step that traps counts, and changes nothing but the thread's state
abbrev pub trapped : Trap → Thread → Stepped
trapped why t = record { thread = record t { state = state.Trapped why; steps = t.steps + 1 }; op = op.Trap why }

-- the thread reads a value into a register, and goes on
abbrev pub got : ℕ → ℕ → Op → Thread → Stepped
got rd value asked t = went (record t { regs = set_reg t.regs rd value }) asked

-- a message slot has as many bytes as the send slot
abbrev pub slot_size : Thread → ℕ
slot_size t = length t.out.bytes

-- where a received message stands
abbrev pub slot_address : Thread → ℕ → ℕ
slot_address t slot = 0x40000000 + slot_size t * slot

-- the slot at an address from 0x40000000 on
abbrev pub slot_at : ℕ → Thread → ℕ
slot_at addr t = (addr - 0x40000000) / slot_size t

-- an address lies in a message slot; slots have numbers of 16 bits
abbrev pub is_received : ℕ → Thread → Bool
is_received addr t = nat_le 0x40000000 addr && nat_lt (slot_at addr t) 65536

-- what `width` bytes from an address on are: misaligned, private memory, the send slot, a received message, or nothing
abbrev pub place_of : ℕ → ℕ → Thread → Place
place_of addr width t =
    if not (addr % width == 0) then place.Misaligned
    else if nat_le (addr + width) (length t.mem.bytes) then place.Private addr
    else if nat_le 0x50000000 addr && nat_le (addr - 0x50000000 + width) (slot_size t) then place.SendSlot (addr - 0x50000000)
    else if is_received addr t then place.Received (slot_at addr t) ((addr - 0x40000000) % slot_size t)
    else place.Nowhere

-- a place lies within the memory that it is in, and one in private memory lies on one page
abbrev pub IsWithin : ℕ → Thread → Place → Type 0
IsWithin width t (place.Private at) = (at + width ≤ length t.mem.bytes) × (at % 256 + width ≤ 256)
IsWithin width t (place.SendSlot at) = at + width ≤ slot_size t
IsWithin width t (place.Received slot at) = (slot < 65536) × (at < slot_size t)
IsWithin width t place.Misaligned = Unit {0}
IsWithin width t place.Nowhere = Unit {0}

-- a load from a slot, whose message the thread has if it holds the slot
abbrev pub loaded_message : Option (List ℕ) → ℕ → ℕ → Bool → ℕ → Thread → Stepped
loaded_message None rd width signed at t = trapped trap.BadAddress t
loaded_message (Some message) rd width signed at t = got rd (extended width signed (value_at message at width)) op.None t

abbrev pub loaded_from : Place → ℕ → ℕ → Bool → Sight → Thread → Stepped
loaded_from (place.Private at) rd width signed seen t = got rd (extended width signed (value_at t.mem.bytes at width)) op.None t
loaded_from (place.SendSlot at) rd width signed seen t = got rd (extended width signed (value_at t.out.bytes at width)) op.None t
loaded_from (place.Received slot at) rd width signed seen t = loaded_message (seen.held slot) rd width signed at t
loaded_from place.Misaligned rd width signed seen t = trapped trap.Misaligned t
loaded_from place.Nowhere rd width signed seen t = trapped trap.BadAddress t

-- a load of a byte, a halfword or a word
abbrev pub loaded : ℕ → ℕ → ℕ → Bool → Sight → Thread → Stepped
loaded rd addr width signed seen t = loaded_from (place_of addr width t) rd width signed seen t

abbrev pub stored_to : Place → ℕ → ℕ → Thread → Stepped
stored_to (place.Private at) width value t = went (record t { mem = stored_in t.mem at width value }) op.None
stored_to (place.SendSlot at) width value t = went (record t { out = record t.out { bytes = written t.out.bytes at width value } }) op.None
stored_to (place.Received slot at) width value t = trapped trap.BadAddress t
stored_to place.Misaligned width value t = trapped trap.Misaligned t
stored_to place.Nowhere width value t = trapped trap.BadAddress t

-- a store of a byte, a halfword or a word; received messages are read only
abbrev pub stored : ℕ → ℕ → ℕ → Thread → Stepped
stored addr width value t = stored_to (place_of addr width t) width value t

-- the first letter of the queue is taken, and the address of its slot read
abbrev pub received : Option ℕ → ℕ → Thread → Stepped
received None rd t = trapped trap.RecvEmpty t
received (Some slot) rd t = got rd (slot_address t slot) op.Hand t

-- a read of each control register
abbrev pub read_row : Register → ℕ → Sight → Thread → Stepped
read_row register.HartId rd seen t = got rd t.id.0 op.None t
read_row register.CanSend rd seen t = got rd (if seen.can_send then 1 else 0) op.None t
read_row register.CanRecv rd seen t = got rd (if is_some seen.first then 1 else 0) op.None t
read_row register.SendLen rd seen t = trapped trap.BadCsr t
read_row register.SendDest rd seen t = trapped trap.BadCsr t
read_row register.MaskLow rd seen t = trapped trap.BadCsr t
read_row register.MaskHigh rd seen t = trapped trap.BadCsr t
read_row register.Send rd seen t = trapped trap.BadCsr t
read_row register.Recv rd seen t = received seen.first rd t
read_row register.Free rd seen t = trapped trap.BadCsr t
read_row register.WaitUntil rd seen t = trapped trap.BadCsr t
read_row register.Idle rd seen t = trapped trap.BadCsr t
read_row register.Kill rd seen t = trapped trap.BadCsr t
read_row register.SendSlot rd seen t = got rd 0x50000000 op.None t

abbrev pub read_by : Option Register → ℕ → Sight → Thread → Stepped
read_by None rd seen t = trapped trap.BadCsr t
read_by (Some r) rd seen t = if t.firmware && not (is_open r) then trapped trap.BadCsr t else read_row r rd seen t

-- the destination of a send of a kind: 0 to a thread or the host, 1 to a mask, 2 by a key
abbrev pub dest_of : ℕ → Thread → Option Dest
dest_of kind t =
    if kind == 0 then Some (if t.dest == 0x40000000 then dest.Host else dest.Thread (record { 0 = t.dest }))
    else if kind == 1 then Some (dest.Mask (record { 0 = t.dest }) (t.mask_low + 4294967296 * t.mask_high))
    else if kind == 2 then Some (dest.Key t.dest)
    else None

-- a send to a destination that is there, or is not
abbrev pub sent_to : Option Dest → Thread → Stepped
sent_to None t = trapped trap.BadDest t
sent_to (Some to) t =
    if has_dest t.shape to
    then went (record t { sends = (t.sends + 1) % 2 ^ 32 }) (op.Send to (take (16 * (t.out.last + 1)) t.out.bytes))
    else trapped trap.BadDest t

abbrev pub sent : ℕ → Sight → Thread → Stepped
sent kind seen t = if seen.can_send then sent_to (dest_of kind t) t else trapped trap.SendBusy t

-- the slot at exactly this address is given up, if the thread holds it
abbrev pub freed : ℕ → Sight → Thread → Stepped
freed addr seen t =
    if is_received addr t && (addr - 0x40000000) % slot_size t == 0 && is_some (seen.held (slot_at addr t))
    then went t (op.Free (slot_at addr t))
    else trapped trap.BadFree t

-- a write of each control register
abbrev pub write_row : Register → ℕ → ℕ → Sight → Thread → Stepped
write_row register.HartId rd value seen t = trapped trap.BadCsr t
write_row register.CanSend rd value seen t = trapped trap.BadCsr t
write_row register.CanRecv rd value seen t = trapped trap.BadCsr t
write_row register.SendLen rd value seen t = went (record t { out = record t.out { last = value % (slot_size t / 16) } }) op.None
write_row register.SendDest rd value seen t = went (record t { dest = value }) op.None
write_row register.MaskLow rd value seen t = went (record t { mask_low = value }) op.None
write_row register.MaskHigh rd value seen t = went (record t { mask_high = value }) op.None
write_row register.Send rd value seen t = sent value seen t
write_row register.Recv rd value seen t = trapped trap.BadCsr t
write_row register.Free rd value seen t = freed value seen t
write_row register.WaitUntil rd value seen t = went (record t { state = state.Wait (record { 0 = value % 4 }) }) op.None
write_row register.Idle rd value seen t = went (record t { state = state.Idle (not (value == 0)); answer_to = rd }) (op.Idle (not (value == 0)))
write_row register.Kill rd value seen t = went (record t { state = state.Dead value }) (op.Kill value)
write_row register.SendSlot rd value seen t = trapped trap.BadCsr t

abbrev pub write_by : Option Register → ℕ → ℕ → Sight → Thread → Stepped
write_by None rd value seen t = trapped trap.BadCsr t
write_by (Some r) rd value seen t = if not t.firmware && may_write r rd then write_row r rd value seen t else trapped trap.BadCsr t

-- the effect of an instruction on a thread that runs
abbrev pub stepped : Effect → Sight → Thread → Stepped
stepped effect.Next seen t = went t op.None
stepped (effect.Jump target) seen t = went_to target t op.None
stepped (effect.Load rd addr width signed) seen t = loaded rd addr width signed seen t
stepped (effect.Store addr width value) seen t = stored addr width value t
stepped (effect.CsrRead rd csr) seen t = read_by (register_of csr) rd seen t
stepped (effect.CsrWrite rd csr value) seen t = write_by (register_of csr) rd value seen t
stepped (effect.Trap why) seen t = trapped why t

-- a wait is over: for nothing, or one of what it waits for is there
abbrev pub wait_holds : ℕ → Sight → Bool
wait_holds waits seen =
    waits == 0 || (bit_and waits 1 == 1 && seen.can_send) || (bit_and waits 2 == 2 && is_some seen.first)

-- the thread can make a step
abbrev pub runnable : Sight → ThreadState → Bool
runnable seen state.Run = true
runnable seen (state.Wait waits) = wait_holds waits.0 seen
runnable seen (state.Idle vote) = is_some seen.first
runnable seen (state.Answered value) = true
runnable seen (state.Dead value) = false
runnable seen (state.Trapped why) = false

-- the answers of an idle that the machine's rest gives
abbrev pub told : ℕ → ℕ
told value = if value == 1 || value == 2 then value else 0

-- an idle is over: the thread reads the answer and runs on
abbrev pub completed : ℕ → Thread → Stepped
completed value t = record {
  thread = record t { state = state.Run; regs = set_reg t.regs t.answer_to value; steps = t.steps + 1; given = told value };
  op = op.None;
}

-- the completion of a wait or an idle; a thread in another state stays
abbrev pub resumed_by : ThreadState → Thread → Stepped
resumed_by state.Run t = record { thread = t; op = op.None }
resumed_by (state.Wait waits) t = record { thread = record t { state = state.Run; steps = t.steps + 1; given = 0 }; op = op.None }
resumed_by (state.Idle vote) t = completed 0 t
resumed_by (state.Answered value) t = completed value t
resumed_by (state.Dead value) t = record { thread = t; op = op.None }
resumed_by (state.Trapped why) t = record { thread = t; op = op.None }

abbrev pub resumed : Thread → Stepped
resumed t = resumed_by t.state t

-- the next step of a thread that can make one, where its next instruction has this effect
abbrev pub turned_by : ThreadState → Effect → Sight → Thread → Stepped
turned_by state.Run e seen t = stepped e seen t
turned_by (state.Wait waits) e seen t = resumed_by (state.Wait waits) t
turned_by (state.Idle vote) e seen t = resumed_by (state.Idle vote) t
turned_by (state.Answered value) e seen t = resumed_by (state.Answered value) t
turned_by (state.Dead value) e seen t = resumed_by (state.Dead value) t
turned_by (state.Trapped why) e seen t = resumed_by (state.Trapped why) t

abbrev pub turned : Effect → Sight → Thread → Stepped
turned e seen t = turned_by t.state e seen t

-- the thread is idle
abbrev pub is_idle : ThreadState → Bool
is_idle state.Run = false
is_idle (state.Wait waits) = false
is_idle (state.Idle vote) = true
is_idle (state.Answered value) = false
is_idle (state.Dead value) = false
is_idle (state.Trapped why) = false

-- a thread that was idle has its answer
abbrev pub answered : ℕ → Thread → Thread
answered value t = record t { state = state.Answered value }

-- 1 or 2 where the last step completed an idle with it, else 0: a trap completes none
abbrev pub given_by : ThreadState → ℕ → ℕ
given_by state.Run given = given
given_by (state.Wait waits) given = given
given_by (state.Idle vote) given = given
given_by (state.Answered value) given = given
given_by (state.Dead value) given = given
given_by (state.Trapped why) given = 0

-- a thread at the start: without firmware at address 0, with it at the firmware's address, its messages of the graph's flits
abbrev pub first_pc : Option ℕ → ℕ
first_pc None = 0
first_pc (Some flits) = 0xFFFFFFF0

abbrev pub first_last : Option ℕ → ℕ
first_last None = 0
first_last (Some flits) = flits - 1

abbrev pub started : ShapeNumbers → ThreadId → List ℕ → Option ℕ → Thread
started shape id image firmware = record {
  id = id;
  shape = shape;
  firmware = is_some firmware;
  state = state.Run;
  pc = first_pc firmware;
  regs = replicate 32 0;
  steps = 0;
  sends = 0;
  given = 0;
  answer_to = 0;
  dest = 0;
  mask_low = 0;
  mask_high = 0;
  mem = memory_of shape.mem image;
  out = record { bytes = replicate (slot_bytes shape) 0; last = first_last firmware };
  hand = 0;
  switch = None;
}
