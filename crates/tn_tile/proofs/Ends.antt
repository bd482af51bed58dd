-- A step ends its thread exactly where it says so.
use Rattle.std.proofs.Common.{ℕ, ◌≡◌, ◌-◌, ◌%◌, ◌&&◌, Bool, true, false, not, List, refl, ap, ◌∙◌, nat_eq, Option, Some, None, is_some}
use Rattle.std.proofs.lemmas.Bool.{cond_both}
use Rattle.polite_switch.specs.SwitchModel.{SwitchModel}
use Rattle.polite_switch.specs.Table.{Dispatched, dispatched}
use Rattle.rv_isa.specs.declared.instr.Instr.{Instr}
use Rattle.tn_base.specs.Message.{has_dest}
use Rattle.tn_base.specs.declared.message.Dest.{Dest}
use Rattle.tn_base.specs.declared.message.Dest.TheVariants as dest
use Rattle.tn_base.specs.declared.effect.Effect.{Effect}
use Rattle.tn_base.specs.declared.effect.Effect.TheVariants as effect
use Rattle.tn_base.specs.declared.op.Op.{Op}
use Rattle.tn_base.specs.declared.op.Op.TheVariants as op
use Rattle.tn_thread.specs.declared.place.Place.{Place}
use Rattle.tn_thread.specs.declared.place.Place.TheVariants as place
use Rattle.tn_thread.specs.declared.register.Register.{Register}
use Rattle.tn_thread.specs.declared.register.Register.TheVariants as register
use Rattle.tn_thread.specs.declared.state.ThreadState.{ThreadState}
use Rattle.tn_thread.specs.declared.state.ThreadState.TheVariants as state
use Rattle.tn_thread.specs.declared.thread.Thread.{Thread}
use Rattle.tn_thread.specs.declared.command.Command.{Command}
use Rattle.tn_thread.specs.declared.command.Command.TheVariants as command
use Rattle.tn_thread.specs.Command.{commanded, handed, sent_by, sent_off}
use Rattle.tn_thread.specs.Dispatch.{command_of, view_of}
use Rattle.tn_thread.specs.Registers.{is_open, may_write, register_of}
use Rattle.tn_thread.specs.Sight.{Sight}
use Rattle.tn_thread.specs.Step.{Stepped, dest_of, freed, is_received, loaded_from, loaded_message, place_of, read_by, read_row, received, runnable, sent, sent_to, slot_at, slot_size, stepped, stored_to, turned_by, write_by, write_row}
use Rattle.tn_tile.specs.Receivers.{is_dead}
use Rattle.tn_tile.specs.Step.{Fetched, due_by, fetched_at, fetched_by, next_step, step_by}

-- a step says that its thread ended
abbrev pub kills : Op → Bool
kills op.None = false
kills (op.Send to bytes) = false
kills op.Hand = false
kills (op.Free slot) = false
kills (op.Idle vote) = false
kills (op.Kill value) = true
kills (op.Trap why) = false

abbrev pub EndsSo : Stepped → Type 0
EndsSo r = is_dead r.thread.state ≡ kills r.op

message_ends : (message : Option (List ℕ)) (rd width : ℕ) (signed : Bool) (at : ℕ) (t : Thread) → is_dead t.state ≡ false → EndsSo (loaded_message message rd width signed at t)
message_ends None rd width signed at t alive = refl
message_ends (Some message) rd width signed at t alive = alive

from_ends : (from : Place) (rd width : ℕ) (signed : Bool) (seen : Sight) (t : Thread) → is_dead t.state ≡ false → EndsSo (loaded_from from rd width signed seen t)
from_ends (place.Private at) rd width signed seen t alive = alive
from_ends (place.SendSlot at) rd width signed seen t alive = alive
from_ends (place.Received slot at) rd width signed seen t alive = message_ends (seen.held slot) rd width signed at t alive
from_ends place.Misaligned rd width signed seen t alive = refl
from_ends place.Nowhere rd width signed seen t alive = refl

to_ends : (to : Place) (width value : ℕ) (t : Thread) → is_dead t.state ≡ false → EndsSo (stored_to to width value t)
to_ends (place.Private at) width value t alive = alive
to_ends (place.SendSlot at) width value t alive = alive
to_ends (place.Received slot at) width value t alive = refl
to_ends place.Misaligned width value t alive = refl
to_ends place.Nowhere width value t alive = refl

received_ends : (first : Option ℕ) (rd : ℕ) (t : Thread) → is_dead t.state ≡ false → EndsSo (received first rd t)
received_ends None rd t alive = refl
received_ends (Some slot) rd t alive = alive

read_ends : (r : Register) (rd : ℕ) (seen : Sight) (t : Thread) → is_dead t.state ≡ false → EndsSo (read_row r rd seen t)
read_ends register.HartId rd seen t alive = alive
read_ends register.CanSend rd seen t alive = alive
read_ends register.CanRecv rd seen t alive = alive
read_ends register.SendLen rd seen t alive = refl
read_ends register.SendDest rd seen t alive = refl
read_ends register.MaskLow rd seen t alive = refl
read_ends register.MaskHigh rd seen t alive = refl
read_ends register.Send rd seen t alive = refl
read_ends register.Recv rd seen t alive = received_ends seen.first rd t alive
read_ends register.Free rd seen t alive = refl
read_ends register.WaitUntil rd seen t alive = refl
read_ends register.Idle rd seen t alive = refl
read_ends register.Kill rd seen t alive = refl
read_ends register.SendSlot rd seen t alive = alive

read_by_ends : (r : Option Register) (rd : ℕ) (seen : Sight) (t : Thread) → is_dead t.state ≡ false → EndsSo (read_by r rd seen t)
read_by_ends None rd seen t alive = refl
read_by_ends (Some r) rd seen t alive = cond_both (t.firmware && not (is_open r)) _ _ (λ s. EndsSo s) (λ e. refl) (λ e. read_ends r rd seen t alive)

sent_to_ends : (to : Option Dest) (t : Thread) → is_dead t.state ≡ false → EndsSo (sent_to to t)
sent_to_ends None t alive = refl
sent_to_ends (Some to) t alive = cond_both (has_dest t.shape to) _ _ (λ s. EndsSo s) (λ e. alive) (λ e. refl)

sent_ends : (kind : ℕ) (seen : Sight) (t : Thread) → is_dead t.state ≡ false → EndsSo (sent kind seen t)
sent_ends kind seen t alive = cond_both seen.can_send _ _ (λ s. EndsSo s) (λ e. sent_to_ends (dest_of kind t) t alive) (λ e. refl)

freed_ends : (addr : ℕ) (seen : Sight) (t : Thread) → is_dead t.state ≡ false → EndsSo (freed addr seen t)
freed_ends addr seen t alive =
    cond_both (is_received addr t && nat_eq ((addr - 0x40000000) % slot_size t) 0 && is_some (seen.held (slot_at addr t))) _ _ (λ s. EndsSo s) (λ e. alive) (λ e. refl)

write_ends : (r : Register) (rd value : ℕ) (seen : Sight) (t : Thread) → is_dead t.state ≡ false → EndsSo (write_row r rd value seen t)
write_ends register.HartId rd value seen t alive = refl
write_ends register.CanSend rd value seen t alive = refl
write_ends register.CanRecv rd value seen t alive = refl
write_ends register.SendLen rd value seen t alive = alive
write_ends register.SendDest rd value seen t alive = alive
write_ends register.MaskLow rd value seen t alive = alive
write_ends register.MaskHigh rd value seen t alive = alive
write_ends register.Send rd value seen t alive = sent_ends value seen t alive
write_ends register.Recv rd value seen t alive = refl
write_ends register.Free rd value seen t alive = freed_ends value seen t alive
write_ends register.WaitUntil rd value seen t alive = refl
write_ends register.Idle rd value seen t alive = refl
write_ends register.Kill rd value seen t alive = refl
write_ends register.SendSlot rd value seen t alive = refl

write_by_ends : (r : Option Register) (rd value : ℕ) (seen : Sight) (t : Thread) → is_dead t.state ≡ false → EndsSo (write_by r rd value seen t)
write_by_ends None rd value seen t alive = refl
write_by_ends (Some r) rd value seen t alive = cond_both (not t.firmware && may_write r rd) _ _ (λ s. EndsSo s) (λ e. write_ends r rd value seen t alive) (λ e. refl)

stepped_ends : (e : Effect) (seen : Sight) (t : Thread) → is_dead t.state ≡ false → EndsSo (stepped e seen t)
stepped_ends effect.Next seen t alive = alive
stepped_ends (effect.Jump target) seen t alive = alive
stepped_ends (effect.Load rd addr width signed) seen t alive = from_ends (place_of addr width t) rd width signed seen t alive
stepped_ends (effect.Store addr width value) seen t alive = to_ends (place_of addr width t) width value t alive
stepped_ends (effect.CsrRead rd csr) seen t alive = read_by_ends (register_of csr) rd seen t alive
stepped_ends (effect.CsrWrite rd csr value) seen t alive = write_by_ends (register_of csr) rd value seen t alive
stepped_ends (effect.Trap why) seen t alive = refl

turned_ends : (s : ThreadState) (e : Effect) (seen : Sight) (t : Thread) → is_dead t.state ≡ false → EndsSo (turned_by s e seen t)
turned_ends state.Run e seen t alive = stepped_ends e seen t alive
turned_ends (state.Wait waits) e seen t alive = refl
turned_ends (state.Idle vote) e seen t alive = refl
turned_ends (state.Answered value) e seen t alive = refl
turned_ends (state.Dead value) e seen t alive = alive
turned_ends (state.Trapped why) e seen t alive = alive

-- an instruction leaves the thread's state as it is
at_state : (o : Option (Option Instr)) (t : Thread) → (fetched_at o t).thread.state ≡ t.state
at_state None t = refl
at_state (Some None) t = refl
at_state (Some (Some i)) t = refl

by_state : (s : ThreadState) (code : List (Option Instr)) (t : Thread) → (fetched_by s code t).thread.state ≡ t.state
by_state state.Run code t = at_state _ t
by_state (state.Wait waits) code t = refl
by_state (state.Idle vote) code t = refl
by_state (state.Answered value) code t = refl
by_state (state.Dead value) code t = refl
by_state (state.Trapped why) code t = refl

-- a thread that can make a step has not ended
pub alive_of : (seen : Sight) (s : ThreadState) → runnable seen s ≡ true → is_dead s ≡ false
alive_of seen state.Run e = refl
alive_of seen (state.Wait waits) e = refl
alive_of seen (state.Idle vote) e = refl
alive_of seen (state.Answered value) e = refl
alive_of seen (state.Dead value) e = cc
alive_of seen (state.Trapped why) e = refl

-- a dispatch
handed_ends : (first : Option ℕ) (t : Thread) → is_dead t.state ≡ false → EndsSo (handed first t)
handed_ends None t alive = refl
handed_ends (Some slot) t alive = alive

off_ends : (to : Dest) (seen : Sight) (t : Thread) → is_dead t.state ≡ false → EndsSo (sent_off to seen t)
off_ends to seen t alive = cond_both seen.can_send _ _ (λ s. EndsSo s) (λ e. alive) (λ e. refl)

by_key_ends : (key : Option ℕ) (seen : Sight) (t : Thread) → is_dead t.state ≡ false → EndsSo (sent_by key seen t)
by_key_ends None seen t alive = alive
by_key_ends (Some key) seen t alive = off_ends (dest.Key key) seen t alive

command_ends : (c : Command) (seen : Sight) (t : Thread) → is_dead t.state ≡ false → EndsSo (commanded c seen t)
command_ends (command.Enter entry regs) seen t alive = alive
command_ends command.Recv seen t alive = handed_ends seen.first t alive
command_ends (command.KeySend key) seen t alive = by_key_ends key seen t alive
command_ends command.HostSend seen t alive = off_ends dest.Host seen t alive
command_ends (command.Free slot) seen t alive = cond_both (is_some (seen.held slot)) _ _ (λ s. EndsSo s) (λ e. alive) (λ e. refl)
command_ends (command.Wait waits) seen t alive = refl
command_ends (command.Idle vote) seen t alive = refl
command_ends command.Kill seen t alive = refl
command_ends (command.Trap why) seen t alive = refl

ends_by : (d : Option SwitchModel) (code : List (Option Instr)) (seen : Sight) (t : Thread) → is_dead t.state ≡ false → EndsSo (step_by d code seen t)
ends_by (Some s) code seen t alive =
    let d : Dispatched = dispatched (view_of seen t) s in
    let u : Thread = record t { switch = Some d.switch } in
    command_ends (command_of d.action u) seen u alive
ends_by None code seen t alive =
    let f : Fetched = fetched_by t.state code t in
    turned_ends f.thread.state f.effect seen f.thread (ap is_dead (by_state t.state code t) ∙ alive)

pub next_ends : (code : List (Option Instr)) (seen : Sight) (t : Thread) → is_dead t.state ≡ false → EndsSo (next_step code seen t)
next_ends code seen t alive = ends_by (due_by t.state code t) code seen t alive
