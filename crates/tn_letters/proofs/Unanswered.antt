-- No step leaves a thread with an answer: a thread gets its answer by a release alone.
use Rattle.std.proofs.Common.{ℕ, ◌≡◌, ◌-◌, ◌%◌, ◌&&◌, Bool, not, List, refl, subst, sym, nat_eq, Option, Some, None, is_some}
use Rattle.std.proofs.lemmas.Bool.{cond_both}
use Rattle.rv_isa.specs.declared.instr.Instr.{Instr}
use Rattle.tn_base.specs.Message.{has_dest}
use Rattle.tn_base.specs.declared.message.Dest.{Dest}
use Rattle.tn_base.specs.declared.message.Dest.TheVariants as dest
use Rattle.tn_base.specs.declared.effect.Effect.{Effect}
use Rattle.tn_base.specs.declared.effect.Effect.TheVariants as effect
use Rattle.polite_switch.specs.SwitchModel.{SwitchModel}
use Rattle.polite_switch.specs.Table.{Dispatched, dispatched}
use Rattle.tn_thread.specs.declared.command.Command.{Command}
use Rattle.tn_thread.specs.declared.command.Command.TheVariants as command
use Rattle.tn_thread.specs.declared.place.Place.{Place}
use Rattle.tn_thread.specs.declared.place.Place.TheVariants as place
use Rattle.tn_thread.specs.declared.register.Register.{Register}
use Rattle.tn_thread.specs.declared.register.Register.TheVariants as register
use Rattle.tn_thread.specs.declared.state.ThreadState.{ThreadState}
use Rattle.tn_thread.specs.declared.state.ThreadState.TheVariants as state
use Rattle.tn_thread.specs.declared.thread.Thread.{Thread}
use Rattle.tn_thread.specs.Command.{commanded, given_up, handed, sent_by, sent_off}
use Rattle.tn_thread.specs.Dispatch.{command_of, view_of}
use Rattle.tn_thread.specs.Registers.{is_open, may_write, register_of}
use Rattle.tn_thread.specs.Sight.{Sight}
use Rattle.tn_thread.specs.Step.{Stepped, dest_of, freed, is_received, loaded_from, loaded_message, place_of, read_by, read_row, received, sent, sent_to, slot_at, slot_size, stepped, stored_to, turned_by, write_by, write_row}
use Rattle.tn_tile.specs.Step.{Fetched, due_by, fetched_by, next_step, step_by}

-- a thread in this state has no answer
abbrev pub HasNone : ThreadState → Type 0
HasNone state.Run = Unit {0}
HasNone (state.Wait waits) = Unit {0}
HasNone (state.Idle vote) = Unit {0}
HasNone (state.Answered value) = ⊥
HasNone (state.Dead value) = Unit {0}
HasNone (state.Trapped why) = Unit {0}

abbrev LeavesNone : Stepped → Type 0
LeavesNone r = HasNone r.thread.state

message_none : (message : Option (List ℕ)) (rd width : ℕ) (signed : Bool) (at : ℕ) (t : Thread) → HasNone t.state → LeavesNone (loaded_message message rd width signed at t)
message_none None rd width signed at t none = tt
message_none (Some message) rd width signed at t none = none

from_none : (from : Place) (rd width : ℕ) (signed : Bool) (seen : Sight) (t : Thread) → HasNone t.state → LeavesNone (loaded_from from rd width signed seen t)
from_none (place.Private at) rd width signed seen t none = none
from_none (place.SendSlot at) rd width signed seen t none = none
from_none (place.Received slot at) rd width signed seen t none = message_none (seen.held slot) rd width signed at t none
from_none place.Misaligned rd width signed seen t none = tt
from_none place.Nowhere rd width signed seen t none = tt

to_none : (to : Place) (width value : ℕ) (t : Thread) → HasNone t.state → LeavesNone (stored_to to width value t)
to_none (place.Private at) width value t none = none
to_none (place.SendSlot at) width value t none = none
to_none (place.Received slot at) width value t none = tt
to_none place.Misaligned width value t none = tt
to_none place.Nowhere width value t none = tt

received_none : (first : Option ℕ) (rd : ℕ) (t : Thread) → HasNone t.state → LeavesNone (received first rd t)
received_none None rd t none = tt
received_none (Some slot) rd t none = none

read_none : (r : Register) (rd : ℕ) (seen : Sight) (t : Thread) → HasNone t.state → LeavesNone (read_row r rd seen t)
read_none register.HartId rd seen t none = none
read_none register.CanSend rd seen t none = none
read_none register.CanRecv rd seen t none = none
read_none register.SendLen rd seen t none = tt
read_none register.SendDest rd seen t none = tt
read_none register.MaskLow rd seen t none = tt
read_none register.MaskHigh rd seen t none = tt
read_none register.Send rd seen t none = tt
read_none register.Recv rd seen t none = received_none seen.first rd t none
read_none register.Free rd seen t none = tt
read_none register.WaitUntil rd seen t none = tt
read_none register.Idle rd seen t none = tt
read_none register.Kill rd seen t none = tt
read_none register.SendSlot rd seen t none = none

read_by_none : (r : Option Register) (rd : ℕ) (seen : Sight) (t : Thread) → HasNone t.state → LeavesNone (read_by r rd seen t)
read_by_none None rd seen t none = tt
read_by_none (Some r) rd seen t none = cond_both (t.firmware && not (is_open r)) _ _ (λ s. LeavesNone s) (λ e. tt) (λ e. read_none r rd seen t none)

sent_to_none : (to : Option Dest) (t : Thread) → HasNone t.state → LeavesNone (sent_to to t)
sent_to_none None t none = tt
sent_to_none (Some to) t none = cond_both (has_dest t.shape to) _ _ (λ s. LeavesNone s) (λ e. none) (λ e. tt)

sent_none : (kind : ℕ) (seen : Sight) (t : Thread) → HasNone t.state → LeavesNone (sent kind seen t)
sent_none kind seen t none = cond_both seen.can_send _ _ (λ s. LeavesNone s) (λ e. sent_to_none (dest_of kind t) t none) (λ e. tt)

freed_none : (addr : ℕ) (seen : Sight) (t : Thread) → HasNone t.state → LeavesNone (freed addr seen t)
freed_none addr seen t none =
    cond_both (is_received addr t && nat_eq ((addr - 0x40000000) % slot_size t) 0 && is_some (seen.held (slot_at addr t))) _ _ (λ s. LeavesNone s) (λ e. none) (λ e. tt)

write_none : (r : Register) (rd value : ℕ) (seen : Sight) (t : Thread) → HasNone t.state → LeavesNone (write_row r rd value seen t)
write_none register.HartId rd value seen t none = tt
write_none register.CanSend rd value seen t none = tt
write_none register.CanRecv rd value seen t none = tt
write_none register.SendLen rd value seen t none = none
write_none register.SendDest rd value seen t none = none
write_none register.MaskLow rd value seen t none = none
write_none register.MaskHigh rd value seen t none = none
write_none register.Send rd value seen t none = sent_none value seen t none
write_none register.Recv rd value seen t none = tt
write_none register.Free rd value seen t none = freed_none value seen t none
write_none register.WaitUntil rd value seen t none = tt
write_none register.Idle rd value seen t none = tt
write_none register.Kill rd value seen t none = tt
write_none register.SendSlot rd value seen t none = tt

write_by_none : (r : Option Register) (rd value : ℕ) (seen : Sight) (t : Thread) → HasNone t.state → LeavesNone (write_by r rd value seen t)
write_by_none None rd value seen t none = tt
write_by_none (Some r) rd value seen t none = cond_both (not t.firmware && may_write r rd) _ _ (λ s. LeavesNone s) (λ e. write_none r rd value seen t none) (λ e. tt)

stepped_none : (e : Effect) (seen : Sight) (t : Thread) → HasNone t.state → LeavesNone (stepped e seen t)
stepped_none effect.Next seen t none = none
stepped_none (effect.Jump target) seen t none = none
stepped_none (effect.Load rd addr width signed) seen t none = from_none (place_of addr width t) rd width signed seen t none
stepped_none (effect.Store addr width value) seen t none = to_none (place_of addr width t) width value t none
stepped_none (effect.CsrRead rd csr) seen t none = read_by_none (register_of csr) rd seen t none
stepped_none (effect.CsrWrite rd csr value) seen t none = write_by_none (register_of csr) rd value seen t none
stepped_none (effect.Trap why) seen t none = tt

turned_none : (s : ThreadState) (e : Effect) (seen : Sight) (t : Thread) → t.state ≡ s → LeavesNone (turned_by s e seen t)
turned_none state.Run e seen t is = stepped_none e seen t (subst HasNone (sym is) tt)
turned_none (state.Wait waits) e seen t is = tt
turned_none (state.Idle vote) e seen t is = tt
turned_none (state.Answered value) e seen t is = tt
turned_none (state.Dead value) e seen t is = subst HasNone (sym is) tt
turned_none (state.Trapped why) e seen t is = subst HasNone (sym is) tt

-- A dispatch.

handed_none : (first : Option ℕ) (t : Thread) → HasNone t.state → LeavesNone (handed first t)
handed_none None t none = tt
handed_none (Some slot) t none = none

sent_off_none : (to : Dest) (seen : Sight) (t : Thread) → HasNone t.state → LeavesNone (sent_off to seen t)
sent_off_none to seen t none = cond_both seen.can_send _ _ (λ s. LeavesNone s) (λ e. none) (λ e. tt)

sent_by_none : (key : Option ℕ) (seen : Sight) (t : Thread) → HasNone t.state → LeavesNone (sent_by key seen t)
sent_by_none None seen t none = none
sent_by_none (Some key) seen t none = sent_off_none (dest.Key key) seen t none

given_up_none : (slot : ℕ) (seen : Sight) (t : Thread) → HasNone t.state → LeavesNone (given_up slot seen t)
given_up_none slot seen t none = cond_both (is_some (seen.held slot)) _ _ (λ s. LeavesNone s) (λ e. none) (λ e. tt)

command_none : (c : Command) (seen : Sight) (t : Thread) → HasNone t.state → LeavesNone (commanded c seen t)
command_none (command.Enter entry regs) seen t none = none
command_none command.Recv seen t none = handed_none seen.first t none
command_none (command.KeySend key) seen t none = sent_by_none key seen t none
command_none command.HostSend seen t none = sent_off_none dest.Host seen t none
command_none (command.Free slot) seen t none = given_up_none slot seen t none
command_none (command.Wait waits) seen t none = tt
command_none (command.Idle vote) seen t none = tt
command_none command.Kill seen t none = tt
command_none (command.Trap why) seen t none = tt

-- a thread at which a dispatch is due runs
due_none : (s : ThreadState) (code : List (Option Instr)) (t : Thread) (m : SwitchModel) → Some m ≡ due_by s code t → HasNone s
due_none state.Run code t m e = tt
due_none (state.Wait waits) code t m e = tt
due_none (state.Idle vote) code t m e = tt
due_none (state.Answered value) code t m e = cc e
due_none (state.Dead value) code t m e = tt
due_none (state.Trapped why) code t m e = tt

step_none : (due : Option SwitchModel) (code : List (Option Instr)) (seen : Sight) (t : Thread) → due ≡ due_by t.state code t → LeavesNone (step_by due code seen t)
step_none None code seen t e = let f : Fetched = fetched_by t.state code t in turned_none f.thread.state f.effect seen f.thread refl
step_none (Some s) code seen t e =
    let d : Dispatched = dispatched (view_of seen t) s in
    let now : Thread = record t { switch = Some d.switch } in
    command_none (command_of d.action now) seen now (due_none t.state code t s e)

pub next_none : (code : List (Option Instr)) (seen : Sight) (t : Thread) → HasNone (next_step code seen t).thread.state
next_none code seen t = step_none (due_by t.state code t) code seen t refl
