-- A step of a thread counts at most one send, and it counts a step if it counts a send.
use Rattle.std.proofs.Common.{ℕ, ◌≡◌, ◌≤◌, ◌-◌, ◌%◌, ◌&&◌, Bool, not, List, refl, inl, inr, arith, nat_eq, Option, Some, None, is_some}
use Rattle.std.proofs.lemmas.Bool.{cond_both}
use Rattle.rv_isa.specs.declared.instr.Instr.{Instr}
use Rattle.tn_base.specs.Message.{has_dest}
use Rattle.tn_base.specs.declared.message.Dest.{Dest}
use Rattle.tn_base.specs.declared.message.Dest.TheVariants as dest
use Rattle.tn_base.specs.declared.effect.Effect.{Effect}
use Rattle.tn_base.specs.declared.effect.Effect.TheVariants as effect
use Rattle.polite_switch.specs.SwitchModel.{SwitchModel}
use Rattle.polite_switch.specs.Table.{Dispatched, dispatched}
use Rattle.tn_thread.specs.declared.command.Command.{Command}
use Rattle.tn_thread.specs.declared.command.Command.TheVariants as command
use Rattle.tn_thread.specs.declared.place.Place.{Place}
use Rattle.tn_thread.specs.declared.place.Place.TheVariants as place
use Rattle.tn_thread.specs.declared.register.Register.{Register}
use Rattle.tn_thread.specs.declared.register.Register.TheVariants as register
use Rattle.tn_thread.specs.declared.state.ThreadState.{ThreadState}
use Rattle.tn_thread.specs.declared.state.ThreadState.TheVariants as state
use Rattle.tn_thread.specs.declared.thread.Thread.{Thread}
use Rattle.tn_thread.specs.Command.{commanded, given_up, handed, sent_by, sent_off}
use Rattle.tn_thread.specs.Dispatch.{command_of, view_of}
use Rattle.tn_thread.specs.Registers.{is_open, may_write, register_of}
use Rattle.tn_thread.specs.Sight.{Sight}
use Rattle.tn_thread.specs.Step.{Stepped, dest_of, freed, is_received, loaded_from, loaded_message, place_of, read_by, read_row, received, sent, sent_to, slot_at, slot_size, stepped, stored_to, turned_by, write_by, write_row}
use Rattle.tn_tile.specs.Step.{Fetched, due_by, fetched_at, fetched_by, next_step, step_by}
use Rattle.tn_order.specs.Numbers.{IsNoSend, Counts}

-- a step that asks for no send, and one that counts a send
none : (t : Thread) (r : Stepped) → r.thread.sends ≡ t.sends → t.steps ≤ r.thread.steps → IsNoSend r.op → Counts t r
none t r a b c = inl (a, b, c)

message_counts : (message : Option (List ℕ)) (rd width : ℕ) (signed : Bool) (at : ℕ) (t : Thread) → Counts t (loaded_message message rd width signed at t)
message_counts None rd width signed at t = inl (refl, omega arith, tt)
message_counts (Some message) rd width signed at t = inl (refl, omega arith, tt)

from_counts : (from : Place) (rd width : ℕ) (signed : Bool) (seen : Sight) (t : Thread) → Counts t (loaded_from from rd width signed seen t)
from_counts (place.Private at) rd width signed seen t = inl (refl, omega arith, tt)
from_counts (place.SendSlot at) rd width signed seen t = inl (refl, omega arith, tt)
from_counts (place.Received slot at) rd width signed seen t = message_counts (seen.held slot) rd width signed at t
from_counts place.Misaligned rd width signed seen t = inl (refl, omega arith, tt)
from_counts place.Nowhere rd width signed seen t = inl (refl, omega arith, tt)

to_counts : (to : Place) (width value : ℕ) (t : Thread) → Counts t (stored_to to width value t)
to_counts (place.Private at) width value t = inl (refl, omega arith, tt)
to_counts (place.SendSlot at) width value t = inl (refl, omega arith, tt)
to_counts (place.Received slot at) width value t = inl (refl, omega arith, tt)
to_counts place.Misaligned width value t = inl (refl, omega arith, tt)
to_counts place.Nowhere width value t = inl (refl, omega arith, tt)

received_counts : (first : Option ℕ) (rd : ℕ) (t : Thread) → Counts t (received first rd t)
received_counts None rd t = inl (refl, omega arith, tt)
received_counts (Some slot) rd t = inl (refl, omega arith, tt)

read_counts : (r : Register) (rd : ℕ) (seen : Sight) (t : Thread) → Counts t (read_row r rd seen t)
read_counts register.HartId rd seen t = inl (refl, omega arith, tt)
read_counts register.CanSend rd seen t = inl (refl, omega arith, tt)
read_counts register.CanRecv rd seen t = inl (refl, omega arith, tt)
read_counts register.SendLen rd seen t = inl (refl, omega arith, tt)
read_counts register.SendDest rd seen t = inl (refl, omega arith, tt)
read_counts register.MaskLow rd seen t = inl (refl, omega arith, tt)
read_counts register.MaskHigh rd seen t = inl (refl, omega arith, tt)
read_counts register.Send rd seen t = inl (refl, omega arith, tt)
read_counts register.Recv rd seen t = received_counts seen.first rd t
read_counts register.Free rd seen t = inl (refl, omega arith, tt)
read_counts register.WaitUntil rd seen t = inl (refl, omega arith, tt)
read_counts register.Idle rd seen t = inl (refl, omega arith, tt)
read_counts register.Kill rd seen t = inl (refl, omega arith, tt)
read_counts register.SendSlot rd seen t = inl (refl, omega arith, tt)

read_by_counts : (r : Option Register) (rd : ℕ) (seen : Sight) (t : Thread) → Counts t (read_by r rd seen t)
read_by_counts None rd seen t = inl (refl, omega arith, tt)
read_by_counts (Some r) rd seen t = cond_both (t.firmware && not (is_open r)) _ _ (λ s. Counts t s) (λ e. inl (refl, omega arith, tt)) (λ e. read_counts r rd seen t)

sent_to_counts : (to : Option Dest) (t : Thread) → Counts t (sent_to to t)
sent_to_counts None t = inl (refl, omega arith, tt)
sent_to_counts (Some to) t = cond_both (has_dest t.shape to) _ _ (λ s. Counts t s) (λ e. inr (refl, refl)) (λ e. inl (refl, omega arith, tt))

sent_counts : (kind : ℕ) (seen : Sight) (t : Thread) → Counts t (sent kind seen t)
sent_counts kind seen t = cond_both seen.can_send _ _ (λ s. Counts t s) (λ e. sent_to_counts (dest_of kind t) t) (λ e. inl (refl, omega arith, tt))

freed_counts : (addr : ℕ) (seen : Sight) (t : Thread) → Counts t (freed addr seen t)
freed_counts addr seen t =
    cond_both (is_received addr t && nat_eq ((addr - 0x40000000) % slot_size t) 0 && is_some (seen.held (slot_at addr t))) _ _ (λ s. Counts t s) (λ e. inl (refl, omega arith, tt)) (λ e. inl (refl, omega arith, tt))

write_counts : (r : Register) (rd value : ℕ) (seen : Sight) (t : Thread) → Counts t (write_row r rd value seen t)
write_counts register.HartId rd value seen t = inl (refl, omega arith, tt)
write_counts register.CanSend rd value seen t = inl (refl, omega arith, tt)
write_counts register.CanRecv rd value seen t = inl (refl, omega arith, tt)
write_counts register.SendLen rd value seen t = inl (refl, omega arith, tt)
write_counts register.SendDest rd value seen t = inl (refl, omega arith, tt)
write_counts register.MaskLow rd value seen t = inl (refl, omega arith, tt)
write_counts register.MaskHigh rd value seen t = inl (refl, omega arith, tt)
write_counts register.Send rd value seen t = sent_counts value seen t
write_counts register.Recv rd value seen t = inl (refl, omega arith, tt)
write_counts register.Free rd value seen t = freed_counts value seen t
write_counts register.WaitUntil rd value seen t = inl (refl, omega arith, tt)
write_counts register.Idle rd value seen t = inl (refl, omega arith, tt)
write_counts register.Kill rd value seen t = inl (refl, omega arith, tt)
write_counts register.SendSlot rd value seen t = inl (refl, omega arith, tt)

write_by_counts : (r : Option Register) (rd value : ℕ) (seen : Sight) (t : Thread) → Counts t (write_by r rd value seen t)
write_by_counts None rd value seen t = inl (refl, omega arith, tt)
write_by_counts (Some r) rd value seen t = cond_both (not t.firmware && may_write r rd) _ _ (λ s. Counts t s) (λ e. write_counts r rd value seen t) (λ e. inl (refl, omega arith, tt))

stepped_counts : (e : Effect) (seen : Sight) (t : Thread) → Counts t (stepped e seen t)
stepped_counts effect.Next seen t = inl (refl, omega arith, tt)
stepped_counts (effect.Jump target) seen t = inl (refl, omega arith, tt)
stepped_counts (effect.Load rd addr width signed) seen t = from_counts (place_of addr width t) rd width signed seen t
stepped_counts (effect.Store addr width value) seen t = to_counts (place_of addr width t) width value t
stepped_counts (effect.CsrRead rd csr) seen t = read_by_counts (register_of csr) rd seen t
stepped_counts (effect.CsrWrite rd csr value) seen t = write_by_counts (register_of csr) rd value seen t
stepped_counts (effect.Trap why) seen t = inl (refl, omega arith, tt)

turned_counts : (s : ThreadState) (e : Effect) (seen : Sight) (t : Thread) → Counts t (turned_by s e seen t)
turned_counts state.Run e seen t = stepped_counts e seen t
turned_counts (state.Wait waits) e seen t = inl (refl, omega arith, tt)
turned_counts (state.Idle vote) e seen t = inl (refl, omega arith, tt)
turned_counts (state.Answered value) e seen t = inl (refl, omega arith, tt)
turned_counts (state.Dead value) e seen t = inl (refl, omega arith, tt)
turned_counts (state.Trapped why) e seen t = inl (refl, omega arith, tt)

-- A dispatch.

handed_counts : (first : Option ℕ) (t : Thread) → Counts t (handed first t)
handed_counts None t = inl (refl, omega arith, tt)
handed_counts (Some slot) t = inl (refl, omega arith, tt)

sent_off_counts : (to : Dest) (seen : Sight) (t : Thread) → Counts t (sent_off to seen t)
sent_off_counts to seen t = cond_both seen.can_send _ _ (λ s. Counts t s) (λ e. inr (refl, refl)) (λ e. inl (refl, omega arith, tt))

sent_by_counts : (key : Option ℕ) (seen : Sight) (t : Thread) → Counts t (sent_by key seen t)
sent_by_counts None seen t = inl (refl, omega arith, tt)
sent_by_counts (Some key) seen t = sent_off_counts (dest.Key key) seen t

given_up_counts : (slot : ℕ) (seen : Sight) (t : Thread) → Counts t (given_up slot seen t)
given_up_counts slot seen t = cond_both (is_some (seen.held slot)) _ _ (λ s. Counts t s) (λ e. inl (refl, omega arith, tt)) (λ e. inl (refl, omega arith, tt))

command_counts : (c : Command) (seen : Sight) (t : Thread) → Counts t (commanded c seen t)
command_counts (command.Enter entry regs) seen t = inl (refl, omega arith, tt)
command_counts command.Recv seen t = handed_counts seen.first t
command_counts (command.KeySend key) seen t = sent_by_counts key seen t
command_counts command.HostSend seen t = sent_off_counts dest.Host seen t
command_counts (command.Free slot) seen t = given_up_counts slot seen t
command_counts (command.Wait waits) seen t = inl (refl, omega arith, tt)
command_counts (command.Idle vote) seen t = inl (refl, omega arith, tt)
command_counts command.Kill seen t = inl (refl, omega arith, tt)
command_counts (command.Trap why) seen t = inl (refl, omega arith, tt)

-- what is fetched leaves the counts
record Fetches (t : Thread) (f : Fetched) : Type 0 where
  pub sends : f.thread.sends ≡ t.sends
  pub steps : f.thread.steps ≡ t.steps

at_fetches : (o : Option (Option Instr)) (t : Thread) → Fetches t (fetched_at o t)
at_fetches None t = record { sends = refl; steps = refl }
at_fetches (Some None) t = record { sends = refl; steps = refl }
at_fetches (Some (Some i)) t = record { sends = refl; steps = refl }

by_fetches : (s : ThreadState) (code : List (Option Instr)) (t : Thread) → Fetches t (fetched_by s code t)
by_fetches state.Run code t = at_fetches _ t
by_fetches (state.Wait waits) code t = record { sends = refl; steps = refl }
by_fetches (state.Idle vote) code t = record { sends = refl; steps = refl }
by_fetches (state.Answered value) code t = record { sends = refl; steps = refl }
by_fetches (state.Dead value) code t = record { sends = refl; steps = refl }
by_fetches (state.Trapped why) code t = record { sends = refl; steps = refl }

carried : (t u : Thread) (r : Stepped) → u.sends ≡ t.sends → u.steps ≡ t.steps → Counts u r → Counts t r
carried t u r a b (inl c) = inl (grind (arith, c, a), grind (arith, c.1, b), c.2)
carried t u r a b (inr c) = inr (grind (arith, c.0, a), grind (arith, c.1, b))

step_counts : (due : Option SwitchModel) (code : List (Option Instr)) (seen : Sight) (t : Thread) → Counts t (step_by due code seen t)
step_counts None code seen t =
    let f : Fetched = fetched_by t.state code t in
    let is = by_fetches t.state code t in
    carried t f.thread (turned_by f.thread.state f.effect seen f.thread) is.sends is.steps (turned_counts f.thread.state f.effect seen f.thread)
step_counts (Some s) code seen t =
    let d : Dispatched = dispatched (view_of seen t) s in
    let now : Thread = record t { switch = Some d.switch } in
    command_counts (command_of d.action now) seen now

pub next_counts : (code : List (Option Instr)) (seen : Sight) (t : Thread) → Counts t (next_step code seen t)
next_counts code seen t = step_counts (due_by t.state code t) code seen t
