-- A thread of a graph's job that waits, waits for room to send.
use Rattle.std.proofs.Common.{ℕ, ◌≡◌, ◌/◌, ◌%◌, ◌&&◌, Bool, cond, not, true, false, List, refl, ap, ◌∙◌, Option, Some, None, is_some, slice_get}
use Rattle.std.specs.Prelude.{bit_and}
use Rattle.std.proofs.lemmas.Bool.{cond_both}
use Rattle.polite_switch.specs.declared.action.Action.{Action}
use Rattle.polite_switch.specs.declared.action.Action.TheVariants as action
use Rattle.polite_switch.specs.declared.action.SwitchView.{SwitchView}
use Rattle.polite_switch.specs.declared.row.Row.{Row}
use Rattle.polite_switch.specs.declared.row.Row.TheVariants as row
use Rattle.polite_switch.specs.SwitchModel.{SwitchModel}
use Rattle.polite_switch.specs.Table.{dispatched, done, fault_of, row_of, taken, unless_fault}
use Rattle.rv_isa.specs.declared.instr.Instr.{Instr}
use Rattle.rv_exec.specs.Exec.{regs_after, step_at}
use Rattle.tn_base.specs.declared.effect.Effect.{Effect}
use Rattle.tn_base.specs.declared.effect.Effect.TheVariants as effect
use Rattle.tn_base.specs.declared.event.Trap.{Trap}
use Rattle.tn_base.specs.declared.event.Trap.TheVariants as trap
use Rattle.tn_base.specs.declared.message.Dest.{Dest}
use Rattle.tn_base.specs.declared.message.Dest.TheVariants as dest
use Rattle.tn_thread.specs.declared.place.Place.{Place}
use Rattle.tn_thread.specs.declared.place.Place.TheVariants as place
use Rattle.tn_thread.specs.declared.register.Register.{Register}
use Rattle.tn_thread.specs.declared.register.Register.TheVariants as register
use Rattle.tn_thread.specs.declared.state.ThreadState.{ThreadState}
use Rattle.tn_thread.specs.declared.state.ThreadState.TheVariants as state
use Rattle.tn_thread.specs.declared.thread.Thread.{Thread}
use Rattle.tn_thread.specs.Command.{handed, sent_by, sent_off}
use Rattle.tn_thread.specs.Dispatch.{does, view_of}
use Rattle.tn_thread.specs.Registers.{is_open, may_write, register_of}
use Rattle.tn_thread.specs.Sight.{Sight}
use Rattle.tn_thread.specs.Step.{Stepped, loaded_from, loaded_message, place_of, read_by, read_row, received, resumed_by, runnable, stepped, stored_to, trapped, turned_by, write_by}
use Rattle.tn_tile.specs.Step.{due_by, fetched_at, fetched_by, next_step, step_by}
use Rattle.tn_tile.proofs.Moved.{next_fits}

-- a thread in this state waits for room to send, if it waits
abbrev pub WaitsWell : ThreadState → Type 0
WaitsWell state.Run = Unit {0}
WaitsWell (state.Wait waits) = bit_and waits.0 1 ≡ 1
WaitsWell (state.Idle vote) = Unit {0}
WaitsWell (state.Answered value) = Unit {0}
WaitsWell (state.Dead value) = Unit {0}
WaitsWell (state.Trapped why) = Unit {0}

-- a thread with firmware, which waits so
pub record Waits (t : Thread) : Type 0 where
  pub firmware : t.firmware ≡ true
  pub waits : WaitsWell t.state

-- a step keeps this
abbrev Well : Thread → Stepped → Type 0
Well t r = WaitsWell t.state → WaitsWell r.thread.state

-- ---- outside of dispatches

trap_well : (why : Trap) (t : Thread) → Well t (trapped why t)
trap_well why t w = tt

message_well : (message : Option (List ℕ)) (rd width : ℕ) (signed : Bool) (at : ℕ) (t : Thread) → Well t (loaded_message message rd width signed at t)
message_well None rd width signed at t w = tt
message_well (Some message) rd width signed at t w = w

from_well : (from : Place) (rd width : ℕ) (signed : Bool) (seen : Sight) (t : Thread) → Well t (loaded_from from rd width signed seen t)
from_well (place.Private at) rd width signed seen t w = w
from_well (place.SendSlot at) rd width signed seen t w = w
from_well (place.Received slot at) rd width signed seen t w = message_well (seen.held slot) rd width signed at t w
from_well place.Misaligned rd width signed seen t w = tt
from_well place.Nowhere rd width signed seen t w = tt

to_well : (to : Place) (width value : ℕ) (t : Thread) → Well t (stored_to to width value t)
to_well (place.Private at) width value t w = w
to_well (place.SendSlot at) width value t w = w
to_well (place.Received slot at) width value t w = tt
to_well place.Misaligned width value t w = tt
to_well place.Nowhere width value t w = tt

received_well : (first : Option ℕ) (rd : ℕ) (t : Thread) → Well t (received first rd t)
received_well None rd t w = tt
received_well (Some slot) rd t w = w

row_well : (r : Register) (rd : ℕ) (seen : Sight) (t : Thread) → Well t (read_row r rd seen t)
row_well register.HartId rd seen t w = w
row_well register.CanSend rd seen t w = w
row_well register.CanRecv rd seen t w = w
row_well register.SendLen rd seen t w = tt
row_well register.SendDest rd seen t w = tt
row_well register.MaskLow rd seen t w = tt
row_well register.MaskHigh rd seen t w = tt
row_well register.Send rd seen t w = tt
row_well register.Recv rd seen t w = received_well seen.first rd t w
row_well register.Free rd seen t w = tt
row_well register.WaitUntil rd seen t w = tt
row_well register.Idle rd seen t w = tt
row_well register.Kill rd seen t w = tt
row_well register.SendSlot rd seen t w = w

read_well : (r : Option Register) (rd : ℕ) (seen : Sight) (t : Thread) → Well t (read_by r rd seen t)
read_well None rd seen t = trap_well trap.BadCsr t
read_well (Some r) rd seen t = cond_both (t.firmware && not (is_open r)) _ _ (λ s. Well t s) (λ e. trap_well trap.BadCsr t) (λ e. row_well r rd seen t)

-- a choice whose condition is known
second_well : (b : Bool) (x y : Stepped) (t : Thread) → b ≡ false → Well t y → Well t (cond b x y)
second_well true x y t e l = cc e
second_well false x y t e l = l

write_well : (r : Option Register) (rd value : ℕ) (seen : Sight) (t : Thread) → t.firmware ≡ true → Well t (write_by r rd value seen t)
write_well None rd value seen t h = trap_well trap.BadCsr t
write_well (Some r) rd value seen t h = second_well (not t.firmware && may_write r rd) _ _ t (ap (λ b. not b && may_write r rd) h) (trap_well trap.BadCsr t)

stepped_well : (e : Effect) (seen : Sight) (t : Thread) → t.firmware ≡ true → Well t (stepped e seen t)
stepped_well effect.Next seen t h = λ w. w
stepped_well (effect.Jump target) seen t h = λ w. w
stepped_well (effect.Load rd addr width signed) seen t h = from_well (place_of addr width t) rd width signed seen t
stepped_well (effect.Store addr width value) seen t h = to_well (place_of addr width t) width value t
stepped_well (effect.CsrRead rd csr) seen t h = read_well (register_of csr) rd seen t
stepped_well (effect.CsrWrite rd csr value) seen t h = write_well (register_of csr) rd value seen t h
stepped_well (effect.Trap why) seen t h = trap_well why t

resumed_well : (s : ThreadState) (t : Thread) → Well t (resumed_by s t)
resumed_well state.Run t w = w
resumed_well (state.Wait waits) t w = tt
resumed_well (state.Idle vote) t w = tt
resumed_well (state.Answered value) t w = tt
resumed_well (state.Dead value) t w = w
resumed_well (state.Trapped why) t w = w

turned_well : (s : ThreadState) (e : Effect) (seen : Sight) (t : Thread) → t.firmware ≡ true → Well t (turned_by s e seen t)
turned_well state.Run e seen t h = stepped_well e seen t h
turned_well (state.Wait waits) e seen t h = resumed_well (state.Wait waits) t
turned_well (state.Idle vote) e seen t h = resumed_well (state.Idle vote) t
turned_well (state.Answered value) e seen t h = resumed_well (state.Answered value) t
turned_well (state.Dead value) e seen t h = resumed_well (state.Dead value) t
turned_well (state.Trapped why) e seen t h = resumed_well (state.Trapped why) t

-- what an instruction writes to the registers before
at_well : (o : Option (Option Instr)) (seen : Sight) (t : Thread) → t.firmware ≡ true → let f = fetched_at o t in Well t (turned_by f.thread.state f.effect seen f.thread)
at_well None seen t h = turned_well t.state (effect.Trap trap.BadFetch) seen t h
at_well (Some None) seen t h = turned_well t.state (effect.Trap trap.BadInstr) seen t h
at_well (Some (Some i)) seen t h =
    let u : Thread = record t { regs = regs_after (step_at i t.pc t.regs).written i.rd t.regs } in
    turned_well t.state (step_at i t.pc t.regs).effect seen u h

by_well : (s : ThreadState) (code : List (Option Instr)) (seen : Sight) (t : Thread) → t.firmware ≡ true → let f = fetched_by s code t in Well t (turned_by f.thread.state f.effect seen f.thread)
by_well state.Run code seen t h = at_well (slice_get code (t.pc / 4)) seen t h
by_well (state.Wait waits) code seen t h = turned_well t.state effect.Next seen t h
by_well (state.Idle vote) code seen t h = turned_well t.state effect.Next seen t h
by_well (state.Answered value) code seen t h = turned_well t.state effect.Next seen t h
by_well (state.Dead value) code seen t h = turned_well t.state effect.Next seen t h
by_well (state.Trapped why) code seen t h = turned_well t.state effect.Next seen t h

-- ---- dispatches

-- an action waits for room to send, if it waits
abbrev ActionWaits : Action → Type 0
ActionWaits (action.Handler entry state message value vertex ready) = Unit {0}
ActionWaits action.Recv = Unit {0}
ActionWaits (action.KeySend key) = Unit {0}
ActionWaits action.HostSend = Unit {0}
ActionWaits action.Free = Unit {0}
ActionWaits (action.Wait waits) = bit_and (waits % 4) 1 ≡ 1
ActionWaits (action.Idle vote) = Unit {0}
ActionWaits action.Kill = Unit {0}
ActionWaits (action.Trap why) = Unit {0}

row_waits : (r : Row) (v : SwitchView) (s : SwitchModel) → ActionWaits (done r v s).action
row_waits row.KeySend v s = tt
row_waits row.HostSend v s = tt
row_waits row.HostWait v s = refl
row_waits row.Init v s = tt
row_waits row.Recv v s = tt
row_waits row.Free v s = tt
row_waits row.Step v s = tt
row_waits row.Finish v s = tt
row_waits row.Kill v s = tt
row_waits row.Take v s = tt
row_waits row.Send v s = tt
row_waits row.Wait v s = refl
row_waits row.Idle v s = tt

dispatch_waits : (o : Option Trap) (v : SwitchView) (s : SwitchModel) → ActionWaits (unless_fault o v s).action
dispatch_waits None v s = row_waits (row_of v (taken v s)) v (taken v s)
dispatch_waits (Some why) v s = tt

either_well : (t : Thread) (b : Bool) (x y : Stepped) → Well t x → Well t y → Well t (cond b x y)
either_well t true x y f g = f
either_well t false x y f g = g

hand_well : (o : Option ℕ) (t : Thread) → Well t (handed o t)
hand_well None t w = tt
hand_well (Some slot) t w = w

off_well : (to : Dest) (seen : Sight) (t : Thread) → Well t (sent_off to seen t)
off_well to seen t = either_well t seen.can_send _ _ (λ w. w) (λ w. tt)

key_well : (key : Option ℕ) (seen : Sight) (t : Thread) → Well t (sent_by key seen t)
key_well None seen t w = w
key_well (Some key) seen t w = off_well (dest.Key key) seen t w

does_well : (a : Action) (seen : Sight) (t : Thread) → ActionWaits a → Well t (does a seen t)
does_well (action.Handler entry state message value vertex ready) seen t f w = w
does_well action.Recv seen t f w = hand_well seen.first t w
does_well (action.KeySend key) seen t f w = key_well key seen t w
does_well action.HostSend seen t f w = off_well dest.Host seen t w
does_well action.Free seen t f w = either_well t (is_some (seen.held t.hand)) _ _ (λ x. x) (λ x. tt) w
does_well (action.Wait waits) seen t f w = f
does_well (action.Idle vote) seen t f w = tt
does_well action.Kill seen t f w = tt
does_well (action.Trap why) seen t f w = tt

-- ---- a step

step_well : (o : Option SwitchModel) (code : List (Option Instr)) (seen : Sight) (t : Thread) → t.firmware ≡ true → Well t (step_by o code seen t)
step_well None code seen t h = by_well t.state code seen t h
step_well (Some s) code seen t h =
    let v : SwitchView = view_of seen t in
    does_well (dispatched v s).action seen (record t { switch = Some (dispatched v s).switch }) (dispatch_waits (fault_of v s) v s)

pub next_waits : (code : List (Option Instr)) (seen : Sight) (t : Thread) → runnable seen t.state ≡ true → Waits t → Waits (next_step code seen t).thread
next_waits code seen t runs f = record {
  firmware = (next_fits code seen t runs).keeps.firmware ∙ f.firmware;
  waits = step_well (due_by t.state code t) code seen t f.firmware f.waits;
}
