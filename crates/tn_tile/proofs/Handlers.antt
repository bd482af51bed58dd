-- Outside of dispatches a thread of a graph job asks nothing of its tile.
use Rattle.std.proofs.Common.{ℕ, ◌≡◌, ◌/◌, ◌&&◌, Bool, cond, not, true, false, List, refl, ap, subst, sym, Option, Some, None, slice_get}
use Rattle.std.proofs.lemmas.Bool.{cond_both}
use Rattle.rv_isa.specs.declared.instr.Instr.{Instr}
use Rattle.rv_exec.specs.Exec.{regs_after, step_at}
use Rattle.tn_base.specs.declared.effect.Effect.{Effect}
use Rattle.tn_base.specs.declared.effect.Effect.TheVariants as effect
use Rattle.tn_base.specs.declared.event.Trap.{Trap}
use Rattle.tn_base.specs.declared.event.Trap.TheVariants as trap
use Rattle.tn_thread.specs.declared.place.Place.{Place}
use Rattle.tn_thread.specs.declared.place.Place.TheVariants as place
use Rattle.tn_thread.specs.declared.register.Register.{Register}
use Rattle.tn_thread.specs.declared.register.Register.TheVariants as register
use Rattle.tn_thread.specs.declared.state.ThreadState.{ThreadState}
use Rattle.tn_thread.specs.declared.state.ThreadState.TheVariants as state
use Rattle.tn_thread.specs.declared.thread.Thread.{Thread}
use Rattle.tn_thread.specs.Registers.{may_write, register_of}
use Rattle.tn_thread.specs.Sight.{Sight}
use Rattle.tn_thread.specs.Step.{Stepped, loaded_from, loaded_message, place_of, read_by, resumed_by, stepped, stored_to, trapped, turned_by, write_by}
use Rattle.tn_tile.specs.Handlers.{HandlersArePrivate, LeavesSwitch}
use Rattle.tn_tile.specs.Step.{Fetched, due_by, fetched_at, fetched_by, next_step, step_by}

trap_leaves : (why : Trap) (t : Thread) → LeavesSwitch t (trapped why t)
trap_leaves why t = record { asks = tt; switch = refl; hand = refl; sends = refl }

message_leaves : (message : Option (List ℕ)) (rd width : ℕ) (signed : Bool) (at : ℕ) (t : Thread) → LeavesSwitch t (loaded_message message rd width signed at t)
message_leaves None rd width signed at t = trap_leaves trap.BadAddress t
message_leaves (Some message) rd width signed at t = record { asks = tt; switch = refl; hand = refl; sends = refl }

from_leaves : (from : Place) (rd width : ℕ) (signed : Bool) (seen : Sight) (t : Thread) → LeavesSwitch t (loaded_from from rd width signed seen t)
from_leaves (place.Private at) rd width signed seen t = record { asks = tt; switch = refl; hand = refl; sends = refl }
from_leaves (place.SendSlot at) rd width signed seen t = record { asks = tt; switch = refl; hand = refl; sends = refl }
from_leaves (place.Received slot at) rd width signed seen t = message_leaves (seen.held slot) rd width signed at t
from_leaves place.Misaligned rd width signed seen t = trap_leaves trap.Misaligned t
from_leaves place.Nowhere rd width signed seen t = trap_leaves trap.BadAddress t

to_leaves : (to : Place) (width value : ℕ) (t : Thread) → LeavesSwitch t (stored_to to width value t)
to_leaves (place.Private at) width value t = record { asks = tt; switch = refl; hand = refl; sends = refl }
to_leaves (place.SendSlot at) width value t = record { asks = tt; switch = refl; hand = refl; sends = refl }
to_leaves (place.Received slot at) width value t = trap_leaves trap.BadAddress t
to_leaves place.Misaligned width value t = trap_leaves trap.Misaligned t
to_leaves place.Nowhere width value t = trap_leaves trap.BadAddress t

-- a choice whose condition is known
leaves_first : (b : Bool) (x y : Stepped) (t : Thread) → b ≡ true → LeavesSwitch t x → LeavesSwitch t (cond b x y)
leaves_first true x y t e l = l
leaves_first false x y t e l = cc e

leaves_second : (b : Bool) (x y : Stepped) (t : Thread) → b ≡ false → LeavesSwitch t y → LeavesSwitch t (cond b x y)
leaves_second true x y t e l = cc e
leaves_second false x y t e l = l

-- of the control registers only those that ask nothing may be read, and none may be written
read_leaves : (r : Register) (rd : ℕ) (seen : Sight) (t : Thread) → t.firmware ≡ true → LeavesSwitch t (read_by (Some r) rd seen t)
read_leaves register.HartId rd seen t h = cond_both (t.firmware && false) _ _ (λ s. LeavesSwitch t s) (λ e. trap_leaves trap.BadCsr t) (λ e. record { asks = tt; switch = refl; hand = refl; sends = refl })
read_leaves register.CanSend rd seen t h = leaves_first (t.firmware && true) _ _ t (ap (λ b. b && true) h) (trap_leaves trap.BadCsr t)
read_leaves register.CanRecv rd seen t h = leaves_first (t.firmware && true) _ _ t (ap (λ b. b && true) h) (trap_leaves trap.BadCsr t)
read_leaves register.SendLen rd seen t h = leaves_first (t.firmware && true) _ _ t (ap (λ b. b && true) h) (trap_leaves trap.BadCsr t)
read_leaves register.SendDest rd seen t h = leaves_first (t.firmware && true) _ _ t (ap (λ b. b && true) h) (trap_leaves trap.BadCsr t)
read_leaves register.MaskLow rd seen t h = leaves_first (t.firmware && true) _ _ t (ap (λ b. b && true) h) (trap_leaves trap.BadCsr t)
read_leaves register.MaskHigh rd seen t h = leaves_first (t.firmware && true) _ _ t (ap (λ b. b && true) h) (trap_leaves trap.BadCsr t)
read_leaves register.Send rd seen t h = leaves_first (t.firmware && true) _ _ t (ap (λ b. b && true) h) (trap_leaves trap.BadCsr t)
read_leaves register.Recv rd seen t h = leaves_first (t.firmware && true) _ _ t (ap (λ b. b && true) h) (trap_leaves trap.BadCsr t)
read_leaves register.Free rd seen t h = leaves_first (t.firmware && true) _ _ t (ap (λ b. b && true) h) (trap_leaves trap.BadCsr t)
read_leaves register.WaitUntil rd seen t h = leaves_first (t.firmware && true) _ _ t (ap (λ b. b && true) h) (trap_leaves trap.BadCsr t)
read_leaves register.Idle rd seen t h = leaves_first (t.firmware && true) _ _ t (ap (λ b. b && true) h) (trap_leaves trap.BadCsr t)
read_leaves register.Kill rd seen t h = leaves_first (t.firmware && true) _ _ t (ap (λ b. b && true) h) (trap_leaves trap.BadCsr t)
read_leaves register.SendSlot rd seen t h = cond_both (t.firmware && false) _ _ (λ s. LeavesSwitch t s) (λ e. trap_leaves trap.BadCsr t) (λ e. record { asks = tt; switch = refl; hand = refl; sends = refl })

read_by_leaves : (r : Option Register) (rd : ℕ) (seen : Sight) (t : Thread) → t.firmware ≡ true → LeavesSwitch t (read_by r rd seen t)
read_by_leaves None rd seen t h = trap_leaves trap.BadCsr t
read_by_leaves (Some r) rd seen t h = read_leaves r rd seen t h

write_leaves : (r : Option Register) (rd value : ℕ) (seen : Sight) (t : Thread) → t.firmware ≡ true → LeavesSwitch t (write_by r rd value seen t)
write_leaves None rd value seen t h = trap_leaves trap.BadCsr t
write_leaves (Some r) rd value seen t h = leaves_second (not t.firmware && may_write r rd) _ _ t (ap (λ b. not b && may_write r rd) h) (trap_leaves trap.BadCsr t)

stepped_leaves : (e : Effect) (seen : Sight) (t : Thread) → t.firmware ≡ true → LeavesSwitch t (stepped e seen t)
stepped_leaves effect.Next seen t h = record { asks = tt; switch = refl; hand = refl; sends = refl }
stepped_leaves (effect.Jump target) seen t h = record { asks = tt; switch = refl; hand = refl; sends = refl }
stepped_leaves (effect.Load rd addr width signed) seen t h = from_leaves (place_of addr width t) rd width signed seen t
stepped_leaves (effect.Store addr width value) seen t h = to_leaves (place_of addr width t) width value t
stepped_leaves (effect.CsrRead rd csr) seen t h = read_by_leaves (register_of csr) rd seen t h
stepped_leaves (effect.CsrWrite rd csr value) seen t h = write_leaves (register_of csr) rd value seen t h
stepped_leaves (effect.Trap why) seen t h = trap_leaves why t

resumed_leaves : (s : ThreadState) (t : Thread) → LeavesSwitch t (resumed_by s t)
resumed_leaves state.Run t = record { asks = tt; switch = refl; hand = refl; sends = refl }
resumed_leaves (state.Wait waits) t = record { asks = tt; switch = refl; hand = refl; sends = refl }
resumed_leaves (state.Idle vote) t = record { asks = tt; switch = refl; hand = refl; sends = refl }
resumed_leaves (state.Answered value) t = record { asks = tt; switch = refl; hand = refl; sends = refl }
resumed_leaves (state.Dead value) t = record { asks = tt; switch = refl; hand = refl; sends = refl }
resumed_leaves (state.Trapped why) t = record { asks = tt; switch = refl; hand = refl; sends = refl }

turned_leaves : (s : ThreadState) (e : Effect) (seen : Sight) (t : Thread) → t.firmware ≡ true → LeavesSwitch t (turned_by s e seen t)
turned_leaves state.Run e seen t h = stepped_leaves e seen t h
turned_leaves (state.Wait waits) e seen t h = resumed_leaves (state.Wait waits) t
turned_leaves (state.Idle vote) e seen t h = resumed_leaves (state.Idle vote) t
turned_leaves (state.Answered value) e seen t h = resumed_leaves (state.Answered value) t
turned_leaves (state.Dead value) e seen t h = resumed_leaves (state.Dead value) t
turned_leaves (state.Trapped why) e seen t h = resumed_leaves (state.Trapped why) t

-- what an instruction writes to the registers before
at_leaves : (o : Option (Option Instr)) (seen : Sight) (t : Thread) → t.firmware ≡ true → let f = fetched_at o t in LeavesSwitch t (turned_by f.thread.state f.effect seen f.thread)
at_leaves None seen t h = turned_leaves t.state (effect.Trap trap.BadFetch) seen t h
at_leaves (Some None) seen t h = turned_leaves t.state (effect.Trap trap.BadInstr) seen t h
at_leaves (Some (Some i)) seen t h =
    let u : Thread = record t { regs = regs_after (step_at i t.pc t.regs).written i.rd t.regs } in
    let l = turned_leaves t.state (step_at i t.pc t.regs).effect seen u h in
    record { asks = l.asks; switch = l.switch; hand = l.hand; sends = l.sends }

by_leaves : (s : ThreadState) (code : List (Option Instr)) (seen : Sight) (t : Thread) → t.firmware ≡ true → let f = fetched_by s code t in LeavesSwitch t (turned_by f.thread.state f.effect seen f.thread)
by_leaves state.Run code seen t h = at_leaves (slice_get code (t.pc / 4)) seen t h
by_leaves (state.Wait waits) code seen t h = turned_leaves t.state effect.Next seen t h
by_leaves (state.Idle vote) code seen t h = turned_leaves t.state effect.Next seen t h
by_leaves (state.Answered value) code seen t h = turned_leaves t.state effect.Next seen t h
by_leaves (state.Dead value) code seen t h = turned_leaves t.state effect.Next seen t h
by_leaves (state.Trapped why) code seen t h = turned_leaves t.state effect.Next seen t h

pub handlers_private : HandlersArePrivate
handlers_private code seen t h none =
    let step : next_step code seen t ≡ step_by None code seen t = ap (λ d. step_by d code seen t) none in
    subst (LeavesSwitch t) (sym step) (by_leaves t.state code seen t h)
