-- A handler of a thread with firmware runs on, unless it traps.
use Rattle.std.proofs.Common.{ℕ, ◌≡◌, ◌/◌, ◌&&◌, Bool, cond, not, true, false, List, refl, ap, subst, sym, Option, Some, None, slice_get}
use Rattle.std.proofs.lemmas.Bool.{cond_both}
use Rattle.rv_isa.specs.declared.instr.Instr.{Instr}
use Rattle.rv_exec.specs.Exec.{regs_after, step_at}
use Rattle.tn_base.specs.declared.effect.Effect.{Effect}
use Rattle.tn_base.specs.declared.effect.Effect.TheVariants as effect
use Rattle.tn_base.specs.declared.event.Trap.{Trap}
use Rattle.tn_base.specs.declared.event.Trap.TheVariants as trap
use Rattle.tn_thread.specs.declared.place.Place.{Place}
use Rattle.tn_thread.specs.declared.place.Place.TheVariants as place
use Rattle.tn_thread.specs.declared.register.Register.{Register}
use Rattle.tn_thread.specs.declared.register.Register.TheVariants as register
use Rattle.tn_thread.specs.declared.state.ThreadState.TheVariants as state
use Rattle.tn_thread.specs.declared.thread.Thread.{Thread}
use Rattle.tn_thread.specs.Registers.{may_write, register_of}
use Rattle.tn_thread.specs.Sight.{Sight}
use Rattle.tn_thread.specs.Step.{Stepped, loaded_from, loaded_message, place_of, read_by, stepped, stored_to, trapped, turned_by, write_by}
use Rattle.tn_base.specs.declared.op.Op.{Op}
use Rattle.tn_base.specs.declared.op.Op.TheVariants as op
use Rattle.tn_tile.specs.Step.{fetched_at, step_by}

-- the thread runs and has no answer, or it trapped
abbrev pub RunsBy : Op → Thread → Type 0
RunsBy op.None t = (t.state ≡ state.Run) × (t.given ≡ 0)
RunsBy (op.Send to bytes) t = ⊥
RunsBy op.Hand t = ⊥
RunsBy (op.Free slot) t = ⊥
RunsBy (op.Idle vote) t = ⊥
RunsBy (op.Kill value) t = ⊥
RunsBy (op.Trap why) t = t.state ≡ state.Trapped why

abbrev pub RunsOn : Stepped → Type 0
RunsOn r = RunsBy r.op r.thread

trap_leaves : (why : Trap) (t : Thread) → RunsOn (trapped why t)
trap_leaves why t = refl

message_leaves : (message : Option (List ℕ)) (rd width : ℕ) (signed : Bool) (at : ℕ) (t : Thread) → t.state ≡ state.Run → RunsOn (loaded_message message rd width signed at t)
message_leaves None rd width signed at t is = trap_leaves trap.BadAddress t
message_leaves (Some message) rd width signed at t is = (is, refl)

from_leaves : (from : Place) (rd width : ℕ) (signed : Bool) (seen : Sight) (t : Thread) → t.state ≡ state.Run → RunsOn (loaded_from from rd width signed seen t)
from_leaves (place.Private at) rd width signed seen t is = (is, refl)
from_leaves (place.SendSlot at) rd width signed seen t is = (is, refl)
from_leaves (place.Received slot at) rd width signed seen t is = message_leaves (seen.held slot) rd width signed at t is
from_leaves place.Misaligned rd width signed seen t is = trap_leaves trap.Misaligned t
from_leaves place.Nowhere rd width signed seen t is = trap_leaves trap.BadAddress t

to_leaves : (to : Place) (width value : ℕ) (t : Thread) → t.state ≡ state.Run → RunsOn (stored_to to width value t)
to_leaves (place.Private at) width value t is = (is, refl)
to_leaves (place.SendSlot at) width value t is = (is, refl)
to_leaves (place.Received slot at) width value t is = trap_leaves trap.BadAddress t
to_leaves place.Misaligned width value t is = trap_leaves trap.Misaligned t
to_leaves place.Nowhere width value t is = trap_leaves trap.BadAddress t

-- a choice whose condition is known
leaves_first : (b : Bool) (x y : Stepped) (t : Thread) → b ≡ true → RunsOn x → RunsOn (cond b x y)
leaves_first true x y t e l = l
leaves_first false x y t e l = cc e

leaves_second : (b : Bool) (x y : Stepped) (t : Thread) → b ≡ false → RunsOn y → RunsOn (cond b x y)
leaves_second true x y t e l = cc e
leaves_second false x y t e l = l

-- of the control registers only those that ask nothing may be read, and none may be written
read_leaves : (r : Register) (rd : ℕ) (seen : Sight) (t : Thread) → t.state ≡ state.Run → t.firmware ≡ true → RunsOn (read_by (Some r) rd seen t)
read_leaves register.HartId rd seen t is h = cond_both (t.firmware && false) _ _ (λ s. RunsOn s) (λ e. trap_leaves trap.BadCsr t) (λ e. (is, refl))
read_leaves register.CanSend rd seen t is h = leaves_first (t.firmware && true) _ _ t (ap (λ b. b && true) h) (trap_leaves trap.BadCsr t)
read_leaves register.CanRecv rd seen t is h = leaves_first (t.firmware && true) _ _ t (ap (λ b. b && true) h) (trap_leaves trap.BadCsr t)
read_leaves register.SendLen rd seen t is h = leaves_first (t.firmware && true) _ _ t (ap (λ b. b && true) h) (trap_leaves trap.BadCsr t)
read_leaves register.SendDest rd seen t is h = leaves_first (t.firmware && true) _ _ t (ap (λ b. b && true) h) (trap_leaves trap.BadCsr t)
read_leaves register.MaskLow rd seen t is h = leaves_first (t.firmware && true) _ _ t (ap (λ b. b && true) h) (trap_leaves trap.BadCsr t)
read_leaves register.MaskHigh rd seen t is h = leaves_first (t.firmware && true) _ _ t (ap (λ b. b && true) h) (trap_leaves trap.BadCsr t)
read_leaves register.Send rd seen t is h = leaves_first (t.firmware && true) _ _ t (ap (λ b. b && true) h) (trap_leaves trap.BadCsr t)
read_leaves register.Recv rd seen t is h = leaves_first (t.firmware && true) _ _ t (ap (λ b. b && true) h) (trap_leaves trap.BadCsr t)
read_leaves register.Free rd seen t is h = leaves_first (t.firmware && true) _ _ t (ap (λ b. b && true) h) (trap_leaves trap.BadCsr t)
read_leaves register.WaitUntil rd seen t is h = leaves_first (t.firmware && true) _ _ t (ap (λ b. b && true) h) (trap_leaves trap.BadCsr t)
read_leaves register.Idle rd seen t is h = leaves_first (t.firmware && true) _ _ t (ap (λ b. b && true) h) (trap_leaves trap.BadCsr t)
read_leaves register.Kill rd seen t is h = leaves_first (t.firmware && true) _ _ t (ap (λ b. b && true) h) (trap_leaves trap.BadCsr t)
read_leaves register.SendSlot rd seen t is h = cond_both (t.firmware && false) _ _ (λ s. RunsOn s) (λ e. trap_leaves trap.BadCsr t) (λ e. (is, refl))

read_by_leaves : (r : Option Register) (rd : ℕ) (seen : Sight) (t : Thread) → t.state ≡ state.Run → t.firmware ≡ true → RunsOn (read_by r rd seen t)
read_by_leaves None rd seen t is h = trap_leaves trap.BadCsr t
read_by_leaves (Some r) rd seen t is h = read_leaves r rd seen t is h

write_leaves : (r : Option Register) (rd value : ℕ) (seen : Sight) (t : Thread) → t.state ≡ state.Run → t.firmware ≡ true → RunsOn (write_by r rd value seen t)
write_leaves None rd value seen t is h = trap_leaves trap.BadCsr t
write_leaves (Some r) rd value seen t is h = leaves_second (not t.firmware && may_write r rd) _ _ t (ap (λ b. not b && may_write r rd) h) (trap_leaves trap.BadCsr t)

stepped_leaves : (e : Effect) (seen : Sight) (t : Thread) → t.state ≡ state.Run → t.firmware ≡ true → RunsOn (stepped e seen t)
stepped_leaves effect.Next seen t is h = (is, refl)
stepped_leaves (effect.Jump target) seen t is h = (is, refl)
stepped_leaves (effect.Load rd addr width signed) seen t is h = from_leaves (place_of addr width t) rd width signed seen t is
stepped_leaves (effect.Store addr width value) seen t is h = to_leaves (place_of addr width t) width value t is
stepped_leaves (effect.CsrRead rd csr) seen t is h = read_by_leaves (register_of csr) rd seen t is h
stepped_leaves (effect.CsrWrite rd csr value) seen t is h = write_leaves (register_of csr) rd value seen t is h
stepped_leaves (effect.Trap why) seen t is h = trap_leaves why t

-- what an instruction writes to the registers before
at_leaves : (o : Option (Option Instr)) (seen : Sight) (t : Thread) → t.state ≡ state.Run → t.firmware ≡ true → let f = fetched_at o t in RunsOn (stepped f.effect seen f.thread)
at_leaves None seen t is h = stepped_leaves (effect.Trap trap.BadFetch) seen t is h
at_leaves (Some None) seen t is h = stepped_leaves (effect.Trap trap.BadInstr) seen t is h
at_leaves (Some (Some i)) seen t is h =
    let u : Thread = record t { regs = regs_after (step_at i t.pc t.regs).written i.rd t.regs } in
    stepped_leaves (step_at i t.pc t.regs).effect seen u is h

-- the thread, running
abbrev pub running : Thread → Thread
running t = record t { state = state.Run }

turned_is : (o : Option (Option Instr)) (seen : Sight) (t : Thread) → let f = fetched_at o (running t) in turned_by f.thread.state f.effect seen f.thread ≡ stepped f.effect seen f.thread
turned_is None seen t = refl
turned_is (Some None) seen t = refl
turned_is (Some (Some i)) seen t = refl

-- a thread that runs, and at which no dispatch is due, runs on or traps
pub handler_runs : (code : List (Option Instr)) (seen : Sight) (t : Thread) → t.firmware ≡ true → RunsOn (step_by None code seen (running t))
handler_runs code seen t h = subst RunsOn (sym (turned_is (slice_get code (t.pc / 4)) seen t)) (at_leaves (slice_get code (t.pc / 4)) seen (running t) refl h)
