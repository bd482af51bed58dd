-- Each step keeps what it must, and asks only for what it may.
use Rattle.std.proofs.Common.{ℕ, ◌≡◌, ◌+◌, ◌-◌, ◌*◌, ◌/◌, ◌%◌, ◌&&◌, Bool, true, not, List, length, refl, arith, nat_eq, Option, Some, None, is_some}
use Rattle.std.proofs.Math.ListN.{length-set}
use Rattle.std.proofs.lemmas.List.{length-take}
use Rattle.std.proofs.lemmas.Bool.{cond_both, and_parts}
use Rattle.tn_base.specs.Message.{has_dest}
use Rattle.tn_base.specs.declared.message.Dest.{Dest}
use Rattle.tn_base.specs.declared.event.Trap.{Trap}
use Rattle.tn_base.specs.declared.event.Trap.TheVariants as trap
use Rattle.tn_base.specs.declared.effect.Effect.{Effect}
use Rattle.tn_base.specs.declared.effect.Effect.TheVariants as effect
use Rattle.tn_base.specs.declared.op.Op.TheVariants as op
use Rattle.tn_thread.specs.declared.place.Place.{Place}
use Rattle.tn_thread.specs.declared.place.Place.TheVariants as place
use Rattle.tn_thread.specs.declared.register.Register.{Register}
use Rattle.tn_thread.specs.declared.register.Register.TheVariants as register
use Rattle.tn_thread.specs.declared.state.ThreadState.{ThreadState}
use Rattle.tn_thread.specs.declared.state.ThreadState.TheVariants as state
use Rattle.tn_thread.specs.declared.thread.Thread.{Thread}
use Rattle.tn_pages.specs.Numbers.{value_at, written}
use Rattle.tn_thread.specs.Memory.{extended}
use Rattle.tn_thread.specs.Registers.{is_open, may_write, register_of}
use Rattle.tn_thread.specs.Sight.{Sight}
use Rattle.tn_thread.specs.Step.{completed, dest_of, freed, got, is_received, loaded_from, loaded_message, place_of, read_by, read_row, received, resumed, resumed_by, runnable, sent, sent_to, slot_at, slot_size, stepped, stored_to, trapped, turned_by, write_by, write_row}
use Rattle.tn_thread.specs.Fits.{StepFits}
use Rattle.tn_pages.proofs.Counts.{one_more}

written_long : (bytes : List ℕ) (at width value : ℕ) → length (written bytes at width value) ≡ length bytes
written_long bytes at width value =
    cond_both (nat_eq width 1) _ _ (λ xs. length xs ≡ length bytes) (λ e. simp length-set)
    (λ e. cond_both (nat_eq width 2) _ _ (λ xs. length xs ≡ length bytes) (λ f. simp length-set) (λ f. simp length-set))

pub trapped_fits : (seen : Sight) (t : Thread) (why : Trap) → StepFits seen t (trapped why t)
trapped_fits seen t why = record { keeps = record { id = refl; shape = refl; firmware = refl; mem = refl; out = refl }; steps = refl; pages = omega arith; op = refl }

got_fits : (seen : Sight) (t : Thread) (rd value : ℕ) → StepFits seen t (got rd value op.None t)
got_fits seen t rd value = record { keeps = record { id = refl; shape = refl; firmware = refl; mem = refl; out = refl }; steps = refl; pages = omega arith; op = tt }

message_fits : (message : Option (List ℕ)) (rd width : ℕ) (signed : Bool) (at : ℕ) (seen : Sight) (t : Thread) → StepFits seen t (loaded_message message rd width signed at t)
message_fits None rd width signed at seen t = trapped_fits seen t trap.BadAddress
message_fits (Some message) rd width signed at seen t = got_fits seen t rd (extended width signed (value_at message at width))

from_fits : (from : Place) (rd width : ℕ) (signed : Bool) (seen : Sight) (t : Thread) → StepFits seen t (loaded_from from rd width signed seen t)
from_fits (place.Private at) rd width signed seen t = got_fits seen t rd (extended width signed (value_at t.mem.bytes at width))
from_fits (place.SendSlot at) rd width signed seen t = got_fits seen t rd (extended width signed (value_at t.out.bytes at width))
from_fits (place.Received slot at) rd width signed seen t = message_fits (seen.held slot) rd width signed at seen t
from_fits place.Misaligned rd width signed seen t = trapped_fits seen t trap.Misaligned
from_fits place.Nowhere rd width signed seen t = trapped_fits seen t trap.BadAddress

to_fits : (to : Place) (width value : ℕ) (seen : Sight) (t : Thread) → StepFits seen t (stored_to to width value t)
to_fits (place.Private at) width value seen t = record {
  keeps = record { id = refl; shape = refl; firmware = refl; mem = written_long t.mem.bytes at width value; out = refl };
  steps = refl;
  pages = one_more t.mem.made (at / 256);
  op = tt;
}
to_fits (place.SendSlot at) width value seen t = record {
  keeps = record { id = refl; shape = refl; firmware = refl; mem = refl; out = written_long t.out.bytes at width value };
  steps = refl;
  pages = omega arith;
  op = tt;
}
to_fits (place.Received slot at) width value seen t = trapped_fits seen t trap.BadAddress
to_fits place.Misaligned width value seen t = trapped_fits seen t trap.Misaligned
to_fits place.Nowhere width value seen t = trapped_fits seen t trap.BadAddress

received_fits : (first : Option ℕ) (rd : ℕ) (seen : Sight) (t : Thread) → seen.first ≡ first → StepFits seen t (received first rd t)
received_fits None rd seen t e = trapped_fits seen t trap.RecvEmpty
received_fits (Some slot) rd seen t e = record { keeps = record { id = refl; shape = refl; firmware = refl; mem = refl; out = refl }; steps = refl; pages = omega arith; op = rw e refl }

read_fits : (r : Register) (rd : ℕ) (seen : Sight) (t : Thread) → StepFits seen t (read_row r rd seen t)
read_fits register.HartId rd seen t = got_fits seen t rd _
read_fits register.CanSend rd seen t = got_fits seen t rd _
read_fits register.CanRecv rd seen t = got_fits seen t rd _
read_fits register.SendLen rd seen t = trapped_fits seen t trap.BadCsr
read_fits register.SendDest rd seen t = trapped_fits seen t trap.BadCsr
read_fits register.MaskLow rd seen t = trapped_fits seen t trap.BadCsr
read_fits register.MaskHigh rd seen t = trapped_fits seen t trap.BadCsr
read_fits register.Send rd seen t = trapped_fits seen t trap.BadCsr
read_fits register.Recv rd seen t = received_fits seen.first rd seen t refl
read_fits register.Free rd seen t = trapped_fits seen t trap.BadCsr
read_fits register.WaitUntil rd seen t = trapped_fits seen t trap.BadCsr
read_fits register.Idle rd seen t = trapped_fits seen t trap.BadCsr
read_fits register.Kill rd seen t = trapped_fits seen t trap.BadCsr
read_fits register.SendSlot rd seen t = got_fits seen t rd _

read_by_fits : (r : Option Register) (rd : ℕ) (seen : Sight) (t : Thread) → StepFits seen t (read_by r rd seen t)
read_by_fits None rd seen t = trapped_fits seen t trap.BadCsr
read_by_fits (Some r) rd seen t =
    cond_both (t.firmware && not (is_open r)) _ _ (λ s. StepFits seen t s) (λ e. trapped_fits seen t trap.BadCsr) (λ e. read_fits r rd seen t)

sent_to_fits : (to : Option Dest) (seen : Sight) (t : Thread) → seen.can_send ≡ true → StepFits seen t (sent_to to t)
sent_to_fits None seen t can = trapped_fits seen t trap.BadDest
sent_to_fits (Some to) seen t can =
    cond_both (has_dest t.shape to) _ _ (λ s. StepFits seen t s)
    (λ e. record {
      keeps = record { id = refl; shape = refl; firmware = refl; mem = refl; out = refl };
      steps = refl;
      pages = omega arith;
      op = (can, e, omega (arith, length-take (16 * (t.out.last + 1)) t.out.bytes));
    })
    (λ e. trapped_fits seen t trap.BadDest)

sent_fits : (kind : ℕ) (seen : Sight) (t : Thread) → StepFits seen t (sent kind seen t)
sent_fits kind seen t =
    cond_both seen.can_send _ _ (λ s. StepFits seen t s) (λ e. sent_to_fits (dest_of kind t) seen t e) (λ e. trapped_fits seen t trap.SendBusy)

freed_fits : (addr : ℕ) (seen : Sight) (t : Thread) → StepFits seen t (freed addr seen t)
freed_fits addr seen t =
    cond_both (is_received addr t && nat_eq ((addr - 0x40000000) % slot_size t) 0 && is_some (seen.held (slot_at addr t))) _ _ (λ s. StepFits seen t s)
    (λ e. record {
      keeps = record { id = refl; shape = refl; firmware = refl; mem = refl; out = refl };
      steps = refl;
      pages = omega arith;
      op = (and_parts (is_received addr t && nat_eq ((addr - 0x40000000) % slot_size t) 0) (is_some (seen.held (slot_at addr t))) e).1;
    })
    (λ e. trapped_fits seen t trap.BadFree)

write_fits : (r : Register) (rd value : ℕ) (seen : Sight) (t : Thread) → StepFits seen t (write_row r rd value seen t)
write_fits register.HartId rd value seen t = trapped_fits seen t trap.BadCsr
write_fits register.CanSend rd value seen t = trapped_fits seen t trap.BadCsr
write_fits register.CanRecv rd value seen t = trapped_fits seen t trap.BadCsr
write_fits register.SendLen rd value seen t = record { keeps = record { id = refl; shape = refl; firmware = refl; mem = refl; out = refl }; steps = refl; pages = omega arith; op = tt }
write_fits register.SendDest rd value seen t = record { keeps = record { id = refl; shape = refl; firmware = refl; mem = refl; out = refl }; steps = refl; pages = omega arith; op = tt }
write_fits register.MaskLow rd value seen t = record { keeps = record { id = refl; shape = refl; firmware = refl; mem = refl; out = refl }; steps = refl; pages = omega arith; op = tt }
write_fits register.MaskHigh rd value seen t = record { keeps = record { id = refl; shape = refl; firmware = refl; mem = refl; out = refl }; steps = refl; pages = omega arith; op = tt }
write_fits register.Send rd value seen t = sent_fits value seen t
write_fits register.Recv rd value seen t = trapped_fits seen t trap.BadCsr
write_fits register.Free rd value seen t = freed_fits value seen t
write_fits register.WaitUntil rd value seen t = record { keeps = record { id = refl; shape = refl; firmware = refl; mem = refl; out = refl }; steps = refl; pages = omega arith; op = tt }
write_fits register.Idle rd value seen t = record { keeps = record { id = refl; shape = refl; firmware = refl; mem = refl; out = refl }; steps = refl; pages = omega arith; op = refl }
write_fits register.Kill rd value seen t = record { keeps = record { id = refl; shape = refl; firmware = refl; mem = refl; out = refl }; steps = refl; pages = omega arith; op = refl }
write_fits register.SendSlot rd value seen t = trapped_fits seen t trap.BadCsr

write_by_fits : (r : Option Register) (rd value : ℕ) (seen : Sight) (t : Thread) → StepFits seen t (write_by r rd value seen t)
write_by_fits None rd value seen t = trapped_fits seen t trap.BadCsr
write_by_fits (Some r) rd value seen t =
    cond_both (not t.firmware && may_write r rd) _ _ (λ s. StepFits seen t s) (λ e. write_fits r rd value seen t) (λ e. trapped_fits seen t trap.BadCsr)

pub stepped_fits : (e : Effect) (seen : Sight) (t : Thread) → StepFits seen t (stepped e seen t)
stepped_fits effect.Next seen t = record { keeps = record { id = refl; shape = refl; firmware = refl; mem = refl; out = refl }; steps = refl; pages = omega arith; op = tt }
stepped_fits (effect.Jump target) seen t = record { keeps = record { id = refl; shape = refl; firmware = refl; mem = refl; out = refl }; steps = refl; pages = omega arith; op = tt }
stepped_fits (effect.Load rd addr width signed) seen t = from_fits (place_of addr width t) rd width signed seen t
stepped_fits (effect.Store addr width value) seen t = to_fits (place_of addr width t) width value seen t
stepped_fits (effect.CsrRead rd csr) seen t = read_by_fits (register_of csr) rd seen t
stepped_fits (effect.CsrWrite rd csr value) seen t = write_by_fits (register_of csr) rd value seen t
stepped_fits (effect.Trap why) seen t = trapped_fits seen t why

completed_fits : (value : ℕ) (seen : Sight) (t : Thread) → StepFits seen t (completed value t)
completed_fits value seen t = record { keeps = record { id = refl; shape = refl; firmware = refl; mem = refl; out = refl }; steps = refl; pages = omega arith; op = tt }

resumed_by_fits : (s : ThreadState) (seen : Sight) (t : Thread) → runnable seen s ≡ true → (s ≡ state.Run → ⊥) → StepFits seen t (resumed_by s t)
resumed_by_fits state.Run seen t h not_run = absurd (not_run refl)
resumed_by_fits (state.Wait waits) seen t h not_run = record { keeps = record { id = refl; shape = refl; firmware = refl; mem = refl; out = refl }; steps = refl; pages = omega arith; op = tt }
resumed_by_fits (state.Idle vote) seen t h not_run = completed_fits 0 seen t
resumed_by_fits (state.Answered value) seen t h not_run = completed_fits value seen t
resumed_by_fits (state.Dead value) seen t h not_run = cc
resumed_by_fits (state.Trapped why) seen t h not_run = cc

pub resumed_fits : (seen : Sight) (t : Thread) → runnable seen t.state ≡ true → (t.state ≡ state.Run → ⊥) → StepFits seen t (resumed t)
resumed_fits seen t h not_run = resumed_by_fits t.state seen t h not_run

-- `turned` is the effect of the instruction where the thread runs, and the completion where it does not
pub turned_runs : (s : ThreadState) (e : Effect) (seen : Sight) (t : Thread) → s ≡ state.Run → turned_by s e seen t ≡ stepped e seen t
turned_runs state.Run e seen t h = refl
turned_runs (state.Wait waits) e seen t h = cc
turned_runs (state.Idle vote) e seen t h = cc
turned_runs (state.Answered value) e seen t h = cc
turned_runs (state.Dead value) e seen t h = cc
turned_runs (state.Trapped why) e seen t h = cc

pub turned_resumes : (s : ThreadState) (e : Effect) (seen : Sight) (t : Thread) → (s ≡ state.Run → ⊥) → turned_by s e seen t ≡ resumed_by s t
turned_resumes state.Run e seen t not_run = absurd (not_run refl)
turned_resumes (state.Wait waits) e seen t not_run = refl
turned_resumes (state.Idle vote) e seen t not_run = refl
turned_resumes (state.Answered value) e seen t not_run = refl
turned_resumes (state.Dead value) e seen t not_run = refl
turned_resumes (state.Trapped why) e seen t not_run = refl
