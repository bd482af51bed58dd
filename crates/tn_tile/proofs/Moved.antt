-- A step keeps what holds of every tile's state.
use Rattle.std.proofs.Common.{ℕ, ◌≡◌, ◌<◌, ◌≤◌, ◌/◌, zero, suc, true, List, [], length, refl, sym, subst, ◌∙◌, arith, length-set, Option, Some, None, slice_get}
use Rattle.std.proofs.lemmas.Bool.{and_from, and_parts, le-leb, ltb-true}
use Rattle.std.proofs.lemmas.List.{length-map}
use Rattle.polite_switch.specs.SwitchModel.{SwitchModel}
use Rattle.rv_isa.specs.declared.instr.Instr.{Instr}
use Rattle.rv_exec.specs.Exec.{regs_after, step_at}
use Rattle.tn_base.specs.declared.effect.Effect.{Effect}
use Rattle.tn_base.specs.declared.effect.Effect.TheVariants as effect
use Rattle.tn_base.specs.declared.event.Trap.TheVariants as trap
use Rattle.tn_base.specs.declared.op.Op.{Op}
use Rattle.tn_base.specs.declared.op.Op.TheVariants as op
use Rattle.tn_base.specs.declared.shape.ShapeNumbers.{ShapeNumbers}
use Rattle.tn_base.specs.Address.{in_tile, tile_threads}
use Rattle.tn_base.specs.Message.{has_dest, slot_bytes}
use Rattle.tn_slots.specs.Pool.{freed, left, taken}
use Rattle.tn_thread.specs.declared.state.ThreadState.{ThreadState}
use Rattle.tn_thread.specs.declared.state.ThreadState.TheVariants as state
use Rattle.tn_thread.specs.declared.thread.Thread.{Thread}
use Rattle.tn_thread.specs.Fits.{OpFits, StepFits}
use Rattle.tn_thread.specs.Sight.{Sight}
use Rattle.tn_thread.specs.Step.{Stepped, runnable, turned}
use Rattle.tn_thread.proofs.Commands.{dispatch_fits}
use Rattle.tn_thread.proofs.Fits.{resumed_fits, stepped_fits, turned_resumes, turned_runs}
use Rattle.tn_tile.specs.Kept.{IsFit, IsThread}
use Rattle.tn_tile.specs.Step.{acted, can_step, due_by, fetched_at, fetched_by, next_step, sight_at, step_at_place, step_by, stepped, steps_of, thread_at, with_thread}
use Rattle.tn_tile.specs.TileView.{TilePlan, TileState}
use Rattle.tn_tile.proofs.Shaped.{pending_set, pool_same, taken_sizes, threads_set}
use Rattle.tn_tile.proofs.Steps.{taken as took}

-- a step asks for what fits, also where its instruction wrote registers before
op_fits : (seen : Sight) (t new : Thread) (regs : List ℕ) (o : Op) → OpFits seen (record t { regs = regs }) new o → OpFits seen t new o
op_fits seen t new regs op.None f = f
op_fits seen t new regs (op.Send to bytes) f = f
op_fits seen t new regs op.Hand f = f
op_fits seen t new regs (op.Free slot) f = f
op_fits seen t new regs (op.Idle vote) f = f
op_fits seen t new regs (op.Kill value) f = f
op_fits seen t new regs (op.Trap why) f = f

wrote_fits : (seen : Sight) (t : Thread) (regs : List ℕ) (r : Stepped) → StepFits seen (record t { regs = regs }) r → StepFits seen t r
wrote_fits seen t regs r f =
    let k = f.keeps in
    record { keeps = record { id = k.id; shape = k.shape; firmware = k.firmware; mem = k.mem; out = k.out }; steps = f.steps; pages = f.pages; op = op_fits seen t r.thread regs r.op f.op }

runs_fits : (seen : Sight) (t : Thread) (e : Effect) → t.state ≡ state.Run → StepFits seen t (turned e seen t)
runs_fits seen t e run = subst (StepFits seen t) (sym (turned_runs t.state e seen t run)) (stepped_fits e seen t)

at_fits : (o : Option (Option Instr)) (seen : Sight) (t : Thread) → t.state ≡ state.Run → StepFits seen t (turned (fetched_at o t).effect seen (fetched_at o t).thread)
at_fits None seen t run = runs_fits seen t (effect.Trap trap.BadFetch) run
at_fits (Some None) seen t run = runs_fits seen t (effect.Trap trap.BadInstr) run
at_fits (Some (Some i)) seen t run =
    let regs = regs_after (step_at i t.pc t.regs).written i.rd t.regs in
    wrote_fits seen t regs _ (runs_fits seen (record t { regs = regs }) (step_at i t.pc t.regs).effect run)

woken_fits : (seen : Sight) (t : Thread) → runnable seen t.state ≡ true → (t.state ≡ state.Run → ⊥) → StepFits seen t (turned effect.Next seen t)
woken_fits seen t can not_run = subst (StepFits seen t) (sym (turned_resumes t.state effect.Next seen t not_run)) (resumed_fits seen t can not_run)

by_fits : (s : ThreadState) (code : List (Option Instr)) (seen : Sight) (t : Thread) → t.state ≡ s → runnable seen t.state ≡ true → StepFits seen t (turned (fetched_by s code t).effect seen (fetched_by s code t).thread)
by_fits state.Run code seen t is can = at_fits (slice_get code (t.pc / 4)) seen t is
by_fits (state.Wait waits) code seen t is can = woken_fits seen t can (λ e. cc (is, e))
by_fits (state.Idle vote) code seen t is can = woken_fits seen t can (λ e. cc (is, e))
by_fits (state.Answered value) code seen t is can = woken_fits seen t can (λ e. cc (is, e))
by_fits (state.Dead value) code seen t is can = woken_fits seen t can (λ e. cc (is, e))
by_fits (state.Trapped why) code seen t is can = woken_fits seen t can (λ e. cc (is, e))

fits_by : (d : Option SwitchModel) (code : List (Option Instr)) (seen : Sight) (t : Thread) → runnable seen t.state ≡ true → StepFits seen t (step_by d code seen t)
fits_by None code seen t can = by_fits t.state code seen t refl can
fits_by (Some s) code seen t can = dispatch_fits s seen t

-- each step that a thread can make fits
pub next_fits : (code : List (Option Instr)) (seen : Sight) (t : Thread) → runnable seen t.state ≡ true → StepFits seen t (next_step code seen t)
next_fits code seen t can = fits_by (due_by t.state code t) code seen t can

-- what a step asks for
acted_fits : (plan : TilePlan) (k : ℕ) (seen : Sight) (t new : Thread) (o : Op) (s : TileState) → t.shape ≡ plan.shape → length t.out.bytes ≡ slot_bytes plan.shape → OpFits seen t new o → IsFit plan s → IsFit plan (acted k t o s)
acted_fits plan k seen t new op.None s shape size fits w = w
acted_fits plan k seen t new (op.Send to bytes) s shape size fits w =
    let there : has_dest plan.shape to ≡ true = rw (← shape) fits.1 in
    let short : length bytes ≤ slot_bytes plan.shape = rw (← size) fits.2 in
    record { threads = w.threads; pool = w.pool; pending = pending_set plan.shape s.pending k (Some (record { origin = t.id.0; number = t.sends; dest = to; bytes = bytes })) (and_from _ _ there (le-leb _ _ short)) w.pending; out = w.out }
acted_fits plan k seen t new op.Hand s shape size fits w =
    record { threads = w.threads; pool = pool_same plan.shape s.pool (taken k s.pool) s.senders (taken_sizes k s.pool) w.pool; pending = w.pending; out = w.out }
acted_fits plan k seen t new (op.Free slot) s shape size fits w =
    record { threads = w.threads; pool = pool_same plan.shape s.pool (freed k slot s.pool) s.senders (record { queues = refl; slots = length-set s.pool.slots slot _; slot_bytes = refl }) w.pool; pending = w.pending; out = w.out }
acted_fits plan k seen t new (op.Idle vote) s shape size fits w = w
acted_fits plan k seen t new (op.Kill value) s shape size fits w =
    record { threads = w.threads; pool = pool_same plan.shape s.pool (left k s.pool) s.senders (record { queues = length-set s.pool.queues k []; slots = length-map s.pool.slots _; slot_bytes = refl }) w.pool; pending = w.pending; out = w.out }
acted_fits plan k seen t new (op.Trap why) s shape size fits w = record { threads = w.threads; pool = w.pool; pending = w.pending; out = w.out }

-- a thread after a step is one of its place
is_thread : (n : ShapeNumbers) (a : ℕ) (seen : Sight) (t : Thread) (r : Stepped) → IsThread n a t → t.steps < n.fuel → StepFits seen t r → IsThread n a r.thread
is_thread n a seen t r is few fits = record {
  id = fits.keeps.id ∙ is.id;
  shape = fits.keeps.shape ∙ is.shape;
  mem = fits.keeps.mem ∙ is.mem;
  out = fits.keeps.out ∙ is.out;
  steps = let more = fits.steps in omega arith;
}

-- another thread at a place
pub thread_fits : (plan : TilePlan) (k : ℕ) (t : Thread) (s : TileState) → k < tile_threads plan.shape → IsThread plan.shape (in_tile plan.shape plan.tile k) t → IsFit plan s → IsFit plan (with_thread k t s)
thread_fits plan k t s h is w = record { threads = threads_set plan.shape plan.tile s.threads k t h is w.threads; pool = w.pool; pending = w.pending; out = w.out }

-- the state after a step that its thread can make
pub step_fits : (plan : TilePlan) (k : ℕ) (s : TileState) → k < tile_threads plan.shape → can_step plan.shape.fuel k s ≡ true → IsFit plan s → IsFit plan (stepped plan.code k s)
step_fits plan k s h can w =
    let parts = and_parts (runnable (sight_at s k) (thread_at s k).state) _ can in
    let few : (thread_at s k).steps < plan.shape.fuel = ltb-true _ _ parts.1 in
    let is = w.threads.each k h in
    let made = step_at_place plan.code k s in
    let fits : StepFits (sight_at s k) (thread_at s k) made = next_fits plan.code (sight_at s k) (thread_at s k) parts.0 in
    acted_fits plan k (sight_at s k) (thread_at s k) made.thread made.op (with_thread k made.thread s) is.shape is.out fits.op
    (thread_fits plan k made.thread s h (is_thread plan.shape (in_tile plan.shape plan.tile k) (sight_at s k) (thread_at s k) made is few fits) w)

pub steps_fit : (n : ℕ) (plan : TilePlan) (k : ℕ) (s t : TileState) → k < tile_threads plan.shape → steps_of plan k n s ≡ Some t → IsFit plan s → IsFit plan t
unfolding steps_of
steps_fit zero plan k s t h e w = let same : s ≡ t = cc e in subst (IsFit plan) same w
steps_fit (suc n) plan k s t h e w =
    let first = took (can_step plan.shape.fuel k s) (steps_of plan k n (stepped plan.code k s)) t e in
    steps_fit n plan k (stepped plan.code k s) t h first.1 (step_fits plan k s h first.0 w)
