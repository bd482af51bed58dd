-- What a step, or a packet that comes, changes of the threads at other places: if they can step.
use Rattle.std.proofs.Common.{ℕ, ◌≡◌, ◌≤◌, ◌&&◌, zero, suc, false, List, [], ◌∷◌, length, ltb, refl, ap, subst, ◌∙◌, Option, Some, None, is_none, is_some}
use Rattle.std.proofs.lemmas.List.{get_or-set_other, get_or_past}
use Rattle.tn_base.specs.declared.op.Op.{Op}
use Rattle.tn_base.specs.declared.op.Op.TheVariants as op
use Rattle.tn_slots.specs.Pool.{queue_at, taken_from}
use Rattle.tn_slots.specs.PoolModel.{PoolModel}
use Rattle.tn_slots.specs.Queues.{first_of}
use Rattle.tn_thread.specs.declared.state.ThreadState.{ThreadState}
use Rattle.tn_thread.specs.declared.state.ThreadState.TheVariants as state
use Rattle.tn_thread.specs.declared.thread.Thread.{Thread}
use Rattle.tn_thread.specs.Sight.{Sight}
use Rattle.tn_thread.specs.Step.{runnable}
use Rattle.rv_isa.specs.declared.instr.Instr.{Instr}
use Rattle.tn_tile.specs.Step.{acted, can_step, no_thread, pending_at, sight_at, step_at_place, stepped, steps_of, thread_at, with_thread}
use Rattle.tn_tile.specs.TileView.{TilePlan, TileState}
use Rattle.tn_tile.proofs.Steps.{taken}

-- the thread at a place, and what its steps hang on, are as they were
pub record Untouched (k : ℕ) (old new : TileState) : Type 0 where
  pub thread : thread_at new k ≡ thread_at old k
  pub pending : pending_at new k ≡ pending_at old k
  pub queue : queue_at new.pool k ≡ queue_at old.pool k

runs_same : (a b : Sight) (s : ThreadState) → a.can_send ≡ b.can_send → a.first ≡ b.first → runnable a s ≡ runnable b s
runs_same a b state.Run e f = refl
runs_same a b (state.Wait waits) e f = rw (e, f) refl
runs_same a b (state.Idle vote) e f = ap is_some f
runs_same a b (state.Answered value) e f = refl
runs_same a b (state.Dead value) e f = refl
runs_same a b (state.Trapped why) e f = refl

-- then the thread can step if it could before
pub same_step : (fuel k : ℕ) (old new : TileState) → Untouched k old new → can_step fuel k new ≡ can_step fuel k old
same_step fuel k old new u =
    let runs : runnable (sight_at new k) (thread_at new k).state ≡ runnable (sight_at old k) (thread_at old k).state
    = runs_same (sight_at new k) (sight_at old k) (thread_at new k).state (ap is_none u.pending) (ap first_of u.queue) ∙ ap (λ (t : Thread). runnable (sight_at old k) t.state) u.thread in
    ap (λ b. b && ltb (thread_at new k).steps fuel) runs ∙ ap (λ (t : Thread). runnable (sight_at old k) (thread_at old k).state && ltb t.steps fuel) u.thread

-- past the last thread no thread can step
none_steps : (fuel : ℕ) (seen : Sight) (t : Thread) → t ≡ no_thread → (runnable seen t.state && ltb t.steps fuel) ≡ false
none_steps fuel seen t e = ap (λ (x : Thread). runnable seen x.state && ltb x.steps fuel) e

pub past_last : (fuel k : ℕ) (s : TileState) → length s.threads ≤ k → can_step fuel k s ≡ false
past_last fuel k s h = none_steps fuel (sight_at s k) (thread_at s k) (get_or_past s.threads k no_thread h)

took_other : (k j : ℕ) (queue : List ℕ) (p : PoolModel) → (j ≡ k → ⊥) → queue_at (taken_from k queue p) j ≡ queue_at p j
took_other k j [] p ne = refl
took_other k j (s ∷ rest) p ne = get_or-set_other p.queues k j rest [] ne

acted_other : (k j : ℕ) (t : Thread) (o : Op) (s : TileState) → (j ≡ k → ⊥) → Untouched j s (acted k t o s)
acted_other k j t op.None s ne = record { thread = refl; pending = refl; queue = refl }
acted_other k j t (op.Send to bytes) s ne = record { thread = refl; pending = get_or-set_other s.pending k j _ None ne; queue = refl }
acted_other k j t op.Hand s ne = record { thread = refl; pending = refl; queue = took_other k j (queue_at s.pool k) s.pool ne }
acted_other k j t (op.Free slot) s ne = record { thread = refl; pending = refl; queue = refl }
acted_other k j t (op.Idle vote) s ne = record { thread = refl; pending = refl; queue = refl }
acted_other k j t (op.Kill value) s ne = record { thread = refl; pending = refl; queue = get_or-set_other s.pool.queues k j [] [] ne }
acted_other k j t (op.Trap why) s ne = record { thread = refl; pending = refl; queue = refl }

pub stepped_other : (code : List (Option Instr)) (k j : ℕ) (s : TileState) → (j ≡ k → ⊥) → Untouched j s (stepped code k s)
stepped_other code k j s ne =
    let made = step_at_place code k s in
    let u : Untouched j (with_thread k made.thread s) (stepped code k s) = acted_other k j (thread_at s k) made.op (with_thread k made.thread s) ne in
    record { thread = u.thread ∙ get_or-set_other s.threads k j made.thread no_thread ne; pending = u.pending; queue = u.queue }

-- steps of a thread change nothing for another
pub steps_other : (n : ℕ) (plan : TilePlan) (k j : ℕ) (s t : TileState) → (j ≡ k → ⊥) → steps_of plan k n s ≡ Some t → Untouched j s t
unfolding steps_of
steps_other zero plan k j s t ne e = let same : s ≡ t = cc e in subst (Untouched j s) same (record { thread = refl; pending = refl; queue = refl })
steps_other (suc n) plan k j s t ne e =
    let first = taken (can_step plan.shape.fuel k s) (steps_of plan k n (stepped plan.code k s)) t e in
    let one = stepped_other plan.code k j s ne in
    let rest = steps_other n plan k j (stepped plan.code k s) t ne first.1 in
    record { thread = rest.thread ∙ one.thread; pending = rest.pending ∙ one.pending; queue = rest.queue ∙ one.queue }
