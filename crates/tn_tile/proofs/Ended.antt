-- Which threads ended, after steps of a thread.
use Rattle.std.proofs.Common.{ℕ, ◌≡◌, ◌<◌, ◌≤◌, zero, suc, Bool, true, false, cond, List, length, set, refl, sym, ap, subst, ◌∙◌, Option, Some}
use Rattle.std.proofs.lemmas.Bool.{and_parts}
use Rattle.std.proofs.lemmas.List.{set-get_or}
use Rattle.rv_isa.specs.declared.instr.Instr.{Instr}
use Rattle.tn_base.specs.declared.op.Op.{Op}
use Rattle.tn_base.specs.declared.op.Op.TheVariants as op
use Rattle.tn_base.specs.Mask.{with_bit}
use Rattle.tn_thread.specs.declared.thread.Thread.{Thread}
use Rattle.tn_thread.specs.Step.{runnable}
use Rattle.tn_tile.specs.Receivers.{dead_in, is_dead}
use Rattle.tn_tile.specs.Step.{acted, can_step, no_thread, sight_at, step_at_place, stepped, steps_of, thread_at, with_thread}
use Rattle.tn_tile.specs.TileView.{TilePlan, TileState}
use Rattle.tn_tile.proofs.Dead.{dead_kept, dead_more}
use Rattle.tn_tile.proofs.Ends.{alive_of}
use Rattle.tn_tile.proofs.Steps.{taken}
use Rattle.tn_tile.proofs.Turned.{set_twice}

acted_threads : (k : ℕ) (t : Thread) (o : Op) (s : TileState) → (acted k t o s).threads ≡ s.threads
acted_threads k t op.None s = refl
acted_threads k t (op.Send to bytes) s = refl
acted_threads k t op.Hand s = refl
acted_threads k t (op.Free slot) s = refl
acted_threads k t (op.Idle vote) s = refl
acted_threads k t (op.Kill value) s = refl
acted_threads k t (op.Trap why) s = refl

stepped_threads : (code : List (Option Instr)) (k : ℕ) (s : TileState) → (stepped code k s).threads ≡ set s.threads k (step_at_place code k s).thread
stepped_threads code k s = acted_threads k (thread_at s k) (step_at_place code k s).op (with_thread k (step_at_place code k s).thread s)

-- steps of a thread change no other thread
pub steps_threads : (n : ℕ) (plan : TilePlan) (k : ℕ) (s t : TileState) → steps_of plan k n s ≡ Some t → t.threads ≡ set s.threads k (thread_at t k)
unfolding steps_of
steps_threads zero plan k s t e = let same : s ≡ t = cc e in subst (λ (x : TileState). x.threads ≡ set s.threads k (thread_at x k)) same (sym (set-get_or s.threads k no_thread))
steps_threads (suc n) plan k s t e =
    let first = taken (can_step plan.shape.fuel k s) (steps_of plan k n (stepped plan.code k s)) t e in
    steps_threads n plan k (stepped plan.code k s) t first.1
    ∙ ap (λ ts. set ts k (thread_at t k)) (stepped_threads plan.code k s)
    ∙ set_twice s.threads k (step_at_place plan.code k s).thread (thread_at t k)

-- a thread that is alive after its steps was alive before
alive_before : (n : ℕ) (plan : TilePlan) (k : ℕ) (s t : TileState) → steps_of plan k n s ≡ Some t → is_dead (thread_at t k).state ≡ false → is_dead (thread_at s k).state ≡ false
unfolding steps_of
alive_before zero plan k s t e alive = let same : t ≡ s = cc e in subst (λ (x : TileState). is_dead (thread_at x k).state ≡ false) same alive
alive_before (suc n) plan k s t e alive =
    let first = taken (can_step plan.shape.fuel k s) (steps_of plan k n (stepped plan.code k s)) t e in
    alive_of (sight_at s k) (thread_at s k).state (and_parts (runnable (sight_at s k) (thread_at s k).state) _ first.0).0

-- the set of the threads that ended, after steps of the thread at a place
pub turned_dead : (b : Bool) (n : ℕ) (plan : TilePlan) (k dead : ℕ) (s t : TileState) → k < length s.threads → length s.threads ≤ 64 → dead ≡ dead_in s.threads → steps_of plan k n s ≡ Some t → b ≡ is_dead (thread_at t k).state → cond b (with_bit dead k) dead ≡ dead_in t.threads
turned_dead true n plan k dead s t h few is e ended = ap (λ m. with_bit m k) is ∙ sym (dead_more s.threads k (thread_at t k) h few (sym ended)) ∙ ap dead_in (sym (steps_threads n plan k s t e))
turned_dead false n plan k dead s t h few is e alive =
    is ∙ sym (dead_kept s.threads k (thread_at t k) (sym alive ∙ sym (alive_before n plan k s t e (sym alive)))) ∙ ap dead_in (sym (steps_threads n plan k s t e))
