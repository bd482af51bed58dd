-- A step that another step follows drops no letter.
use Rattle.std.proofs.Common.{ℕ, ◌<◌, ◌≡◌, true, false, length, refl, sym, ◌∙◌, ap}
use Rattle.std.proofs.lemmas.Bool.{and_parts}
use Rattle.std.proofs.lemmas.List.{get_or-set_same}
use Rattle.tn_base.specs.declared.op.Op.{Op}
use Rattle.tn_base.specs.declared.op.Op.TheVariants as op
use Rattle.tn_thread.specs.declared.state.ThreadState.TheVariants as state
use Rattle.tn_thread.specs.declared.thread.Thread.{Thread}
use Rattle.tn_thread.specs.Step.{runnable}
use Rattle.tn_tile.specs.Step.{can_step, no_thread, sight_at, step_at_place, stepped, thread_at}
use Rattle.tn_tile.specs.declared.state.TileState.{TileState}
use Rattle.tn_tile.specs.TileView.{TileView}
use Rattle.tn_letters.proofs.Simulate.{next, op_fits}

-- a thread that ended makes no step
dead_stops : (fuel k : ℕ) (s : TileState) (value : ℕ) → (thread_at s k).state ≡ state.Dead value → can_step fuel k s ≡ true → ⊥
dead_stops fuel k s value e can =
    let runs : runnable (sight_at s k) (thread_at s k).state ≡ true = (and_parts _ _ can).0 in
    let not : true ≡ false = sym runs ∙ ap (runnable (sight_at s k)) e in
    cc not

kept_count : (k : ℕ) (v : TileView) (o : Op) → k < length v.now.threads → can_step v.plan.shape.fuel k v.now ≡ true → (step_at_place v.plan.code k v.now).op ≡ o → can_step v.plan.shape.fuel k (next v k o) ≡ true → (next v k o).dropped ≡ v.now.dropped
kept_count k v op.None h can e more = refl
kept_count k v (op.Send to bytes) h can e more = refl
kept_count k v op.Hand h can e more = refl
kept_count k v (op.Free slot) h can e more = refl
kept_count k v (op.Idle vote) h can e more = refl
kept_count k v (op.Trap why) h can e more = refl
kept_count k v (op.Kill value) h can e more =
    let is : thread_at (next v k (op.Kill value)) k ≡ (step_at_place v.plan.code k v.now).thread = get_or-set_same v.now.threads k (step_at_place v.plan.code k v.now).thread no_thread h in
    let ended : (thread_at (next v k (op.Kill value)) k).state ≡ state.Dead value = ap (λ (t : Thread). t.state) is ∙ op_fits v k (op.Kill value) can e in
    absurd (dead_stops v.plan.shape.fuel k (next v k (op.Kill value)) value ended more)

-- if a step follows, no letter was dropped
pub counted_on : (k : ℕ) (v : TileView) → k < length v.now.threads → can_step v.plan.shape.fuel k v.now ≡ true → can_step v.plan.shape.fuel k (stepped v.plan.code k v.now) ≡ true → (stepped v.plan.code k v.now).dropped ≡ v.now.dropped
counted_on k v h can more = kept_count k v (step_at_place v.plan.code k v.now).op h can refl more
