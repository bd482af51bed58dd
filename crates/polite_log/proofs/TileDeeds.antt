-- The deeds of a turn are those of its steps at its tile.
use Rattle.std.proofs.Common.{ℕ, zero, suc, ◌≡◌, ◌==◌, ◌∙◌, cond, Bool, true, false, List, [], ◌∷◌, ◌++◌, refl, sym, ap, subst, Option, Some, None, option_map, unwrap_or}
use Rattle.std.specs.Prelude.{map, is_none}
use Rattle.tn_base.specs.declared.message.Letter.{Letter}
use Rattle.tn_base.specs.declared.op.Op.{Op}
use Rattle.tn_base.specs.declared.op.Op.TheVariants as op
use Rattle.tn_slots.specs.Pool.{key_for, queue_at, slot_at}
use Rattle.tn_slots.specs.Queues.{first_of}
use Rattle.std.specs.Int.{bit_at}
use Rattle.tn_thread.specs.declared.thread.Thread.{Thread}
use Rattle.tn_thread.specs.Sight.{Sight}
use Rattle.tn_thread.specs.Step.{Stepped}
use Rattle.tn_tile.specs.declared.state.TileState.{TileState}
use Rattle.tn_tile.specs.Step.{can_step, due_by, next_step, pending_at, sight_at, step_at_place, stepped, steps_of, thread_at}
use Rattle.tn_tile.specs.TileView.{TileView}
use Rattle.tn_tile.proofs.Steps.{taken}
use Rattle.tn_rows.specs.WorldView.{WorldView}
use Rattle.tn_letters.specs.declared.steps.BagStep.{BagStep}
use Rattle.tn_letters.specs.declared.steps.BagStep.TheVariants as bag
use Rattle.tn_letters.specs.declared.steps.Seen.{Seen}
use Rattle.tn_letters.specs.Machine.{BagRun, ended_by, own_step, with_own_step}
use Rattle.tn_letters.specs.State.{BagState, Program, put}
use Rattle.tn_letters.specs.Steps.{after_step, dropped_by, first_letter, queued, seen_at, step_by, thread_step, turn_steps}
use Rattle.tn_letters.specs.Tiles.{held_in, letter_in, program_of}
use Rattle.tn_letters.proofs.Lift.{on_new, with_tile}
use Rattle.tn_letters.proofs.Simulate.{Place, Reached, read, shown}
use Rattle.tn_letters.proofs.Threads.{step_reached}
use Rattle.polite_edges.specs.declared.deed.Deed.{Deed}
use Rattle.polite_edges.specs.Deeds.{added}
use Rattle.polite_edges.specs.Histories.{moved, replayed}
use Rattle.polite_edges.specs.Runs.{deed_at, dispatch_deed, thread_deed}
use Rattle.polite_edges.proofs.Replaying.{Agrees, agrees_refl, moved_agrees, of_same, put_agrees, step_moves, then}
use Rattle.polite_edges.proofs.Shown.{sight_with}
use Rattle.polite_edges.proofs.Threads.{Listed}
use Rattle.polite_log.specs.TileDeeds.{step_deed, turn_deeds}

-- two states have the same thread at an address, which holds the same
pub record At (a : ℕ) (s t : BagState) : Type 0 where
  pub thread : s.threads a ≡ t.threads a
  pub held : s.held a ≡ t.held a

own_at : (m : Program) (a : ℕ) (seen : Seen) (s t : BagState) → At a s t → own_step m a seen s ≡ own_step m a seen t
own_at m a seen s t x = λ i. next_step (m.code a) (sight_with seen (x.held i)) (x.thread i)

deed_own : (m : Program) (a : ℕ) (seen : Seen) (s t : BagState) → At a s t → thread_deed m a seen s ≡ thread_deed m a seen t
deed_own m a seen s t x = λ i.
    let u : Thread = x.thread i in
    let h : ℕ → Option Letter = x.held i in
    dispatch_deed (due_by u.state (m.code a) u) a u (h u.hand) (sight_with seen h) (next_step (m.code a) (sight_with seen h) u).op

with_own_at : (m : Program) (a : ℕ) (seen : Seen) (s t : BagState) → At a s t → At a (with_own_step m a seen s) (with_own_step m a seen t)
with_own_at m a seen s t x = record {
  thread = put_agrees s.threads t.threads a a (own_step m a seen s).thread (own_step m a seen t).thread (ap (λ (r : Stepped). r.thread) (own_at m a seen s t x)) x.thread;
  held = x.held;
}

ended_at : (o : Op) (a : ℕ) (s t : BagState) → At a s t → At a (ended_by o a s) (ended_by o a t)
ended_at op.None a s t x = x
ended_at (op.Send to bytes) a s t x = x
ended_at op.Hand a s t x = x
ended_at (op.Free slot) a s t x = x
ended_at (op.Idle vote) a s t x = x
ended_at (op.Kill value) a s t x = record { thread = x.thread; held = put_agrees s.held t.held a a (λ slot. None) (λ slot. None) refl x.held }
ended_at (op.Trap why) a s t x = x

private_at : (m : Program) (a : ℕ) (seen : Seen) (s t : BagState) → At a s t → At a (moved m (bag.Private a seen) s) (moved m (bag.Private a seen) t)
private_at m a seen s t x =
    let one = ended_at (own_step m a seen s).op a (with_own_step m a seen s) (with_own_step m a seen t) (with_own_at m a seen s t x) in
    subst (λ q. At a (ended_by (own_step m a seen s).op a (with_own_step m a seen s)) (ended_by q a (with_own_step m a seen t))) (ap (λ (r : Stepped). r.op) (own_at m a seen s t x)) one

slot_at_same : (a slot : ℕ) (l : Option Letter) (s t : BagState) → At a s t → put s.held a (put (s.held a) slot l) a ≡ put t.held a (put (t.held a) slot l) a
slot_at_same a slot l s t x = put_agrees s.held t.held a a (put (s.held a) slot l) (put (t.held a) slot l) (ap (λ (f : ℕ → Option Letter). put f slot l) x.held) x.held

-- a step of a thread keeps this
moved_at : (m : Program) (a : ℕ) (seen : Seen) (l : Letter) (o : Op) (s t : BagState) → At a s t → At a (moved m (step_by a seen l o) s) (moved m (step_by a seen l o) t)
moved_at m a seen l op.None s t x = private_at m a seen s t x
moved_at m a seen l (op.Send to bytes) s t x = with_own_at m a seen s t x
moved_at m a seen l op.Hand s t x = record { thread = (with_own_at m a seen s t x).thread; held = slot_at_same a (unwrap_or seen.first 0) (Some l) s t x }
moved_at m a seen l (op.Free slot) s t x = record { thread = (with_own_at m a seen s t x).thread; held = slot_at_same a slot None s t x }
moved_at m a seen l (op.Idle vote) s t x = with_own_at m a seen s t x
moved_at m a seen l (op.Kill value) s t x = private_at m a seen s t x
moved_at m a seen l (op.Trap why) s t x = private_at m a seen s t x

deed_by : (m : Program) (a : ℕ) (seen : Seen) (l : Letter) (o : Op) (s : BagState) → deed_at m (step_by a seen l o) s ≡ thread_deed m a seen s
deed_by m a seen l op.None s = refl
deed_by m a seen l (op.Send to bytes) s = refl
deed_by m a seen l op.Hand s = refl
deed_by m a seen l (op.Free slot) s = refl
deed_by m a seen l (op.Idle vote) s = refl
deed_by m a seen l (op.Kill value) s = refl
deed_by m a seen l (op.Trap why) s = refl

-- letters that are dropped are no deed, and move nothing
drops : (m : Program) (s : BagState) (deeds : List Deed) (ls : List Letter) (rest : List BagStep) → replayed deeds m s (map bag.Discard ls ++ rest) ≡ replayed deeds m s rest
drops m s deeds [] rest = refl
drops m s deeds (l ∷ ls) rest = drops m s deeds ls rest

dropped : (m : Program) (s : BagState) (deeds : List Deed) (ls : List Letter) (o : Op) (rest : List BagStep) → replayed deeds m s (dropped_by ls o ++ rest) ≡ replayed deeds m s rest
dropped m s deeds ls op.None rest = refl
dropped m s deeds ls (op.Send to bytes) rest = refl
dropped m s deeds ls op.Hand rest = refl
dropped m s deeds ls (op.Free slot) rest = refl
dropped m s deeds ls (op.Idle vote) rest = refl
dropped m s deeds ls (op.Kill value) rest = drops m s deeds ls rest
dropped m s deeds ls (op.Trap why) rest = refl

-- the state after steps
abbrev pub all_moved : Program → BagState → List BagStep → BagState
all_moved m s [] = s
all_moved m s (step ∷ steps) = all_moved m (moved m step s) steps

pub run_moves : (m : Program) (steps : List BagStep) (x s end : BagState) → Listed m.shape → Agrees m.shape x s → BagRun m s steps end → Agrees m.shape (all_moved m x steps) end
run_moves m [] x s end o e run = then m.shape x s end e (of_same m.shape s end run)
run_moves m (step ∷ steps) x s end o e run =
    let before = then m.shape x s run.0 e (of_same m.shape s run.0 run.2) in
    let after = then m.shape (moved m step x) (moved m step run.0) run.1 (moved_agrees m step x run.0 run.1 o run.3 before) (step_moves m step run.0 run.1 run.3) in
    run_moves m steps (moved m step x) run.1 end o after run.4

drops_move : (m : Program) (s : BagState) (ls : List Letter) → all_moved m s (map bag.Discard ls) ≡ s
drops_move m s [] = refl
drops_move m s (l ∷ ls) = drops_move m s ls

dropped_moves : (m : Program) (s : BagState) (ls : List Letter) (o : Op) → all_moved m s (dropped_by ls o) ≡ s
dropped_moves m s ls op.None = refl
dropped_moves m s ls (op.Send to bytes) = refl
dropped_moves m s ls op.Hand = refl
dropped_moves m s ls (op.Free slot) = refl
dropped_moves m s ls (op.Idle vote) = refl
dropped_moves m s ls (op.Kill value) = drops_move m s ls
dropped_moves m s ls (op.Trap why) = refl

-- ---- the deed of a step

bytes_of : (b : Bool) (l : Letter) → option_map (λ (x : Letter). x.bytes) (cond b (Some l) None) ≡ cond b (Some l.bytes) None
bytes_of true l = refl
bytes_of false l = refl

sight_is : (v : TileView) (k : ℕ) → sight_with (seen_at v k) (held_in v k) ≡ sight_at v.now k
sight_is v k = λ i. record {
  can_send = is_none (pending_at v.now k);
  first = first_of (queue_at v.now.pool k);
  key = key_for v.now.pool k;
  held = λ s. bytes_of (bit_at (slot_at v.now.pool s).holders k == 1) (letter_in v k s) i;
}

abbrev deed_in : ℕ → Seen → TileView → ℕ → Option Deed
deed_in a seen v k =
    let t = thread_at v.now k in
    dispatch_deed (due_by t.state v.plan.code t) a t (held_in v k t.hand) (sight_with seen (held_in v k)) (next_step v.plan.code (sight_with seen (held_in v k)) t).op

abbrev deed_under : ℕ → TileView → ℕ → Sight → Option Deed
deed_under a v k seen = let t = thread_at v.now k in dispatch_deed (due_by t.state v.plan.code t) a t (held_in v k t.hand) seen (next_step v.plan.code seen t).op

deed_is : (got : ℕ → List Letter) (gone : List Letter) (w : WorldView) (p a k : ℕ) (v : TileView) → Place w p v a k → thread_deed (program_of w) a (seen_at v k) (shown got gone w) ≡ step_deed a k v
deed_is got gone w p a k v c = read (deed_in a (seen_at v k)) w p a k v c ∙ ap (deed_under a v k) (sight_is v k)

-- ---- the deeds of a turn

abbrev own_op : ℕ → TileView → Op
own_op k v = (step_at_place v.plan.code k v.now).op

-- what the machine shows of the thread after one step
step_shows : (got : ℕ → List Letter) (gone : List Letter) (w mid : WorldView) (p a k : ℕ) (v : TileView) → Listed w.shape → Place w p v a k → (r : Reached got gone w (thread_step a k v) mid) →
    At a (moved (program_of w) (step_by a (seen_at v k) (first_letter v k) (own_op k v)) (shown got gone w)) (shown r.now r.gone mid)
step_shows got gone w mid p a k v o c r =
    let m : Program = program_of w in
    let step : BagStep = step_by a (seen_at v k) (first_letter v k) (own_op k v) in
    let e = run_moves m (thread_step a k v) (shown got gone w) (shown got gone w) (shown r.now r.gone mid) o (agrees_refl m.shape (shown got gone w)) r.run in
    let same : all_moved m (shown got gone w) (thread_step a k v) ≡ moved m step (shown got gone w) = dropped_moves m (moved m step (shown got gone w)) (queued v k) (own_op k v) in
    record {
      thread = ap (λ (s : BagState). s.threads a) (sym same) ∙ e.threads a c.stands.there;
      held = ap (λ (s : BagState). s.held a) (sym same) ∙ e.held a c.stands.there;
    }

at_then : (a : ℕ) (s t u : BagState) → At a s t → At a t u → At a s u
at_then a s t u x y = record { thread = x.thread ∙ y.thread; held = x.held ∙ y.held }

pub turn_replays : (n : ℕ) (deeds : List Deed) (got : ℕ → List Letter) (gone : List Letter) (w : WorldView) (p a k : ℕ) (v : TileView) (new : TileState) (x : BagState) → Listed w.shape → Place w p v a k → steps_of v.plan k n v.now ≡ Some new →
    At a x (shown got gone w) → replayed deeds (program_of w) x (turn_steps a k n v) ≡ turn_deeds deeds a k n v
unfolding steps_of turn_steps turn_deeds
turn_replays zero deeds got gone w p a k v new x o c is e = refl
turn_replays (suc n) deeds got gone w p a k v new x o c is e =
    let first = taken (can_step v.plan.shape.fuel k v.now) (steps_of v.plan k n (stepped v.plan.code k v.now)) new is in
    let mid : WorldView = with_tile w p (after_step k v) in
    let one = step_reached got gone w p a k v c first.0 in
    let there : Place mid p (after_step k v) a k = record {
      good = one.good;
      on = on_new w p v (after_step k v) c.on;
      stands = record { there = c.stands.there; tile = c.stands.tile; place = c.stands.place };
    } in
    let m : Program = program_of w in
    let step : BagStep = step_by a (seen_at v k) (first_letter v k) (own_op k v) in
    let y : BagState = moved m step x in
    let rest : List BagStep = turn_steps a k n (after_step k v) in
    let deed : deed_at m step x ≡ step_deed a k v = deed_by m a (seen_at v k) (first_letter v k) (own_op k v) x ∙ (deed_own m a (seen_at v k) x (shown got gone w) e ∙ deed_is got gone w p a k v c) in
    let after = at_then a y (moved m step (shown got gone w)) (shown one.now one.gone mid) (moved_at m a (seen_at v k) (first_letter v k) (own_op k v) x (shown got gone w) e) (step_shows got gone w mid p a k v o c one) in
    dropped m y (added (deed_at m step x) deeds) (queued v k) (own_op k v) rest
    ∙ (ap (λ d. replayed (added d deeds) m y rest) deed
    ∙ (ap (λ (q : Program). replayed (added (step_deed a k v) deeds) q y rest) (sym one.program)
    ∙ turn_replays n (added (step_deed a k v) deeds) one.now one.gone mid p a k (after_step k v) new y o there first.1 after))
