-- A thread that has an answer does not change before its next step.
use Rattle.std.proofs.Common.{ℕ, ◌≡◌, ◌≢◌, List, [], ◌∷◌, cond, true, false, refl, sym, ◌∙◌, ap, subst, IsTrue, Option, Some, unwrap_or}
use Rattle.std.specs.List.{AllByRecursion}
use Rattle.std.proofs.lemmas.Bool.{ne_eqb}
use Rattle.tn_base.specs.declared.event.Event.{Event}
use Rattle.tn_base.specs.declared.event.Event.TheVariants as event
use Rattle.tn_base.specs.declared.ids.ThreadId.{ThreadId}
use Rattle.tn_base.specs.declared.op.Op.{Op}
use Rattle.tn_base.specs.declared.op.Op.TheVariants as op
use Rattle.tn_base.specs.Address.{has_thread}
use Rattle.tn_detect.specs.Notes.{value_of}
use Rattle.tn_quiet.specs.Law.{IsQuietWorld}
use Rattle.tn_quiet.proofs.Runs.{event_quiet}
use Rattle.tn_rows.specs.Events.{happened}
use Rattle.tn_rows.specs.Runs.{Walk}
use Rattle.tn_rows.specs.WorldView.{WorldView}
use Rattle.tn_thread.specs.declared.state.ThreadState.TheVariants as state
use Rattle.tn_thread.specs.declared.thread.Thread.{Thread}
use Rattle.tn_thread.specs.Step.{answered, is_idle}
use Rattle.tn_tile.specs.Rows.{told}
use Rattle.tn_tile.specs.Still.{does_nothing}
use Rattle.tn_letters.specs.declared.steps.BagStep.{BagStep}
use Rattle.tn_letters.specs.declared.steps.BagStep.TheVariants as bag
use Rattle.tn_letters.specs.Law.{IsStart}
use Rattle.tn_letters.specs.Machine.{BagRun, Happens, ended_by, own_step, sent_by, with_own_step}
use Rattle.tn_letters.specs.NextStep.{IsNoTurnOf, IsNotOf}
use Rattle.tn_letters.specs.Settled.{detector_on, settled}
use Rattle.tn_letters.specs.State.{BagState, Program, put}
use Rattle.tn_letters.specs.Steps.{event_steps}
use Rattle.tn_letters.specs.Tiles.{program_of, thread_of}
use Rattle.tn_letters.proofs.Announced.{thread_learns}
use Rattle.tn_letters.proofs.Calm.{quiet_start}
use Rattle.tn_letters.proofs.Carried.{turn_settled}
use Rattle.tn_letters.proofs.EventSteps.{HoldsIn, HoldsOf, event_each}
use Rattle.tn_letters.proofs.GoodParts.{event_good, walk_good}
use Rattle.tn_letters.proofs.Lift.{Good}
use Rattle.tn_letters.proofs.Meaning.{event_arrives}
use Rattle.tn_letters.proofs.Starts.{good_start}
use Rattle.tn_quiet.proofs.Runs.{walk_quiet}

-- ---- the bag machine

pub put_beside : {A : Type 0} (f : ℕ → A) (b : ℕ) (x : A) (a : ℕ) → b ≢ a → put f b x a ≡ f a
put_beside f b x a ne = ap (λ c. cond c x (f a)) (ne_eqb a b (λ (e : a ≡ b). ne (sym e)))

pub ended_threads : (o : Op) (b : ℕ) (s : BagState) → (ended_by o b s).threads ≡ s.threads
ended_threads op.None b s = refl
ended_threads (op.Send to bytes) b s = refl
ended_threads op.Hand b s = refl
ended_threads (op.Free slot) b s = refl
ended_threads (op.Idle vote) b s = refl
ended_threads (op.Kill value) b s = refl
ended_threads (op.Trap why) b s = refl

pub sent_threads : (m : Program) (b number : ℕ) (o : Op) (s t : BagState) → sent_by m b number o s ≡ Some t → t.threads ≡ s.threads
sent_threads m b number (op.Send to bytes) s t e = sym (ap (λ (o : Option BagState). (unwrap_or o t).threads) e)
sent_threads m b number op.None s t e = cc e
sent_threads m b number op.Hand s t e = cc e
sent_threads m b number (op.Free slot) s t e = cc e
sent_threads m b number (op.Idle vote) s t e = cc e
sent_threads m b number (op.Kill value) s t e = cc e
sent_threads m b number (op.Trap why) s t e = cc e

pub busy : (t : Thread) (value : ℕ) → t.state ≡ state.Answered value → does_nothing t.state ≡ true → ⊥
busy t value e idle = false_true (sym (ap does_nothing e) ∙ idle)
  where
    false_true : false ≡ true → ⊥
    false_true e = cc e

step_waits : (m : Program) (x : BagStep) (s t : BagState) (a value : ℕ) → IsTrue (has_thread m.shape a) → (s.threads a).state ≡ state.Answered value → Happens m x s t → IsNotOf a x → t.threads a ≡ s.threads a
step_waits m (bag.Private b seen) s t a value there e h not =
    ap (λ (r : BagState). r.threads a) h.2 ∙ (ap (λ (f : ℕ → Thread). f a) (ended_threads (own_step m b seen s).op b (with_own_step m b seen s)) ∙ put_beside s.threads b (own_step m b seen s).thread a not)
step_waits m (bag.Send b seen) s t a value there e h not =
    ap (λ (f : ℕ → Thread). f a) (sent_threads m b (s.threads b).sends (own_step m b seen s).op (with_own_step m b seen s) t h.1) ∙ put_beside s.threads b (own_step m b seen s).thread a not
step_waits m (bag.Hand b seen l) s t a value there e h not = ap (λ (r : BagState). r.threads a) h.2.3 ∙ put_beside s.threads b (own_step m b seen s).thread a not
step_waits m (bag.Free b seen slot) s t a value there e h not = ap (λ (r : BagState). r.threads a) h.2 ∙ put_beside s.threads b (own_step m b seen s).thread a not
step_waits m (bag.Idle b seen vote) s t a value there e h not = ap (λ (r : BagState). r.threads a) h.2 ∙ put_beside s.threads b (own_step m b seen s).thread a not
step_waits m bag.Announce s t a value there e h not = absurd (busy (s.threads a) value e (h.0.threads a there))
step_waits m (bag.HostSend l) s t a value there e h not = ap (λ (r : BagState). r.threads a) h.4
step_waits m (bag.HostHand l) s t a value there e h not = ap (λ (r : BagState). r.threads a) h.3
step_waits m (bag.Discard l) s t a value there e h not = ap (λ (r : BagState). r.threads a) h.4

run_waits : (m : Program) (start end : BagState) (steps : List BagStep) (a value : ℕ) → IsTrue (has_thread m.shape a) → (start.threads a).state ≡ state.Answered value → BagRun m start steps end → AllByRecursion (IsNotOf a) steps → end.threads a ≡ start.threads a
run_waits m start end [] a value there e run not = sym (run.threads a there)
run_waits m start end (x ∷ xs) a value there e run not =
    let same : run.0.threads a ≡ start.threads a = sym (run.2.threads a there) in
    let one : run.1.threads a ≡ run.0.threads a = step_waits m x run.0 run.1 a value there (ap (λ (t : Thread). t.state) same ∙ e) run.3 not.0 in
    run_waits m run.1 end xs a value there (ap (λ (t : Thread). t.state) (one ∙ same) ∙ e) run.4 not.1 ∙ (one ∙ same)

pub answer_waits : (m : Program) (start end : BagState) (steps : List BagStep) (a value : ℕ) → IsTrue (has_thread m.shape a) → (start.threads a).state ≡ state.Answered value → BagRun m start steps end → AllByRecursion (IsNotOf a) steps → end.threads a ≡ start.threads a
answer_waits = run_waits

-- ---- the steps that events are

by_not : (a b : ℕ) → b ≢ a → HoldsOf (IsNotOf a) b
by_not a b ne seen l op.None = ne
by_not a b ne seen l (op.Send to bytes) = ne
by_not a b ne seen l op.Hand = ne
by_not a b ne seen l (op.Free slot) = ne
by_not a b ne seen l (op.Idle vote) = ne
by_not a b ne seen l (op.Kill value) = ne
by_not a b ne seen l (op.Trap why) = ne

no_turn : (a : ℕ) (e : Event) → IsNoTurnOf a e → HoldsIn (IsNotOf a) e
no_turn a (event.Turn t n) not = by_not a t.0 not
no_turn a (event.Deliver t) not = tt
no_turn a (event.Depart p l) not = tt
no_turn a (event.Arrive l p) not = tt
no_turn a (event.Route p) not = tt
no_turn a event.HostPut not = tt
no_turn a event.HostTake not = tt
no_turn a (event.Report p) not = tt
no_turn a event.Begin not = tt
no_turn a (event.Confirm p) not = tt
no_turn a event.Announce not = tt
no_turn a (event.Release p) not = tt
no_turn a (event.Go p) not = tt

event_not : (e : Event) (a : ℕ) (w : WorldView) → IsNoTurnOf a e → AllByRecursion (IsNotOf a) (event_steps e w)
event_not e a w not = event_each (IsNotOf a) (record { send = λ l. tt; hand = λ l. tt; drop = λ l. tt }) e w (no_turn a e not)

-- ---- machines

walk_waits : (es : List Event) (w end : WorldView) (a value : ℕ) → Good w → IsQuietWorld w → Walk w es end → IsTrue (has_thread w.shape a) → (thread_of (settled w) a).state ≡ state.Answered value → AllByRecursion (IsNoTurnOf a) es → thread_of (settled end) a ≡ thread_of (settled w) a
walk_waits [] w end a value g q walk there e not = ap (λ (x : WorldView). thread_of (settled x) a) (sym walk)
walk_waits (x ∷ es) w end a value g q walk there e not =
    let r = event_arrives (λ b. []) [] 0 x w walk.0 g q walk.1 in
    let one : thread_of (settled walk.0) a ≡ thread_of (settled w) a = run_waits (program_of w) _ _ (event_steps x w) a value there e r.run (event_not x a w not.0) in
    let shape : walk.0.shape ≡ w.shape = ap (λ (m : Program). m.shape) r.program in
    walk_waits es walk.0 end a value (event_good x w walk.0 g q walk.1) (event_quiet x w walk.0 g.limits q walk.1) walk.2 (subst (λ n. IsTrue (has_thread n a)) (sym shape) there) (ap (λ (t : Thread). t.state) one ∙ e) not.1 ∙ one

pub told_idle : (value : ℕ) (t : Thread) → is_idle t.state ≡ true → told value t ≡ answered value t
told_idle value t e = ap (λ b. cond b (answered value t) t) e

pub idle_answered : (start rest said end new : WorldView) (history later : List Event) (t : ThreadId) (n : ℕ) → IsStart start → Walk start history rest → IsTrue (has_thread rest.shape t.0) → is_idle (thread_of rest t.0).state ≡ true →
    happened event.Announce rest ≡ Some said → Walk said later end → AllByRecursion (IsNoTurnOf t.0) later → happened (event.Turn t n) end ≡ Some new →
    thread_of end t.0 ≡ answered (value_of (detector_on said).answer) (thread_of rest t.0)
idle_answered start rest said end new history later t n s walk there idle h behind not turn =
    let g = good_start start s in
    let q = quiet_start start s g in
    let good = walk_good history start rest g q walk in
    let quiet = (walk_quiet history start rest g.limits q walk).0 in
    let good_said = event_good event.Announce rest said good quiet h in
    let quiet_said = event_quiet event.Announce rest said good.limits quiet h in
    let good_end = walk_good later said end good_said quiet_said behind in
    let quiet_end = (walk_quiet later said end good_said.limits quiet_said behind).0 in
    let value = value_of (detector_on said).answer in
    let learns = thread_learns rest said t.0 good quiet h there in
    let has : thread_of (settled said) t.0 ≡ answered value (thread_of rest t.0) = learns.1 ∙ told_idle value (thread_of rest t.0) idle in
    let stays = walk_waits later said end t.0 value good_said quiet_said behind (subst (λ m. IsTrue (has_thread m t.0)) (sym learns.0) there) (ap (λ (x : Thread). x.state) has) not in
    sym (turn_settled t n end new good_end quiet_end turn) ∙ (stays ∙ has)
