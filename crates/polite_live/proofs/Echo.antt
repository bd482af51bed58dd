-- What holds of threads and of letters at each moment of a run of a graph's bag machine, beside what `polite_edges` says of nodes.
use Rattle.std.proofs.Common.{ℕ, ◌^◌, ◌<◌, ◌≡◌, ◌∙◌, true, List, [], ◌∷◌, refl, sym, ap, subst, inl, inr, arith, Option, Some, None}
use Rattle.std.specs.Prelude.{is_some, unwrap_or}
use Rattle.std.specs.List.{AllByRecursion}
use Rattle.std.proofs.lemmas.Bool.{cases_Bool, cases_eq}
use Rattle.polite_switch.specs.SwitchModel.{SwitchModel}
use Rattle.polite_switch.specs.Table.{dispatched}
use Rattle.rv_isa.specs.declared.instr.Instr.{Instr}
use Rattle.tn_base.specs.declared.message.Letter.{Letter}
use Rattle.tn_base.specs.declared.op.Op.{Op}
use Rattle.tn_base.specs.declared.op.Op.TheVariants as op
use Rattle.tn_keys.specs.Reach.{Reach}
use Rattle.tn_thread.specs.declared.state.ThreadState.{ThreadState}
use Rattle.tn_thread.specs.declared.state.ThreadState.TheVariants as state
use Rattle.tn_thread.specs.declared.thread.Thread.{Thread}
use Rattle.tn_thread.specs.Dispatch.{view_of}
use Rattle.tn_thread.specs.Sight.{Sight}
use Rattle.tn_thread.specs.Step.{runnable}
use Rattle.tn_tile.specs.Rows.{told}
use Rattle.tn_tile.specs.Step.{due_by}
use Rattle.tn_letters.specs.declared.steps.BagStep.{BagStep}
use Rattle.tn_letters.specs.declared.steps.BagStep.TheVariants as bag
use Rattle.tn_letters.specs.declared.steps.Seen.{Seen}
use Rattle.tn_letters.specs.Machine.{BagRun, Happens as Steps, MayStep, answer, ended_by, own_step, sent_by, sight, with_own_step}
use Rattle.tn_letters.specs.State.{BagState, Program, Same}
use Rattle.polite_edges.specs.declared.deed.Deed.{Deed}
use Rattle.polite_edges.specs.Deeds.{added, deed_of, value_of}
use Rattle.polite_edges.specs.Layout.{Layout}
use Rattle.polite_edges.specs.Runs.{FewSteps, IsAwait, deed_at, deeds_after, dispatch_deed, doer_of, thread_deed, unless_trap}
use Rattle.polite_edges.proofs.Fine.{NodeFine}
use Rattle.polite_edges.proofs.Joining.{Beside, Inv, Premises, Shows, event_keeps, program, world}
use Rattle.polite_edges.proofs.Late.{NodeLate, Silent}
use Rattle.polite_edges.proofs.Nodes.{Has, Node}
use Rattle.polite_edges.proofs.Scans.{IfOf, deed_is_of, value_kept}
use Rattle.polite_edges.proofs.Shown.{Shown}
use Rattle.polite_live.proofs.Courses.{AllClose, event_closes}
use Rattle.polite_live.proofs.Joined.{bag_next, freed_beside, hand_beside, idle_beside, private_beside, put_at, put_beside, run_rises, same_inv, same_shows, sent_beside}
use Rattle.polite_live.proofs.Keyless.{IsKeyless, next_keyless}
use Rattle.polite_live.proofs.Letters.{ended_flight, for_threads, is_for_thread, sent_to_host, taken_out}
use Rattle.polite_live.proofs.Steps.{EndsSo, IsEnd, WaitsSo, next_waits}

-- ---- what holds

-- a dead thread holds no letter
abbrev pub HoldsNothing : ThreadState → (ℕ → Option Letter) → Type 0
HoldsNothing state.Run held = Unit {0}
HoldsNothing (state.Wait waits) held = Unit {0}
HoldsNothing (state.Idle vote) held = Unit {0}
HoldsNothing (state.Answered value) held = Unit {0}
HoldsNothing (state.Dead value) held = (slot : ℕ) → held slot ≡ None
HoldsNothing (state.Trapped why) held = Unit {0}

pub record ThreadKept (t : Thread) (held : ℕ → Option Letter) : Type 0 where
  pub waits : WaitsSo t.state t.switch
  pub ended : HoldsNothing t.state held

-- the threads wait and end so; and after an announcement of 2 no letter is on its way to a thread
pub record Kept (g : Layout) (s : BagState) (deeds : List Deed) : Type 0 where
  pub threads : (a : ℕ) → Has g a → ThreadKept (s.threads a) (s.held a)
  pub quiet : value_of deeds ≡ 2 → for_threads s.flight ≡ 0

pub record Echo (g : Layout) (s : BagState) (node : ℕ → Node) (deeds : List Deed) : Type 0 where
  pub closes : AllClose g node
  pub kept : Kept g s deeds

-- ---- the thread that makes a step

abbrev in_state : ThreadState → Thread → Thread
in_state st t = record t { state = st }

-- what the node tells of the thread
record Own (t : Thread) (nd : Node) : Type 0 where
  firmware : t.firmware ≡ true
  switch : t.switch ≡ Some nd.switch

own_in : (st : ThreadState) (seen : Sight) (t : Thread) (held : ℕ → Option Letter) (nd : Node) → Shown (in_state st t) held nd → runnable seen st ≡ true → Own (in_state st t) nd
own_in state.Run seen t held nd sh can = record { firmware = sh.carries.firmware; switch = sh.carries.switch }
own_in (state.Wait waits) seen t held nd sh can = record { firmware = sh.carries.firmware; switch = sh.carries.switch }
own_in (state.Idle vote) seen t held nd sh can = record { firmware = sh.carries.firmware; switch = sh.carries.switch }
own_in (state.Answered value) seen t held nd sh can = record { firmware = sh.carries.firmware; switch = sh.carries.switch }
own_in (state.Dead value) seen t held nd sh can = absurd cc
own_in (state.Trapped why) seen t held nd sh can = absurd cc

own_of : (seen : Sight) (t : Thread) (held : ℕ → Option Letter) (nd : Node) → Shown t held nd → runnable seen t.state ≡ true → Own t nd
own_of seen t held nd sh can = own_in t.state seen t held nd sh can

-- after an announcement of 2 the next dispatch sends nothing by a key
silent_at : (g : Layout) (a : ℕ) (log : List Deed) (n : Node) → NodeFine g a log n → NodeLate n → value_of log ≡ 2 → Silent n.switch.course
silent_at g a log n f l two = elim (cases_Bool (is_some _)) [
  | inl some ↦ l.silent some
  | inr none ↦ absurd (f.phase.not_late none two)
]

some_switch : (x y : SwitchModel) → (let o : Option SwitchModel = Some x in o) ≡ Some y → x ≡ y
some_switch x y e = ap (λ o. unwrap_or o x) e

nothing_held : (st : ThreadState) (o : Op) (now : ℕ → Option Letter) → EndsSo st o → (IsEnd o → (slot : ℕ) → now slot ≡ None) → HoldsNothing st now
nothing_held state.Run o now e f = tt
nothing_held (state.Wait waits) o now e f = tt
nothing_held (state.Idle vote) o now e f = tt
nothing_held (state.Answered value) o now e f = tt
nothing_held (state.Dead value) o now e f = f e
nothing_held (state.Trapped why) o now e f = tt

-- a thread's deed is no announcement
trap_of : (a : ℕ) (o : Op) (deed : Option Deed) → IfOf a deed → IfOf a (unless_trap o deed)
trap_of a op.None deed f = f
trap_of a (op.Send to bytes) deed f = f
trap_of a op.Hand deed f = f
trap_of a (op.Free slot) deed f = f
trap_of a (op.Idle vote) deed f = f
trap_of a (op.Kill value) deed f = f
trap_of a (op.Trap why) deed f = tt

dispatch_of : (due : Option SwitchModel) (a : ℕ) (t : Thread) (held : Option Letter) (seen : Sight) (asked : Op) → IfOf a (dispatch_deed due a t held seen asked)
dispatch_of None a t held seen asked = tt
dispatch_of (Some s) a t held seen asked =
    let d = dispatched (view_of seen t) s in
    trap_of a asked (deed_of d.action d.switch.course.call (doer_of a t s held)) (deed_is_of d.action d.switch.course.call (doer_of a t s held))

thread_of : (m : Program) (a : ℕ) (seen : Seen) (s : BagState) → IfOf a (thread_deed m a seen s)
thread_of m a seen s = dispatch_of (due_by (s.threads a).state (m.code a) (s.threads a)) a (s.threads a) (s.held a (s.threads a).hand) (sight seen a s) (own_step m a seen s).op

as_kept : (t u : Thread) (h k : ℕ → Option Letter) → t ≡ u → h ≡ k → ThreadKept u k → ThreadKept t h
as_kept t u h k e f x = subst (λ a. ThreadKept a h) (sym e) (subst (λ a. ThreadKept u a) (sym f) x)

-- a step of one thread
own_kept : (g : Layout) (code : ℕ → List (Option Instr)) (reach : Reach) (a : ℕ) (seen : Seen) (s new : BagState) (node : ℕ → Node) (deeds : List Deed) → let m = program g code reach in
    Inv g (world s.flight node deeds) → Shows g s node → Kept g s deeds → MayStep m s a seen → Beside m a seen s new → (IsEnd (own_step m a seen s).op → (slot : ℕ) → new.held a slot ≡ None) →
    (IsKeyless (own_step m a seen s).op → for_threads s.flight ≡ 0 → for_threads new.flight ≡ 0) → Kept g new (added (thread_deed m a seen s) deeds)
own_kept g code reach a seen s new node deeds i sh k may b ends flight =
    let m = program g code reach in
    let own = own_of (sight seen a s) (s.threads a) (s.held a) (node a) (sh.nodes a may.there) may.runnable in
    let step = next_waits (code a) (sight seen a s) (s.threads a) may.runnable own.firmware in
    let now : new.threads a ≡ (own_step m a seen s).thread = ap (λ (f : ℕ → Thread). f a) b.threads ∙ put_at s.threads a (own_step m a seen s).thread in
    let mine : ThreadKept (own_step m a seen s).thread (new.held a) = record { waits = step.waits; ended = nothing_held (own_step m a seen s).thread.state (own_step m a seen s).op (new.held a) step.ends ends } in
    record {
      threads = λ c has. elim (cases_eq c a) [
        | inl same ↦ subst (λ x. ThreadKept (new.threads x) (new.held x)) (sym same) (as_kept (new.threads a) (own_step m a seen s).thread (new.held a) (new.held a) now refl mine)
        | inr ne ↦ as_kept (new.threads c) (s.threads c) (new.held c) (s.held c) (ap (λ (f : ℕ → Thread). f c) b.threads ∙ put_beside s.threads a c (own_step m a seen s).thread ne) (b.held c ne) (k.threads c has)
      ];
      quiet = λ two.
          let before : value_of deeds ≡ 2 = sym (value_kept a (thread_deed m a seen s) deeds (thread_of m a seen s)) ∙ two in
          let silent : Silent (node a).switch.course = silent_at g a deeds (node a) (i.fine.nodes a may.there) (i.late.nodes a may.there) before in
          let keyless = next_keyless (code a) (sight seen a s) (s.threads a) own.firmware (λ x runs is. subst (λ (y : SwitchModel). Silent y.course) (some_switch (node a).switch x (sym own.switch ∙ is)) silent) in
          flight keyless (k.quiet before);
    }

-- ---- what each step leaves

ended_holds : (o : Op) (a : ℕ) (s new : BagState) → new ≡ ended_by o a s → IsEnd o → (slot : ℕ) → new.held a slot ≡ None
ended_holds op.None a s new e x slot = absurd x
ended_holds (op.Send to bytes) a s new e x slot = absurd x
ended_holds op.Hand a s new e x slot = absurd x
ended_holds (op.Free k) a s new e x slot = absurd x
ended_holds (op.Idle vote) a s new e x slot = absurd x
ended_holds (op.Kill value) a s new e x slot = ap (λ (b : BagState). b.held a slot) e ∙ ap (λ (f : ℕ → Option Letter). f slot) (put_at s.held a (λ k. None))
ended_holds (op.Trap why) a s new e x slot = absurd x

sent_no_end : (o : Op) (m : Program) (a number : ℕ) (s new : BagState) → sent_by m a number o s ≡ Some new → IsEnd o → ⊥
sent_no_end op.None m a number s new e x = x
sent_no_end (op.Send to bytes) m a number s new e x = x
sent_no_end op.Hand m a number s new e x = x
sent_no_end (op.Free slot) m a number s new e x = x
sent_no_end (op.Idle vote) m a number s new e x = x
sent_no_end (op.Kill value) m a number s new e x = absurd cc
sent_no_end (op.Trap why) m a number s new e x = x

told_kept : (st : ThreadState) (v : ℕ) (t : Thread) (held : ℕ → Option Letter) → ThreadKept (in_state st t) held → ThreadKept (told v (in_state st t)) held
told_kept state.Run v t held k = k
told_kept (state.Wait waits) v t held k = k
told_kept (state.Idle vote) v t held k = record { waits = tt; ended = tt }
told_kept (state.Answered value) v t held k = k
told_kept (state.Dead value) v t held k = k
told_kept (state.Trapped why) v t held k = k

-- a step that changes neither threads nor what they hold
beside_kept : (g : Layout) (s new : BagState) (deeds : List Deed) → Kept g s deeds → new.threads ≡ s.threads → new.held ≡ s.held → (for_threads s.flight ≡ 0 → for_threads new.flight ≡ 0) → Kept g new deeds
beside_kept g s new deeds k t h flight = record {
  threads = λ a has. as_kept (new.threads a) (s.threads a) (new.held a) (s.held a) (ap (λ (f : ℕ → Thread). f a) t) (ap (λ (f : ℕ → ℕ → Option Letter). f a) h) (k.threads a has);
  quiet = λ two. flight (k.quiet two);
}

bag_kept : (g : Layout) (code : ℕ → List (Option Instr)) (reach : Reach) (step : BagStep) (s new : BagState) (node : ℕ → Node) (deeds : List Deed) → let m = program g code reach in
    Inv g (world s.flight node deeds) → Shows g s node → Kept g s deeds → Steps m step s new → Kept g new (added (deed_at m step s) deeds)
bag_kept g code reach (bag.Private a seen) s new node deeds i sh k h =
    let m = program g code reach in
    let b = private_beside (own_step m a seen s).op g reach m a (s.threads a).sends seen None s new h.1 h.2 in
    own_kept g code reach a seen s new node deeds i sh k h.0 b.0 (ended_holds (own_step m a seen s).op a (with_own_step m a seen s) new h.2)
    (λ keyless z. ap for_threads (ap (λ (x : BagState). x.flight) h.2 ∙ ended_flight (own_step m a seen s).op a (with_own_step m a seen s)) ∙ z)
bag_kept g code reach (bag.Send a seen) s new node deeds i sh k h =
    let m = program g code reach in
    let b = sent_beside (own_step m a seen s).op g code reach a seen None s new h.1 in
    own_kept g code reach a seen s new node deeds i sh k h.0 b.0 (λ end slot. absurd (sent_no_end (own_step m a seen s).op m a (s.threads a).sends (with_own_step m a seen s) new h.1 end))
    (λ keyless z. sent_to_host (own_step m a seen s).op m a (s.threads a).sends (with_own_step m a seen s) new h.1 keyless z)
bag_kept g code reach (bag.Hand a seen l) s new node deeds i sh k h =
    let m = program g code reach in
    let b = hand_beside g code reach a seen l s new h.2.0 h.2.1 h.2.2 h.2.3 in
    own_kept g code reach a seen s new node deeds i sh k h.0 b.0 (λ end slot. absurd (subst IsEnd h.1 end))
    (λ keyless z. taken_out l s.flight h.2.0 new.flight h.2.2 (ap (λ (x : BagState). x.flight) h.2.3) z)
bag_kept g code reach (bag.Free a seen slot) s new node deeds i sh k h =
    let m = program g code reach in
    let b = freed_beside g code reach a slot seen None s new h.2 in
    own_kept g code reach a seen s new node deeds i sh k h.0 b.0 (λ end j. absurd (subst IsEnd h.1 end)) (λ keyless z. ap for_threads (ap (λ (x : BagState). x.flight) h.2) ∙ z)
bag_kept g code reach (bag.Idle a seen vote) s new node deeds i sh k h =
    let m = program g code reach in
    let b = idle_beside g code reach a vote seen None s new h.2 in
    own_kept g code reach a seen s new node deeds i sh k h.0 b.0 (λ end j. absurd (subst IsEnd h.1 end)) (λ keyless z. ap for_threads (ap (λ (x : BagState). x.flight) h.2) ∙ z)
bag_kept g code reach bag.Announce s new node deeds i sh k h = record {
  threads = λ a has.
      as_kept (new.threads a) (told (answer g.shape s) (s.threads a)) (new.held a) (s.held a) (ap (λ (x : BagState). x.threads a) h.1) (ap (λ (x : BagState). x.held a) h.1)
      (told_kept (s.threads a).state (answer g.shape s) (s.threads a) (s.held a) (k.threads a has));
  quiet = λ two. ap for_threads (ap (λ (x : BagState). x.flight) h.1 ∙ h.0.flight);
}
bag_kept g code reach (bag.HostSend l) s new node deeds i sh k h = absurd (let w = subst (AllByRecursion IsAwait) h.1 sh.script in w.0)
bag_kept g code reach (bag.HostHand l) s new node deeds i sh k h =
    beside_kept g s new deeds k (ap (λ (x : BagState). x.threads) h.3) (ap (λ (x : BagState). x.held) h.3) (λ z. taken_out l s.flight h.0 new.flight h.1 (ap (λ (x : BagState). x.flight) h.3) z)
bag_kept g code reach (bag.Discard l) s new node deeds i sh k h =
    beside_kept g s new deeds k (ap (λ (x : BagState). x.threads) h.4) (ap (λ (x : BagState). x.held) h.4) (λ z. taken_out l s.flight h.0 new.flight h.1 (ap (λ (x : BagState). x.flight) h.4) z)

-- ---- runs

same_kept : (g : Layout) (s t : BagState) (deeds : List Deed) → Same g.shape s t → Kept g s deeds → Kept g t deeds
same_kept g s t deeds same k = record {
  threads = λ a has. as_kept (t.threads a) (s.threads a) (t.held a) (s.held a) (sym (same.threads a has)) (λ i slot. sym (same.held a slot has) i) (k.threads a has);
  quiet = λ two. sym (same.flight.each is_for_thread) ∙ k.quiet two;
}

-- what holds at the end of a run with these deeds
pub record EndsWith (g : Layout) (end : BagState) (deeds : List Deed) : Type 0 where
  pub node : ℕ → Node
  pub inv : Inv g (world end.flight node deeds)
  pub shows : Shows g end node
  pub echo : Echo g end node deeds

pub run_echo : (g : Layout) (code : ℕ → List (Option Instr)) (reach : Reach) (steps : List BagStep) (s end : BagState) (node : ℕ → Node) (deeds : List Deed) → let m = program g code reach in
    Premises g code reach → FewSteps g end → Inv g (world s.flight node deeds) → Shows g s node → Echo g s node deeds → (run : BagRun m s steps end) → EndsWith g end (deeds_after deeds m s steps end run)
run_echo g code reach [] s end node deeds p few i sh e run = record {
  node = node;
  inv = same_inv g p.listed s end node deeds p.routed run i;
  shows = same_shows g s end node run sh;
  echo = record { closes = e.closes; kept = same_kept g s end deeds run e.kept };
}
run_echo g code reach (step ∷ steps) s end node deeds p few i sh e run =
    let m = program g code reach in
    let i' = same_inv g p.listed s run.0 node deeds p.routed run.2 i in
    let sh' = same_shows g s run.0 node run.2 sh in
    let low = λ (a : ℕ) (has : Has g a). let r = run_rises m steps run.1 end a has run.4 in let f = few.few a has in let x : (run.1.threads a).steps < 2 ^ 32 = omega arith in x in
    let n = bag_next g code reach step run.0 run.1 node deeds p i' sh' low run.3 in
    let old = world run.0.flight node deeds in
    let new = world run.1.flight n.later (added (deed_at m step run.0) deeds) in
    let j = event_keeps g p.listed n.event old new p.routed i' n.happens in
    let closes = event_closes g n.event old new i'.fine e.closes n.happens in
    let kept = bag_kept g code reach step run.0 run.1 node deeds i' sh' (same_kept g s run.0 deeds run.2 e.kept) run.3 in
    run_echo g code reach steps run.1 end n.later (added (deed_at m step run.0) deeds) p few j n.shows (record { closes = closes; kept = kept }) run.4
