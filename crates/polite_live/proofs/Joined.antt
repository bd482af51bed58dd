-- Each step of the bag machine of a graph is an event of nodes. These lemmas are private in `polite_edges` (`Joining`), and stand here a second time.
use Rattle.std.proofs.Common.{ℕ, zero, suc, ◌+◌, ◌^◌, ◌<◌, ◌≤◌, ◌≡◌, ◌≢◌, ◌⊎◌, ◌∙◌, cond, Bool, true, false, List, [], ◌∷◌, length, refl, sym, ap, subst, inl, inr, arith, Option, Some, None}
use Rattle.std.specs.Prelude.{is_some, map, unwrap_or}
use Rattle.std.specs.List.{AllByRecursion, list_all, range_with_len}
use Rattle.std.proofs.lemmas.Bool.{and_cases, cases_eq, eq-eqb, ne_eqb}
use Rattle.std.proofs.lemmas.List.Sums.{sum_by-cons}
use Rattle.std.specs.Option.{ForSome}
use Rattle.polite_switch.specs.declared.course.Call.{Call}
use Rattle.polite_switch.specs.Device.{device_at, key_at}
use Rattle.polite_switch.specs.DeviceModel.{DeviceModel}
use Rattle.polite_switch.specs.Table.{sent_key}
use Rattle.rv_isa.specs.declared.instr.Instr.{Instr}
use Rattle.tn_base.specs.declared.message.Letter.{Letter}
use Rattle.tn_base.specs.declared.op.Op.{Op}
use Rattle.tn_base.specs.declared.op.Op.TheVariants as op
use Rattle.tn_base.specs.declared.shape.ShapeNumbers.{ShapeNumbers}
use Rattle.tn_base.specs.Address.{has_thread, thread_at}
use Rattle.tn_base.specs.Shape.{thread_count}
use Rattle.tn_host.specs.declared.script.ScriptItem.{ScriptItem}
use Rattle.tn_host.specs.declared.script.ScriptItem.TheVariants as item
use Rattle.tn_host.specs.Script.{past_await}
use Rattle.tn_keys.specs.Reach.{Reach}
use Rattle.tn_thread.specs.declared.state.ThreadState.{ThreadState}
use Rattle.tn_thread.specs.declared.state.ThreadState.TheVariants as state
use Rattle.tn_thread.specs.declared.thread.Thread.{Thread}
use Rattle.tn_thread.specs.Step.{answered, is_idle}
use Rattle.tn_tile.specs.Receivers.{is_dead}
use Rattle.tn_tile.specs.Rows.{told}
use Rattle.tn_tile.specs.Still.{does_nothing, votes_for}
use Rattle.tn_tile.proofs.Moved.{next_fits}
use Rattle.tn_letters.specs.declared.steps.BagStep.{BagStep}
use Rattle.tn_letters.specs.declared.steps.BagStep.TheVariants as bag
use Rattle.tn_letters.specs.declared.steps.Seen.{Seen}
use Rattle.tn_letters.specs.Letters.{Takes, host_address}
use Rattle.tn_letters.specs.Machine.{Allows, BagRun, Happens as Steps, IsAllowed, IsAtRest, IsPrivate, MayStep, addresses, announced, answer, ended_by, freed, handed, own_step, sent_by, sight, with_own_step}
use Rattle.tn_letters.specs.State.{BagState, Program, Same, put}
use Rattle.polite_edges.specs.declared.deed.Deed.{Deed}
use Rattle.polite_edges.specs.declared.deed.Deed.TheVariants.{Announced}
use Rattle.polite_edges.specs.Deeds.{Item, added}
use Rattle.polite_edges.specs.Layout.{AllRouted, IsKeyOf, Layout}
use Rattle.polite_edges.specs.Runs.{IsAwait, deed_at, thread_deed}
use Rattle.polite_edges.proofs.Bags.{bag_weighs}
use Rattle.polite_edges.proofs.Leaving.{host_brings}
use Rattle.polite_edges.proofs.Nodes.{Dead, Does, Drop, Event, Goes, Happens, Has, Idling, Node, Nothing, Rests, SameFlight, Sees, brings, flying, status_by}
use Rattle.polite_edges.proofs.Shown.{Asked, Hands, Local, SeenIs, Shown, StateShown, at_thread}
use Rattle.polite_edges.proofs.Stepping.{step_leaves}
use Rattle.polite_edges.proofs.Threads.{Listed}
use Rattle.polite_edges.proofs.Joining.{Beside, Inv, Next, Premises, Shows, event_keeps, program, world}

pub put_at : {A : Type 0} (f : ℕ → A) (a : ℕ) (x : A) → put f a x a ≡ x
put_at f a x = ap (λ b. cond b x (f a)) (eq-eqb a a refl)

pub put_beside : {A : Type 0} (f : ℕ → A) (a b : ℕ) (x : A) → b ≢ a → put f a x b ≡ f b
put_beside f a b x ne = ap (λ c. cond c x (f b)) (ne_eqb b a ne)

-- a node that is put where it was
put_back : (node : ℕ → Node) (a b : ℕ) (x : Node) → x ≡ node a → put node a x b ≡ node b
put_back node a b x e = elim (cases_eq b a) [
  | inl same ↦ ap (λ c. cond c x (node b)) (eq-eqb b a same) ∙ (e ∙ ap node (sym same))
  | inr ne ↦ put_beside node a b x ne
]

-- the event of one thread
make_event : (g : Layout) (a : ℕ) (node : ℕ → Node) (x : Node) (old new : List Letter) (deed : Option Deed) (deeds : List Deed) → Has g a → Local g a (node a) x old new deed → (e : Event) × Happens g e (world old node deeds) (world new (put node a x) (added deed deeds))
make_event g a node x old new deed deeds has (inl (inl u)) = (Nothing, record { nodes = λ b hb. put_back node a b x u.node; flight = u.flight; deeds = ap (λ d. added d deeds) u.deed_is })
make_event g a node x old new deed deeds has (inl (inr u)) =
    (Goes a, record { thread = has; idle = u.idle; node = put_at node a x ∙ u.node; others = record { other = λ b hb ne. put_beside node a b x ne }; flight = u.flight; deeds = ap (λ d. added d deeds) u.deed_is })
make_event g a node x old new deed deeds has (inr (inl u)) =
    (Sees a u.value, record { thread = has; answered = u.answered; node = put_at node a x ∙ u.node; others = record { other = λ b hb ne. put_beside node a b x ne }; flight = u.flight; deeds = ap (λ d. added d deeds) u.deed_is })
make_event g a node x old new deed deeds has (inr (inr u)) = (
  Does (at_thread a u.dispatch) u.result,
  record {
    thread = has;
    going = u.going;
    safe = u.safe;
    result = u.is;
    node = put_at node a x ∙ u.node;
    others = record { other = λ b hb ne. put_beside node a b x ne };
    flight = u.flight;
    deeds = ap (λ d. added d deeds) u.deed_is;
  },
)

shown_as : (t u : Thread) (h k : ℕ → Option Letter) (x y : Node) → t ≡ u → h ≡ k → x ≡ y → Shown u k y → Shown t h x
shown_as t u h k x y e f i s = subst (λ a. Shown a h x) (sym e) (subst (λ a. Shown u a x) (sym f) (subst (λ a. Shown u k a) (sym i) s))

-- the key of a pin that a device sent by
key_of : (g : Layout) (a key : ℕ) (devices : List DeviceModel) (call : Option Call) → ForSome call (λ c. c.device < length devices) → sent_key devices call ≡ Some key → devices ≡ g.devices a → IsKeyOf g a key
key_of g a key devices None fits e same = absurd cc
key_of g a key devices (Some call) fits e same = record {
  device = call.device;
  pin = call.pin;
  there = subst (λ (ds : List DeviceModel). call.device < length ds) same (fits call refl);
  is = subst (λ (ds : List DeviceModel). key_at (device_at ds call.device) call.pin ≡ Some key) same e;
}

-- a step of one thread
thread_next : (g : Layout) (code : ℕ → List (Option Instr)) (reach : Reach) (a : ℕ) (seen : Seen) (o : Option Letter) (s new : BagState) (node : ℕ → Node) (deeds : List Deed) → let m = program g code reach in
    Premises g code reach → Inv g (world s.flight node deeds) → Shows g s node → SeenIs seen o → MayStep m s a seen → (new.threads a).steps < 2 ^ 32 → Beside m a seen s new →
    Asked g g.shape reach a (s.threads a).sends seen o (own_step m a seen s).op (s.held a) (new.held a) s.flight new.flight → Next g s new node deeds (thread_deed m a seen s)
thread_next g code reach a seen o s new node deeds p i sh si may few b asked =
    let m = program g code reach in
    let has = may.there in
    let fits = next_fits (code a) (sight seen a s) (s.threads a) may.runnable in
    let now : new.threads a ≡ (own_step m a seen s).thread = ap (λ (f : ℕ → Thread). f a) b.threads ∙ put_at s.threads a (own_step m a seen s).thread in
    let steps : (new.threads a).steps ≡ (own_step m a seen s).thread.steps = ap (λ (t : Thread). t.steps) now in
    let counted = fits.steps in
    let l = step_leaves g g.shape reach (code a) a seen o (s.threads a) (s.held a) (new.held a) (node a) s.flight new.flight
    (record { seen_is = si; hand = (i.fine.nodes a has).hand; reach_is = λ key bytes e. p.reach_is a key bytes has (key_of g a key (node a).switch.devices (node a).switch.course.call (i.fine.nodes a has).kept.fits.course.call e (i.fine.nodes a has).devices); host = p.host; code_ends = p.code_ends a has })
    (sh.nodes a has) may.runnable (record { firmware = fits.keeps.firmware; steps = fits.steps }) (omega arith) asked in
    let e = make_event g a node l.node s.flight new.flight (thread_deed m a seen s) deeds has l.local in
    record {
      later = put node a l.node;
      event = e.0;
      happens = e.1;
      shows = record {
        nodes = λ c hc. elim (cases_eq c a) [
          | inl same ↦ subst (λ k. Shown (new.threads k) (new.held k) (put node a l.node k)) (sym same) (shown_as (new.threads a) (own_step m a seen s).thread (new.held a) (new.held a) (put node a l.node a) l.node now refl (put_at node a l.node) l.shown)
          | inr ne ↦ shown_as (new.threads c) (s.threads c) (new.held c) (s.held c) (put node a l.node c) (node c) (ap (λ (f : ℕ → Thread). f c) b.threads ∙ put_beside s.threads a c (own_step m a seen s).thread ne) (b.held c ne) (put_beside node a c l.node ne) (sh.nodes c hc)
        ];
        script = subst (AllByRecursion IsAwait) (sym b.script) sh.script;
      };
    }

-- ---- what the machine does when a thread asks

seen_letter : (n : ShapeNumbers) (s : BagState) (a : ℕ) (seen : Seen) → IsAllowed n s a seen → (o : Option Letter) × SeenIs seen o
seen_letter n s a seen (inl none) = (None, record { first = ap is_some none.0; key = none.1 })
seen_letter n s a seen (inr some) = (Some some.0, record { first = ap is_some some.1.first; key = some.1.key })

same_flight : (g : Layout) (old new : List Letter) → new ≡ old → SameFlight g old new
same_flight g old new e w = ap (λ ls. flying w g ls) e

pub private_beside : (o : Op) (g : Layout) (reach : Reach) (m : Program) (a number : ℕ) (seen : Seen) (l : Option Letter) (s new : BagState) → IsPrivate o → new ≡ ended_by o a (with_own_step m a seen s) →
    Beside m a seen s new × Asked g g.shape reach a number seen l o (s.held a) (new.held a) s.flight new.flight
private_beside op.None g reach m a number seen l s new p e = (
  record { threads = ap (λ (x : BagState). x.threads) e; held = λ b ne. ap (λ (x : BagState). x.held b) e; script = ap (λ (x : BagState). x.script) e },
  (same_flight g s.flight new.flight (ap (λ (x : BagState). x.flight) e), ap (λ (x : BagState). x.held a) e),
)
private_beside (op.Send to bytes) g reach m a number seen l s new p e = absurd p
private_beside op.Hand g reach m a number seen l s new p e = absurd p
private_beside (op.Free slot) g reach m a number seen l s new p e = absurd p
private_beside (op.Idle vote) g reach m a number seen l s new p e = absurd p
private_beside (op.Kill value) g reach m a number seen l s new p e = (
  record { threads = ap (λ (x : BagState). x.threads) e; held = λ b ne. ap (λ (x : BagState). x.held b) e ∙ put_beside s.held a b (λ slot. None) ne; script = ap (λ (x : BagState). x.script) e },
  same_flight g s.flight new.flight (ap (λ (x : BagState). x.flight) e),
)
private_beside (op.Trap why) g reach m a number seen l s new p e = (
  record { threads = ap (λ (x : BagState). x.threads) e; held = λ b ne. ap (λ (x : BagState). x.held b) e; script = ap (λ (x : BagState). x.script) e },
  same_flight g s.flight new.flight (ap (λ (x : BagState). x.flight) e),
)

pub sent_beside : (o : Op) (g : Layout) (code : ℕ → List (Option Instr)) (reach : Reach) (a : ℕ) (seen : Seen) (l : Option Letter) (s new : BagState) → let m = program g code reach in
    sent_by m a (s.threads a).sends o (with_own_step m a seen s) ≡ Some new → Beside m a seen s new × Asked g g.shape reach a (s.threads a).sends seen l o (s.held a) (new.held a) s.flight new.flight
sent_beside op.None g code reach a seen l s new e = absurd cc
sent_beside (op.Send to bytes) g code reach a seen l s new e =
    let is = sym (ap (λ x. unwrap_or x new) e) in (
      record { threads = ap (λ (x : BagState). x.threads) is; held = λ b ne. ap (λ (x : BagState). x.held b) is; script = ap (λ (x : BagState). x.script) is },
      (λ w. ap (λ (x : BagState). flying w g x.flight) is, ap (λ (x : BagState). x.held a) is),
    )
sent_beside op.Hand g code reach a seen l s new e = absurd cc
sent_beside (op.Free slot) g code reach a seen l s new e = absurd cc
sent_beside (op.Idle vote) g code reach a seen l s new e = absurd cc
sent_beside (op.Kill value) g code reach a seen l s new e = absurd cc
sent_beside (op.Trap why) g code reach a seen l s new e = absurd cc

takes_weigh : (g : Layout) (l : Letter) (old rest new : List Letter) → Takes old l rest → new ≡ rest → (w : Item → ℕ) → flying w g old ≡ flying w g (l ∷ new)
takes_weigh g l old rest new takes e w = bag_weighs old (l ∷ rest) (brings w g) takes ∙ ap (λ ls. flying w g (l ∷ ls)) (sym e)

-- a thread is handed a letter
pub hand_beside : (g : Layout) (code : ℕ → List (Option Instr)) (reach : Reach) (a : ℕ) (seen : Seen) (l : Letter) (s new : BagState) (rest : List Letter) → let m = program g code reach in (allows : Allows m.shape s a seen l) → Takes s.flight l rest →
    new ≡ handed a allows.slot l rest (with_own_step m a seen s) → Beside m a seen s new × Hands g a seen (Some l) (s.held a) (new.held a) s.flight new.flight
hand_beside g code reach a seen l s new rest allows takes e = (
  record {
    threads = ap (λ (x : BagState). x.threads) e;
    held = λ b ne. ap (λ (x : BagState). x.held b) e ∙ put_beside s.held a b (put (s.held a) allows.slot (Some l)) ne;
    script = ap (λ (x : BagState). x.script) e;
  },
  record {
    letter = l;
    slot = allows.slot;
    is_seen = refl;
    first = allows.first;
    flight = takes_weigh g l s.flight rest new.flight takes (ap (λ (x : BagState). x.flight) e);
    receiver = allows.stands.receiver;
    after = ap (λ (x : BagState). x.held a) e ∙ put_at s.held a (put (s.held a) allows.slot (Some l));
  },
)

pub freed_beside : (g : Layout) (code : ℕ → List (Option Instr)) (reach : Reach) (a slot : ℕ) (seen : Seen) (l : Option Letter) (s new : BagState) → let m = program g code reach in new ≡ freed a slot (with_own_step m a seen s) →
    Beside m a seen s new × Asked g g.shape reach a (s.threads a).sends seen l (op.Free slot) (s.held a) (new.held a) s.flight new.flight
freed_beside g code reach a slot seen l s new e = (
  record { threads = ap (λ (x : BagState). x.threads) e; held = λ b ne. ap (λ (x : BagState). x.held b) e ∙ put_beside s.held a b (put (s.held a) slot None) ne; script = ap (λ (x : BagState). x.script) e },
  (same_flight g s.flight new.flight (ap (λ (x : BagState). x.flight) e), ap (λ (x : BagState). x.held a) e ∙ put_at s.held a (put (s.held a) slot None)),
)

pub idle_beside : (g : Layout) (code : ℕ → List (Option Instr)) (reach : Reach) (a : ℕ) (vote : Bool) (seen : Seen) (l : Option Letter) (s new : BagState) → let m = program g code reach in new ≡ with_own_step m a seen s →
    Beside m a seen s new × Asked g g.shape reach a (s.threads a).sends seen l (op.Idle vote) (s.held a) (new.held a) s.flight new.flight
idle_beside g code reach a vote seen l s new e = (
  record { threads = ap (λ (x : BagState). x.threads) e; held = λ b ne. ap (λ (x : BagState). x.held b) e; script = ap (λ (x : BagState). x.script) e },
  (same_flight g s.flight new.flight (ap (λ (x : BagState). x.flight) e), ap (λ (x : BagState). x.held a) e),
)

-- ---- an announcement

some_fails : (p : ℕ → Bool) (f : ℕ → ℕ) (k len : ℕ) → list_all p (map f (range_with_len k len)) ≡ false → (i : ℕ) × (i < k + len) × (p (f i) ≡ false)
some_fails p f k zero e = absurd cc
some_fails p f k (suc len) e = elim (and_cases (p (f k)) (list_all p (map f (range_with_len (k + 1) len))) e) [
  | inl here ↦ (k, omega arith, here)
  | inr later ↦ let r = some_fails p f (k + 1) len later in (r.0, (let less = r.1 in omega arith), r.2)
]

-- a thread that does nothing and does not vote for the end is idle
votes_not : (st : ThreadState) → does_nothing st ≡ true → votes_for st ≡ false → is_idle st ≡ true
votes_not state.Run d v = absurd cc
votes_not (state.Wait waits) d v = absurd cc
votes_not (state.Idle vote) d v = refl
votes_not (state.Answered value) d v = absurd cc
votes_not (state.Dead value) d v = absurd cc
votes_not (state.Trapped why) d v = absurd cc

idle_shown : (st : ThreadState) (t : Thread) (nd : Node) → StateShown st t nd → is_idle st ≡ true → nd.status ≡ Idling
idle_shown state.Run t nd sh i = absurd cc
idle_shown (state.Wait waits) t nd sh i = absurd cc
idle_shown (state.Idle vote) t nd sh i = sh.0
idle_shown (state.Answered value) t nd sh i = absurd cc
idle_shown (state.Dead value) t nd sh i = absurd cc
idle_shown (state.Trapped why) t nd sh i = absurd cc

dead_shown : (st : ThreadState) (t : Thread) (nd : Node) → StateShown st t nd → is_dead st ≡ true → nd.status ≡ Dead
dead_shown state.Run t nd sh i = absurd cc
dead_shown (state.Wait waits) t nd sh i = absurd cc
dead_shown (state.Idle vote) t nd sh i = absurd cc
dead_shown (state.Answered value) t nd sh i = absurd cc
dead_shown (state.Dead value) t nd sh i = sh
dead_shown (state.Trapped why) t nd sh i = absurd cc

rests_shown : (st : ThreadState) (t : Thread) (nd : Node) → StateShown st t nd → does_nothing st ≡ true → (nd.status ≡ Idling) ⊎ (nd.status ≡ Dead)
rests_shown state.Run t nd sh d = absurd cc
rests_shown (state.Wait waits) t nd sh d = absurd cc
rests_shown (state.Idle vote) t nd sh d = inl sh.0
rests_shown (state.Answered value) t nd sh d = absurd cc
rests_shown (state.Dead value) t nd sh d = inr sh
rests_shown (state.Trapped why) t nd sh d = absurd cc

abbrev in_state : ThreadState → Thread → Thread
in_state st t = record t { state = st }

abbrev answered_node : ℕ → Node → Node
answered_node v nd = record nd { status = status_by v nd.status }

told_in : (st : ThreadState) (v : ℕ) (t : Thread) (held : ℕ → Option Letter) (nd : Node) → (v ≡ 1) ⊎ (v ≡ 2) → does_nothing st ≡ true → Shown (in_state st t) held nd → Shown (told v (in_state st t)) held (answered_node v nd)
told_in state.Run v t held nd o d sh = absurd cc
told_in (state.Wait waits) v t held nd o d sh = absurd cc
told_in (state.Idle vote) v t held nd o d sh =
    let c = sh.carries in
    record {
      state = (ap (status_by v) sh.state.0, sh.state.1, o);
      carries = record { firmware = c.firmware; switch = c.switch; sends = c.sends; few = c.few; holds = c.holds };
    }
told_in (state.Answered value) v t held nd o d sh = absurd cc
told_in (state.Dead value) v t held nd o d sh = record { state = ap (status_by v) sh.state; carries = tt }
told_in (state.Trapped why) v t held nd o d sh = absurd cc

-- the value that is announced: if it is 1, a thread is idle
value_told : (g : Layout) (s : BagState) (node : ℕ → Node) (b : Bool) → Listed g.shape → Shows g s node → ((a : ℕ) → Has g a → does_nothing (s.threads a).state ≡ true) → list_all (λ a. votes_for (s.threads a).state) (addresses g.shape) ≡ b →
    let v : ℕ = cond b 2 1 in (v ≡ 2) ⊎ ((v ≡ 1) × ((some : ℕ) × Has g some × ((node some).status ≡ Idling)))
value_told g s node true o sh rest e = inl refl
value_told g s node false o sh rest e =
    let f = some_fails (λ a. votes_for (s.threads a).state) (thread_at g.shape) 0 (thread_count g.shape) e in
    let a = thread_at g.shape f.0 in
    let has = o.there f.0 (let less = f.1 in omega arith) in
    let idle = votes_not (s.threads a).state (rest a has) f.2 in
    inr (refl, (a, has, idle_shown (s.threads a).state (s.threads a) (node a) (sh.nodes a has).state idle))

one_or_two : (b : Bool) → let v : ℕ = cond b 2 1 in (v ≡ 1) ⊎ (v ≡ 2)
one_or_two true = inr refl
one_or_two false = inl refl

past_awaits : (items : List ScriptItem) → AllByRecursion IsAwait items → AllByRecursion IsAwait (past_await items)
past_awaits [] h = tt
past_awaits (item.Send t bytes ∷ items) h = absurd h.0
past_awaits (item.AwaitIdle ∷ items) h = h.1

announce_next : (g : Layout) (code : ℕ → List (Option Instr)) (reach : Reach) (s new : BagState) (node : ℕ → Node) (deeds : List Deed) → Premises g code reach → Shows g s node → IsAtRest g.shape s → new ≡ announced g.shape s → Next g s new node deeds (Some (Announced (answer g.shape s)))
announce_next g code reach s new node deeds p sh rest e =
    let v = answer g.shape s in
    let votes = list_all (λ a. votes_for (s.threads a).state) (addresses g.shape) in
    record {
      later = λ a. answered_node v (node a);
      event = Rests v;
      happens = record {
        empty = λ w. ap (λ ls. flying w g ls) rest.flight;
        idle = λ a has. rests_shown (s.threads a).state (s.threads a) (node a) (sh.nodes a has).state (rest.threads a has);
        live = value_told g s node votes p.listed sh (λ a has. rest.threads a has) refl;
        nodes = λ a has. refl;
        flight = same_flight g s.flight new.flight (ap (λ (x : BagState). x.flight) e);
        deeds = refl;
      };
      shows = record {
        nodes = λ a has.
            shown_as (new.threads a) (told v (s.threads a)) (new.held a) (s.held a) (answered_node v (node a)) (answered_node v (node a)) (ap (λ (x : BagState). x.threads a) e) (ap (λ (x : BagState). x.held a) e) refl
            (told_in (s.threads a).state v (s.threads a) (s.held a) (node a) (one_or_two votes) (rest.threads a has) (sh.nodes a has));
        script = subst (AllByRecursion IsAwait) (sym (ap (λ (x : BagState). x.script) e)) (past_awaits s.script sh.script);
      };
    }

-- a step that changes neither threads nor what they hold
aside : (g : Layout) (s new : BagState) (node : ℕ → Node) → Shows g s node → new.threads ≡ s.threads → new.held ≡ s.held → new.script ≡ s.script → Shows g new node
aside g s new node sh t h c = record {
  nodes = λ a has. shown_as (new.threads a) (s.threads a) (new.held a) (s.held a) (node a) (node a) (ap (λ (f : ℕ → Thread). f a) t) (ap (λ (f : ℕ → ℕ → Option Letter). f a) h) refl (sh.nodes a has);
  script = subst (AllByRecursion IsAwait) (sym c) sh.script;
}

host_takes : (g : Layout) (l : Letter) (old new : List Letter) → g.in_edges host_address ≡ [] → l.receiver ≡ host_address → ((w : Item → ℕ) → flying w g old ≡ flying w g (l ∷ new)) → SameFlight g old new
host_takes g l old new host to h w =
    let e = h w in
    let c = sum_by-cons (brings w g) l new in
    let z = host_brings w g l (ap g.in_edges to ∙ host) in
    omega arith

-- a step of the bag machine
pub bag_next : (g : Layout) (code : ℕ → List (Option Instr)) (reach : Reach) (step : BagStep) (s new : BagState) (node : ℕ → Node) (deeds : List Deed) → let m = program g code reach in
    Premises g code reach → Inv g (world s.flight node deeds) → Shows g s node → ((a : ℕ) → Has g a → (new.threads a).steps < 2 ^ 32) → Steps m step s new → Next g s new node deeds (deed_at m step s)
bag_next g code reach (bag.Private a seen) s new node deeds p i sh few h =
    let m = program g code reach in
    let o = seen_letter g.shape s a seen h.0.allowed in
    let b = private_beside (own_step m a seen s).op g reach m a (s.threads a).sends seen o.0 s new h.1 h.2 in
    thread_next g code reach a seen o.0 s new node deeds p i sh o.1 h.0 (few a h.0.there) b.0 b.1
bag_next g code reach (bag.Send a seen) s new node deeds p i sh few h =
    let m = program g code reach in
    let o = seen_letter g.shape s a seen h.0.allowed in
    let b = sent_beside (own_step m a seen s).op g code reach a seen o.0 s new h.1 in
    thread_next g code reach a seen o.0 s new node deeds p i sh o.1 h.0 (few a h.0.there) b.0 b.1
bag_next g code reach (bag.Hand a seen l) s new node deeds p i sh few h =
    let m = program g code reach in
    let b = hand_beside g code reach a seen l s new h.2.0 h.2.1 h.2.2 h.2.3 in
    thread_next g code reach a seen (Some l) s new node deeds p i sh (record { first = ap is_some h.2.1.first; key = h.2.1.key }) h.0 (few a h.0.there) b.0
    (subst (λ x. Asked g g.shape reach a (s.threads a).sends seen (Some l) x (s.held a) (new.held a) s.flight new.flight) (sym h.1) b.1)
bag_next g code reach (bag.Free a seen slot) s new node deeds p i sh few h =
    let m = program g code reach in
    let o = seen_letter g.shape s a seen h.0.allowed in
    let b = freed_beside g code reach a slot seen o.0 s new h.2 in
    thread_next g code reach a seen o.0 s new node deeds p i sh o.1 h.0 (few a h.0.there) b.0
    (subst (λ x. Asked g g.shape reach a (s.threads a).sends seen o.0 x (s.held a) (new.held a) s.flight new.flight) (sym h.1) b.1)
bag_next g code reach (bag.Idle a seen vote) s new node deeds p i sh few h =
    let m = program g code reach in
    let o = seen_letter g.shape s a seen h.0.allowed in
    let b = idle_beside g code reach a vote seen o.0 s new h.2 in
    thread_next g code reach a seen o.0 s new node deeds p i sh o.1 h.0 (few a h.0.there) b.0
    (subst (λ x. Asked g g.shape reach a (s.threads a).sends seen o.0 x (s.held a) (new.held a) s.flight new.flight) (sym h.1) b.1)
bag_next g code reach bag.Announce s new node deeds p i sh few h = announce_next g code reach s new node deeds p sh h.0 h.1
bag_next g code reach (bag.HostSend l) s new node deeds p i sh few h = absurd (let w = subst (AllByRecursion IsAwait) h.1 sh.script in w.0)
bag_next g code reach (bag.HostHand l) s new node deeds p i sh few h = record {
  later = node;
  event = Nothing;
  happens = record {
    nodes = λ b hb. refl;
    flight = host_takes g l s.flight new.flight p.host h.2 (takes_weigh g l s.flight h.0 new.flight h.1 (ap (λ (x : BagState). x.flight) h.3));
    deeds = refl;
  };
  shows = aside g s new node sh (ap (λ (x : BagState). x.threads) h.3) (ap (λ (x : BagState). x.held) h.3) (ap (λ (x : BagState). x.script) h.3);
}
bag_next g code reach (bag.Discard l) s new node deeds p i sh few h = record {
  later = node;
  event = Drop l.receiver l;
  happens = record {
    thread = h.2;
    dead = dead_shown (s.threads l.receiver).state (s.threads l.receiver) (node l.receiver) (sh.nodes l.receiver h.2).state h.3;
    nodes = λ b hb. refl;
    flight = takes_weigh g l s.flight h.0 new.flight h.1 (ap (λ (x : BagState). x.flight) h.4);
    deeds = refl;
  };
  shows = aside g s new node sh (ap (λ (x : BagState). x.threads) h.4) (ap (λ (x : BagState). x.held) h.4) (ap (λ (x : BagState). x.script) h.4);
}

-- ---- steps of threads only rise

told_steps : (b : Bool) (v : ℕ) (t : Thread) → (let x : Thread = cond b (answered v t) t in x).steps ≡ t.steps
told_steps true v t = refl
told_steps false v t = refl

same_steps : (a : ℕ) (s new : BagState) → new.threads ≡ s.threads → (s.threads a).steps ≤ (new.threads a).steps
same_steps a s new e = let x = ap (λ (f : ℕ → Thread). (f a).steps) e in omega arith

own_steps : (m : Program) (a c : ℕ) (seen : Seen) (s new : BagState) → MayStep m s c seen → new.threads ≡ put s.threads c (own_step m c seen s).thread → (s.threads a).steps ≤ (new.threads a).steps
own_steps m a c seen s new may e = elim (cases_eq a c) [
  | inl same ↦
      let fits = next_fits (m.code c) (sight seen c s) (s.threads c) may.runnable in
      let f = fits.steps in
      let x = ap (λ (f : ℕ → Thread). (f c).steps) e ∙ ap (λ (t : Thread). t.steps) (put_at s.threads c (own_step m c seen s).thread) in
      subst (λ k. (s.threads k).steps ≤ (new.threads k).steps) (sym same) (omega arith)
  | inr ne ↦ let x = ap (λ (f : ℕ → Thread). (f a).steps) e ∙ ap (λ (t : Thread). t.steps) (put_beside s.threads c a (own_step m c seen s).thread ne) in omega arith
]

ended_threads : (o : Op) (a : ℕ) (s : BagState) → (ended_by o a s).threads ≡ s.threads
ended_threads op.None a s = refl
ended_threads (op.Send to bytes) a s = refl
ended_threads op.Hand a s = refl
ended_threads (op.Free slot) a s = refl
ended_threads (op.Idle vote) a s = refl
ended_threads (op.Kill value) a s = refl
ended_threads (op.Trap why) a s = refl

sent_threads : (o : Op) (m : Program) (a number : ℕ) (s new : BagState) → sent_by m a number o s ≡ Some new → new.threads ≡ s.threads
sent_threads op.None m a number s new e = absurd cc
sent_threads (op.Send to bytes) m a number s new e = ap (λ (x : BagState). x.threads) (sym (ap (λ x. unwrap_or x new) e))
sent_threads op.Hand m a number s new e = absurd cc
sent_threads (op.Free slot) m a number s new e = absurd cc
sent_threads (op.Idle vote) m a number s new e = absurd cc
sent_threads (op.Kill value) m a number s new e = absurd cc
sent_threads (op.Trap why) m a number s new e = absurd cc

step_rises : (m : Program) (step : BagStep) (s new : BagState) (a : ℕ) → Steps m step s new → (s.threads a).steps ≤ (new.threads a).steps
step_rises m (bag.Private c seen) s new a h = own_steps m a c seen s new h.0 (ap (λ (x : BagState). x.threads) h.2 ∙ ended_threads (own_step m c seen s).op c (with_own_step m c seen s))
step_rises m (bag.Send c seen) s new a h = own_steps m a c seen s new h.0 (sent_threads (own_step m c seen s).op m c (s.threads c).sends (with_own_step m c seen s) new h.1)
step_rises m (bag.Hand c seen l) s new a h = own_steps m a c seen s new h.0 (ap (λ (x : BagState). x.threads) h.2.3)
step_rises m (bag.Free c seen slot) s new a h = own_steps m a c seen s new h.0 (ap (λ (x : BagState). x.threads) h.2)
step_rises m (bag.Idle c seen vote) s new a h = own_steps m a c seen s new h.0 (ap (λ (x : BagState). x.threads) h.2)
step_rises m bag.Announce s new a h =
    let x = ap (λ (x : BagState). (x.threads a).steps) h.1 in
    let y = told_steps (is_idle (s.threads a).state) (answer m.shape s) (s.threads a) in
    omega arith
step_rises m (bag.HostSend l) s new a h = same_steps a s new (ap (λ (x : BagState). x.threads) h.4)
step_rises m (bag.HostHand l) s new a h = same_steps a s new (ap (λ (x : BagState). x.threads) h.3)
step_rises m (bag.Discard l) s new a h = same_steps a s new (ap (λ (x : BagState). x.threads) h.4)

pub run_rises : (m : Program) (steps : List BagStep) (s end : BagState) (a : ℕ) → has_thread m.shape a ≡ true → BagRun m s steps end → (s.threads a).steps ≤ (end.threads a).steps
run_rises m [] s end a has run = let x = ap (λ (t : Thread). t.steps) (run.threads a has) in omega arith
run_rises m (step ∷ steps) s end a has run =
    let x = ap (λ (t : Thread). t.steps) (run.2.threads a has) in
    let y = step_rises m step run.0 run.1 a run.3 in
    let z = run_rises m steps run.1 end a has run.4 in
    omega arith

pub same_inv : (g : Layout) (o : Listed g.shape) (s t : BagState) (node : ℕ → Node) (deeds : List Deed) → AllRouted g → Same g.shape s t → Inv g (world s.flight node deeds) → Inv g (world t.flight node deeds)
same_inv g o s t node deeds all same i =
    event_keeps g o Nothing (world s.flight node deeds) (world t.flight node deeds) all i (record { nodes = λ b hb. refl; flight = λ w. sym (bag_weighs s.flight t.flight (brings w g) same.flight); deeds = refl })

pub same_shows : (g : Layout) (s t : BagState) (node : ℕ → Node) → Same g.shape s t → Shows g s node → Shows g t node
same_shows g s t node same sh = record {
  nodes = λ a has. shown_as (t.threads a) (s.threads a) (t.held a) (s.held a) (node a) (node a) (sym (same.threads a has)) (λ i slot. sym (same.held a slot has) i) refl (sh.nodes a has);
  script = subst (AllByRecursion IsAwait) same.script sh.script;
}
