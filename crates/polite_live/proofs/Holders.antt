-- A thread that holds a slot, or is owed a slot, can make a step.
use Rattle.std.proofs.Common.{ℕ, ◌≡◌, ◌==◌, ◌&&◌, ◌||◌, ◌∙◌, Bool, true, false, cond, List, ◌∷◌, refl, sym, ap, subst, inl, inr, Option, Some, None, is_some}
use Rattle.std.specs.Prelude.{bit_and}
use Rattle.std.proofs.lemmas.Bool.{and_from, eq-eqb, or_right}
use Rattle.polite_switch.specs.declared.course.Hand.{Hand}
use Rattle.polite_switch.specs.SwitchModel.{SwitchModel}
use Rattle.tn_base.specs.declared.message.Letter.{Letter}
use Rattle.tn_thread.specs.declared.state.ThreadState.{ThreadState}
use Rattle.tn_thread.specs.declared.state.ThreadState.TheVariants as state
use Rattle.tn_thread.specs.declared.thread.Thread.{Thread}
use Rattle.tn_thread.specs.Sight.{Sight}
use Rattle.tn_thread.specs.Step.{runnable, wait_holds}
use Rattle.polite_edges.specs.declared.deed.Deed.{Deed}
use Rattle.polite_edges.specs.Deeds.{value_of}
use Rattle.polite_edges.specs.Layout.{Layout, device_count}
use Rattle.polite_edges.proofs.Fine.{HandFits, NodeFine, Resting, StatusFits, answer_of}
use Rattle.polite_edges.proofs.Nodes.{Idling, Node}
use Rattle.polite_edges.proofs.Shown.{CarriedBy, Carries, Shown, StateShown}
use Rattle.polite_flow.specs.Threads.{GoesOn}
use Rattle.polite_live.proofs.Courses.{Closing, NodeCloses, some_either}
use Rattle.polite_live.proofs.Echo.{ThreadKept}
use Rattle.polite_live.proofs.Released.{Later}
use Rattle.polite_live.proofs.Steps.{WaitsBy}

-- what the end of a run says of a thread, once a release that is under way is over
pub record Known (g : Layout) (a : ℕ) (u : Thread) (held : ℕ → Option Letter) (nd : Node) (deeds : List Deed) : Type 0 where
  pub shown : Shown u held nd
  pub kept : ThreadKept u held
  pub fine : NodeFine g a deeds nd
  pub closes : NodeCloses nd

abbrev in_state : ThreadState → Thread → Thread
in_state st t = record t { state = st }

no_letter : (l : Option Letter) (h : Option Hand) → HandFits l h → h ≡ None → l ≡ None
no_letter None h f e = refl
no_letter (Some l) None f e = absurd f
no_letter (Some l) (Some h) f e = absurd cc

none_either : (b : Bool) → cond b (let x : Option Letter = None in x) None ≡ None
none_either true = refl
none_either false = refl

-- with no letter in hand, nothing is held
holds_none : (g : Layout) (a slot : ℕ) (t : Thread) (held : ℕ → Option Letter) (nd : Node) (deeds : List Deed) → NodeFine g a deeds nd → ((k : ℕ) → held k ≡ cond (k == t.hand) nd.hand None) → nd.switch.course.hand ≡ None → held slot ≡ None
holds_none g a slot t held nd deeds f holds free =
    holds slot ∙ (ap (λ x. cond (slot == t.hand) x None) (no_letter nd.hand nd.switch.course.hand f.hand free) ∙ none_either (slot == t.hand))

no_some : (o : Option Letter) (l : Letter) → o ≡ None → o ≡ Some l → ⊥
no_some o l e h = let x = sym e ∙ h in absurd cc

-- ---- how a thread waits

waits_on : (o : Option SwitchModel) (s : SwitchModel) (waits : ℕ) → o ≡ Some s → WaitsBy o waits → WaitsBy (Some s) waits
waits_on o s waits e w = subst (λ x. WaitsBy x waits) e w

wait_hand : (nd : Node) (waits : ℕ) → NodeCloses nd → WaitsBy (Some nd.switch) waits → nd.switch.course.hand ≡ None
wait_hand nd waits c (inl three) = three.1
wait_hand nd waits c (inr room) = (c.host room.1).hand

closing_two : (g : Layout) (a : ℕ) (deeds : List Deed) (nd : Node) → NodeFine g a deeds nd → Closing nd.switch.course → value_of deeds ≡ 2
closing_two g a deeds nd f c = f.phase.late (some_either (answer_of nd.status nd.given == 2) nd.switch.course.finished c.some)

-- ---- an idle thread has no letter in hand

idle_hand : (g : Layout) (a : ℕ) (deeds : List Deed) (nd : Node) → NodeFine g a deeds nd → nd.status ≡ Idling → nd.switch.course.hand ≡ None
idle_hand g a deeds nd f e = let r : Resting (device_count g a) nd.switch.course = subst (λ st. StatusFits (device_count g a) st nd.switch.course deeds) e f.status in r.hand

-- the thread has an answer
answered_none : (g : Layout) (a slot value : ℕ) (u : Thread) (held : ℕ → Option Letter) (nd : Node) (deeds : List Deed) → Known g a u held nd deeds → u.state ≡ state.Answered value → held slot ≡ None
answered_none g a slot value u held nd deeds k e =
    let status : StateShown (state.Answered value) u nd = subst (λ st. StateShown st u nd) e k.shown.state in
    let carries : Carries u held nd = subst (λ st. CarriedBy st u held nd) e k.shown.carries in
    holds_none g a slot u held nd deeds k.fine carries.holds (k.closes.answered value status.0)

-- ---- a thread that holds a slot

-- a thread that is not idle is as it is now
as_now : (t u : Thread) (g : Layout) (a : ℕ) (held : ℕ → Option Letter) (nd : Node) (deeds : List Deed) → u ≡ t → Known g a u held nd deeds → Known g a t held nd deeds
as_now t u g a held nd deeds e k = subst (λ x. Known g a x held nd deeds) e k

holder_in : (st : ThreadState) (seen : Sight) (queue : List ℕ) (g : Layout) (a slot : ℕ) (t u : Thread) (l : Letter) (held : ℕ → Option Letter) (nd : Node) (deeds : List Deed) → Later (in_state st t) u → Known g a u held nd deeds → GoesOn st queue → held slot ≡ Some l → runnable seen st ≡ true
holder_in state.Run seen queue g a slot t u l held nd deeds later k goes h = refl
holder_in (state.Wait waits) seen queue g a slot t u l held nd deeds (inl e) k goes h =
    let x = as_now (in_state (state.Wait waits) t) u g a held nd deeds e k in
    absurd (no_some (held slot) l (holds_none g a slot t held nd deeds x.fine x.shown.carries.holds (wait_hand nd waits.0 x.closes (waits_on t.switch nd.switch waits.0 x.shown.carries.switch x.kept.waits))) h)
holder_in (state.Wait waits) seen queue g a slot t u l held nd deeds (inr told) k goes h = absurd (let x = told.idle in cc)
holder_in (state.Idle vote) seen queue g a slot t u l held nd deeds (inl e) k goes h =
    let x = as_now (in_state (state.Idle vote) t) u g a held nd deeds e k in
    absurd (no_some (held slot) l (holds_none g a slot t held nd deeds x.fine x.shown.carries.holds (idle_hand g a deeds nd x.fine x.shown.state.0)) h)
holder_in (state.Idle vote) seen queue g a slot t u l held nd deeds (inr told) k goes h = absurd (no_some (held slot) l (answered_none g a slot told.value u held nd deeds k told.is) h)
holder_in (state.Answered value) seen queue g a slot t u l held nd deeds later k goes h = refl
holder_in (state.Dead value) seen queue g a slot t u l held nd deeds (inl e) k goes h =
    let x = as_now (in_state (state.Dead value) t) u g a held nd deeds e k in
    absurd (no_some (held slot) l (x.kept.ended slot) h)
holder_in (state.Dead value) seen queue g a slot t u l held nd deeds (inr told) k goes h = absurd (let x = told.idle in cc)
holder_in (state.Trapped why) seen queue g a slot t u l held nd deeds later k goes h = absurd goes

pub holder_runs : (seen : Sight) (queue : List ℕ) (g : Layout) (a slot : ℕ) (t u : Thread) (l : Letter) (held : ℕ → Option Letter) (nd : Node) (deeds : List Deed) → Later t u → Known g a u held nd deeds → GoesOn t.state queue → held slot ≡ Some l → runnable seen t.state ≡ true
holder_runs seen queue g a slot t u l held nd deeds later k goes h = holder_in t.state seen queue g a slot t u l held nd deeds later k goes h

-- ---- a thread that is owed a slot

letter_waits : (waits : ℕ) (seen : Sight) → waits ≡ 3 → is_some seen.first ≡ true → wait_holds waits seen ≡ true
letter_waits waits seen e some =
    or_right ((waits == 0) || (bit_and waits 1 == 1 && seen.can_send)) (bit_and waits 2 == 2 && is_some seen.first)
    (and_from (bit_and waits 2 == 2) (is_some seen.first) (eq-eqb (bit_and waits 2) 2 (ap (λ x. bit_and x 2) e)) some)

wait_owed : (g : Layout) (a : ℕ) (deeds : List Deed) (nd : Node) (waits : ℕ) (seen : Sight) → NodeFine g a deeds nd → NodeCloses nd → WaitsBy (Some nd.switch) waits → is_some seen.first ≡ true → (value_of deeds ≡ 2 → ⊥) → wait_holds waits seen ≡ true
wait_owed g a deeds nd waits seen f c (inl three) some early = letter_waits waits seen three.0 some
wait_owed g a deeds nd waits seen f c (inr room) some early = absurd (early (closing_two g a deeds nd f (c.host room.1)))

owed_in : (st : ThreadState) (seen : Sight) (slot : ℕ) (rest : List ℕ) (g : Layout) (a : ℕ) (t u : Thread) (held : ℕ → Option Letter) (nd : Node) (deeds : List Deed) → Later (in_state st t) u → Known g a u held nd deeds → GoesOn st (slot ∷ rest) → is_some seen.first ≡ true → (value_of deeds ≡ 2 → ⊥) → runnable seen st ≡ true
owed_in state.Run seen slot rest g a t u held nd deeds later k goes some early = refl
owed_in (state.Wait waits) seen slot rest g a t u held nd deeds (inl e) k goes some early =
    let x = as_now (in_state (state.Wait waits) t) u g a held nd deeds e k in
    wait_owed g a deeds nd waits.0 seen x.fine x.closes (waits_on t.switch nd.switch waits.0 x.shown.carries.switch x.kept.waits) some early
owed_in (state.Wait waits) seen slot rest g a t u held nd deeds (inr told) k goes some early = absurd (let x = told.idle in cc)
owed_in (state.Idle vote) seen slot rest g a t u held nd deeds later k goes some early = some
owed_in (state.Answered value) seen slot rest g a t u held nd deeds later k goes some early = refl
owed_in (state.Dead value) seen slot rest g a t u held nd deeds later k goes some early = absurd cc
owed_in (state.Trapped why) seen slot rest g a t u held nd deeds later k goes some early = absurd goes

pub owed_runs : (seen : Sight) (slot : ℕ) (rest : List ℕ) (g : Layout) (a : ℕ) (t u : Thread) (held : ℕ → Option Letter) (nd : Node) (deeds : List Deed) → Later t u → Known g a u held nd deeds → GoesOn t.state (slot ∷ rest) → is_some seen.first ≡ true → (value_of deeds ≡ 2 → ⊥) → runnable seen t.state ≡ true
owed_runs seen slot rest g a t u held nd deeds later k goes some early = owed_in t.state seen slot rest g a t u held nd deeds later k goes some early
