-- A thread that has an answer has it from an announcement at which it was idle.
use Rattle.std.proofs.Common.{ℕ, ◌≡◌, ◌++◌, zero, suc, List, [], ◌∷◌, map, get_or, cond, false, refl, sym, ◌∙◌, ap, subst, IsTrue, Some, inl, inr}
use Rattle.std.specs.List.{AllByRecursion}
use Rattle.std.proofs.lemmas.Bool.{cases_Bool, cases_eq, cases_lt, eq-eqb}
use Rattle.std.proofs.lemmas.List.{append-nil, append_assoc}
use Rattle.tn_base.specs.declared.event.Event.{Event}
use Rattle.tn_base.specs.declared.event.Event.TheVariants as event
use Rattle.tn_base.specs.declared.op.Op.TheVariants as op
use Rattle.tn_base.specs.Address.{has_thread, place_in_tile}
use Rattle.tn_base.proofs.TilePlaces.{place_below}
use Rattle.tn_detect.specs.declared.phase.Phase.{Phase}
use Rattle.tn_detect.specs.declared.phase.Phase.TheVariants as phase
use Rattle.tn_detect.specs.declared.state.DetectorState.{DetectorState}
use Rattle.tn_detect.specs.Notes.{value_of}
use Rattle.tn_quiet.specs.Law.{IsQuietWorld}
use Rattle.tn_quiet.proofs.Runs.{event_quiet, walk_quiet}
use Rattle.tn_rows.specs.Events.{happened}
use Rattle.tn_rows.specs.PartView.{PartView, TileV, RouterV, LinkV, HostV, DetectorV, AbsentV}
use Rattle.tn_rows.specs.Runs.{Walk}
use Rattle.tn_rows.specs.WorldView.{WorldView}
use Rattle.tn_thread.specs.declared.state.ThreadState.{ThreadState}
use Rattle.tn_thread.specs.declared.state.ThreadState.TheVariants as state
use Rattle.tn_thread.specs.declared.thread.Thread.{Thread}
use Rattle.tn_thread.specs.Step.{answered, is_idle}
use Rattle.tn_tile.specs.Rows.{told}
use Rattle.tn_tile.specs.Step.{no_thread}
use Rattle.tn_tile.specs.TileView.{TileView}
use Rattle.tn_rows.specs.Visited.{released_part}
use Rattle.tn_letters.specs.declared.steps.BagStep.{BagStep}
use Rattle.tn_letters.specs.declared.steps.BagStep.TheVariants as bag
use Rattle.tn_letters.specs.declared.steps.Seen.{Seen}
use Rattle.tn_letters.specs.AtRest.{Announcement, AnswersAtRest, IsAnsweredAt, told_value}
use Rattle.tn_letters.specs.Law.{IsStart, StartsSo}
use Rattle.tn_letters.specs.Machine.{BagRun, Happens, own_step, with_own_step}
use Rattle.tn_letters.specs.Settled.{detector_on, settled, settled_in}
use Rattle.tn_letters.specs.State.{BagState, Program, put}
use Rattle.tn_letters.specs.Steps.{event_steps}
use Rattle.tn_letters.specs.Tiles.{part_for, program_of, thread_in, thread_of, tile_in}
use Rattle.tn_letters.proofs.Announced.{rest_before, resting, thread_learns, told_votes}
use Rattle.tn_letters.proofs.Bare.{with_parts}
use Rattle.tn_letters.proofs.Calm.{quiet_start, rest_start}
use Rattle.tn_letters.proofs.Carried.{rest_detector}
use Rattle.tn_letters.proofs.Empty.{seat}
use Rattle.tn_letters.proofs.EventSteps.{HoldsIn, HoldsOf, event_each}
use Rattle.tn_letters.proofs.GoodParts.{event_good, walk_good}
use Rattle.tn_letters.proofs.Lift.{Good}
use Rattle.tn_letters.proofs.Meaning.{event_arrives}
use Rattle.tn_letters.proofs.Over.{announced_over}
use Rattle.tn_letters.proofs.Settling.{released_before, released_behind}
use Rattle.tn_letters.proofs.Silent.{NoRelease, settled_now}
use Rattle.tn_letters.proofs.Starts.{good_start}
use Rattle.tn_letters.proofs.Unanswered.{HasNone, next_none}
use Rattle.tn_letters.proofs.Waiting.{busy, ended_threads, idle_answered, put_beside, sent_threads, told_idle}

-- ---- the bag machine

-- a step is no announcement
abbrev IsNoAnnounce : BagStep → Type 0
IsNoAnnounce (bag.Private b seen) = Unit {0}
IsNoAnnounce (bag.Send b seen) = Unit {0}
IsNoAnnounce (bag.Hand b seen l) = Unit {0}
IsNoAnnounce (bag.Free b seen slot) = Unit {0}
IsNoAnnounce (bag.Idle b seen vote) = Unit {0}
IsNoAnnounce bag.Announce = ⊥
IsNoAnnounce (bag.HostSend l) = Unit {0}
IsNoAnnounce (bag.HostHand l) = Unit {0}
IsNoAnnounce (bag.Discard l) = Unit {0}

put_here : {A : Type 0} (f : ℕ → A) (b : ℕ) (x : A) (a : ℕ) → b ≡ a → put f b x a ≡ x
put_here f b x a e = ap (λ c. cond c x (f a)) (eq-eqb a b (sym e))

none_answered : (s : ThreadState) (value : ℕ) → HasNone s → s ≡ state.Answered value → ⊥
none_answered s value none e = subst HasNone e none

-- a step of a thread gives no thread an answer
own_found : (m : Program) (b : ℕ) (seen : Seen) (s : BagState) (a value : ℕ) → (put s.threads b (own_step m b seen s).thread a).state ≡ state.Answered value → put s.threads b (own_step m b seen s).thread a ≡ s.threads a
own_found m b seen s a value e = elim (cases_eq b a) [
  | inl here ↦ absurd (none_answered _ value (next_none (m.code b) _ (s.threads b)) (sym (ap (λ (t : Thread). t.state) (put_here s.threads b (own_step m b seen s).thread a here)) ∙ e))
  | inr ne ↦ put_beside s.threads b (own_step m b seen s).thread a ne
]

-- what a step leaves of the threads is known
by_threads : (m : Program) (b : ℕ) (seen : Seen) (s t : BagState) (a value : ℕ) → t.threads a ≡ put s.threads b (own_step m b seen s).thread a → (t.threads a).state ≡ state.Answered value → t.threads a ≡ s.threads a
by_threads m b seen s t a value is e = is ∙ own_found m b seen s a value (sym (ap (λ (x : Thread). x.state) is) ∙ e)

step_found : (m : Program) (x : BagStep) (s t : BagState) (a value : ℕ) → Happens m x s t → IsNoAnnounce x → (t.threads a).state ≡ state.Answered value → t.threads a ≡ s.threads a
step_found m (bag.Private b seen) s t a value h not e =
    by_threads m b seen s t a value (ap (λ (r : BagState). r.threads a) h.2 ∙ ap (λ (f : ℕ → Thread). f a) (ended_threads (own_step m b seen s).op b (with_own_step m b seen s))) e
step_found m (bag.Send b seen) s t a value h not e =
    by_threads m b seen s t a value (ap (λ (f : ℕ → Thread). f a) (sent_threads m b (s.threads b).sends (own_step m b seen s).op (with_own_step m b seen s) t h.1)) e
step_found m (bag.Hand b seen l) s t a value h not e = by_threads m b seen s t a value (ap (λ (r : BagState). r.threads a) h.2.3) e
step_found m (bag.Free b seen slot) s t a value h not e = by_threads m b seen s t a value (ap (λ (r : BagState). r.threads a) h.2) e
step_found m (bag.Idle b seen vote) s t a value h not e = by_threads m b seen s t a value (ap (λ (r : BagState). r.threads a) h.2) e
step_found m bag.Announce s t a value h not e = absurd not
step_found m (bag.HostSend l) s t a value h not e = ap (λ (r : BagState). r.threads a) h.4
step_found m (bag.HostHand l) s t a value h not e = ap (λ (r : BagState). r.threads a) h.3
step_found m (bag.Discard l) s t a value h not e = ap (λ (r : BagState). r.threads a) h.4

run_found : (m : Program) (start end : BagState) (steps : List BagStep) (a value : ℕ) → IsTrue (has_thread m.shape a) → BagRun m start steps end → AllByRecursion IsNoAnnounce steps → (end.threads a).state ≡ state.Answered value → end.threads a ≡ start.threads a
run_found m start end [] a value there run not e = sym (run.threads a there)
run_found m start end (x ∷ xs) a value there run not e =
    let behind = run_found m run.1 end xs a value there run.4 not.1 e in
    let one = step_found m x run.0 run.1 a value run.3 not.0 (sym (ap (λ (t : Thread). t.state) behind) ∙ e) in
    behind ∙ (one ∙ sym (run.2.threads a there))

-- ---- events

-- an event is no announcement
abbrev IsPlain : Event → Type 0
IsPlain event.Announce = ⊥
IsPlain _ = Unit {0}

thread_plain : (b : ℕ) → HoldsOf IsNoAnnounce b
thread_plain b seen l op.None = tt
thread_plain b seen l (op.Send to bytes) = tt
thread_plain b seen l op.Hand = tt
thread_plain b seen l (op.Free slot) = tt
thread_plain b seen l (op.Idle vote) = tt
thread_plain b seen l (op.Kill value) = tt
thread_plain b seen l (op.Trap why) = tt

event_plain : (e : Event) → IsPlain e → HoldsIn IsNoAnnounce e
event_plain (event.Turn t n) plain = thread_plain t.0
event_plain (event.Deliver t) plain = tt
event_plain (event.Depart p l) plain = tt
event_plain (event.Arrive l p) plain = tt
event_plain (event.Route p) plain = tt
event_plain event.HostPut plain = tt
event_plain event.HostTake plain = tt
event_plain (event.Report p) plain = tt
event_plain event.Begin plain = tt
event_plain (event.Confirm p) plain = tt
event_plain event.Announce plain = absurd plain
event_plain (event.Release p) plain = tt
event_plain (event.Go p) plain = tt

-- an event that is no announcement gives no thread an answer, with the release carried through
stays_found : (e : Event) (w new : WorldView) (a value : ℕ) → IsPlain e → Good w → IsQuietWorld w → happened e w ≡ Some new → IsTrue (has_thread w.shape a) → (thread_of (settled new) a).state ≡ state.Answered value → thread_of (settled new) a ≡ thread_of (settled w) a
stays_found e w new a value plain g q h there is =
    let r = event_arrives (λ b. []) [] 0 e w new g q h in
    run_found (program_of w) _ _ (event_steps e w) a value there r.run (event_each IsNoAnnounce (record { send = λ l. tt; hand = λ l. tt; drop = λ l. tt }) e w (event_plain e plain)) is

-- ---- walks

-- each thread that has an answer, with the release carried through, has it from an announcement in the history
abbrev Found : WorldView → List Event → WorldView → Type 0
Found start history w = (a value : ℕ) → IsTrue (has_thread w.shape a) → (thread_of (settled w) a).state ≡ state.Answered value → (n : Announcement start history) × IsAnsweredAt start history a value (thread_of (settled w) a) n

walk_more : (start w new : WorldView) (history : List Event) (e : Event) → Walk start history w → happened e w ≡ Some new → Walk start (history ++ e ∷ []) new
walk_more start w new [] e walk h = (new, subst (λ (x : WorldView). happened e x ≡ Some new) (sym walk) h, refl)
walk_more start w new (x ∷ xs) e walk h = (walk.0, walk.1, walk_more walk.0 w new xs e walk.2 h)

-- an announcement in a history is one in a longer history
abbrev longer : (start : WorldView) (history : List Event) (e : Event) → Announcement start history → Announcement start (history ++ e ∷ [])
longer start history e n = record {
  before = n.before;
  later = n.later ++ e ∷ [];
  rest = n.rest;
  said = n.said;
  split = ap (λ xs. xs ++ e ∷ []) n.split ∙ append_assoc n.before (event.Announce ∷ n.later) (e ∷ []);
  walk = n.walk;
  step = n.step;
}

plain_found : (start w new : WorldView) (history : List Event) (e : Event) → IsPlain e → Good w → IsQuietWorld w → happened e w ≡ Some new → Found start history w → Found start (history ++ e ∷ []) new
plain_found start w new history e plain g q h found a value there is =
    let shape : new.shape ≡ w.shape = ap (λ (m : Program). m.shape) (event_arrives (λ b. []) [] 0 e w new g q h).program in
    let here : IsTrue (has_thread w.shape a) = subst (λ m. IsTrue (has_thread m a)) shape there in
    let same = stays_found e w new a value plain g q h here is in
    let f = found a value here (sym (ap (λ (t : Thread). t.state) same) ∙ is) in
    (longer start history e f.0, record { idle = f.1.idle; announced = f.1.announced; thread = same ∙ f.1.thread })

told_else : (value : ℕ) (t : Thread) → is_idle t.state ≡ false → told value t ≡ t
told_else value t e = ap (λ b. cond b (answered value t) t) e

-- an announcement answers the idle threads, and no other thread has an answer then
some_answer : (value said : ℕ) (t u : Thread) → t ≡ answered said u → t.state ≡ state.Answered value → value ≡ said
some_answer value said t u is e = let f : state.Answered value ≡ state.Answered said = sym e ∙ ap (λ (x : Thread). x.state) is in cc f

announce_found : (start w new : WorldView) (history : List Event) → Good w → IsQuietWorld w → happened event.Announce w ≡ Some new → Walk start history w → Found start (history ++ event.Announce ∷ []) new
announce_found start w new history g q h walk a value there is =
    let shape : new.shape ≡ w.shape = ap (λ (m : Program). m.shape) (event_arrives (λ b. []) [] 0 event.Announce w new g q h).program in
    let here : IsTrue (has_thread w.shape a) = subst (λ m. IsTrue (has_thread m a)) shape there in
    let learns = (thread_learns w new a g q h here).1 in
    elim (cases_Bool (is_idle (thread_of w a).state)) [
      | inl idle ↦
          let has : thread_of (settled new) a ≡ answered (told_value new) (thread_of w a) = learns ∙ told_idle (told_value new) (thread_of w a) idle in
          let same : value ≡ told_value new = some_answer value (told_value new) (thread_of (settled new) a) (thread_of w a) has is in (
            record { before = history; later = []; rest = w; said = new; split = refl; walk = walk; step = h },
            record { idle = idle; announced = same; thread = has ∙ ap (λ v. answered v (thread_of w a)) (sym same) },
          )
      | inr other ↦
          let has : thread_of (settled new) a ≡ thread_of w a = learns ∙ told_else (told_value new) (thread_of w a) other in
          absurd (busy (thread_of w a) value (sym (ap (λ (t : Thread). t.state) has) ∙ is) ((resting w g (rest_before w new g q h)).threads a here))
    ]

event_found : (start w new : WorldView) (history : List Event) (e : Event) → Good w → IsQuietWorld w → happened e w ≡ Some new → Walk start history w → Found start history w → Found start (history ++ e ∷ []) new
event_found start w new history (event.Turn t n) g q h walk found = plain_found start w new history (event.Turn t n) tt g q h found
event_found start w new history (event.Deliver t) g q h walk found = plain_found start w new history (event.Deliver t) tt g q h found
event_found start w new history (event.Depart p l) g q h walk found = plain_found start w new history (event.Depart p l) tt g q h found
event_found start w new history (event.Arrive l p) g q h walk found = plain_found start w new history (event.Arrive l p) tt g q h found
event_found start w new history (event.Route p) g q h walk found = plain_found start w new history (event.Route p) tt g q h found
event_found start w new history event.HostPut g q h walk found = plain_found start w new history event.HostPut tt g q h found
event_found start w new history event.HostTake g q h walk found = plain_found start w new history event.HostTake tt g q h found
event_found start w new history (event.Report p) g q h walk found = plain_found start w new history (event.Report p) tt g q h found
event_found start w new history event.Begin g q h walk found = plain_found start w new history event.Begin tt g q h found
event_found start w new history (event.Confirm p) g q h walk found = plain_found start w new history (event.Confirm p) tt g q h found
event_found start w new history event.Announce g q h walk found = announce_found start w new history g q h walk
event_found start w new history (event.Release p) g q h walk found = plain_found start w new history (event.Release p) tt g q h found
event_found start w new history (event.Go p) g q h walk found = plain_found start w new history (event.Go p) tt g q h found

walk_found : (es history : List Event) (start w end : WorldView) → Good w → IsQuietWorld w → Walk start history w → Found start history w → Walk w es end → Found start (history ++ es) end
walk_found [] history start w end g q before found walk = subst (λ xs. Found start xs end) (sym (append-nil history)) (subst (Found start history) walk found)
walk_found (e ∷ es) history start w end g q before found walk =
    subst (λ xs. Found start xs end) (append_assoc history (e ∷ []) es)
    (walk_found es (history ++ e ∷ []) start walk.0 end (event_good e w walk.0 g q walk.1) (event_quiet e w walk.0 g.limits q walk.1) (walk_more start w walk.0 history e before walk.1)
    (event_found start w walk.0 history e g q walk.1 before found) walk.2)

-- ---- a start

-- at a start no thread has an answer
start_runs : (w : WorldView) (a : ℕ) → IsStart w → Good w → IsTrue (has_thread w.shape a) → (thread_of w a).state ≡ state.Run
start_runs w a s g there =
    let t = seat w a g there in
    let so : StartsSo w.shape (TileV t.tile) = subst (StartsSo w.shape) t.on.is (s.parts (part_for w a) t.on.within) in
    let threads : t.tile.now.threads ≡ so.1 = ap (λ (v : TileView). v.now.threads) so.3 in
    let k = place_in_tile w.shape a in
    ap (λ (x : Thread). x.state) (t.thread ∙ (ap (λ ts. get_or ts k no_thread) threads ∙ (so.2.each k (place_below w.shape a there)).start))

start_found : (w : WorldView) → IsStart w → Good w → Found w [] w
start_found w s g a value there is =
    let collects : (detector_on w).phase ≡ phase.Collect = ap (λ (d : DetectorState). d.phase) (sym (rest_detector w g)) ∙ (rest_start w s g).phase in
    let now : settled w ≡ w = settled_now w (subst NoRelease (sym collects) tt) in
    absurd (runs value (sym (start_runs w a s g there) ∙ (sym (ap (λ (x : WorldView). (thread_of x a).state) now) ∙ is)))
  where
    runs : (value : ℕ) → state.Run ≡ state.Answered value → ⊥
    runs value e = cc e

-- ---- a thread as it is

map_told : (value : ℕ) (ts : List Thread) (k : ℕ) → get_or (map (told value) ts) k no_thread ≡ told value (get_or ts k no_thread)
map_told value [] k = refl
map_told value (t ∷ ts) zero = refl
map_told value (t ∷ ts) (suc k) = map_told value ts k

part_told : (value k : ℕ) (x : PartView) → thread_in (tile_in (released_part value x)) k ≡ told value (thread_in (tile_in x) k)
part_told value k (TileV v) = map_told value v.now.threads k
part_told value k (RouterV v) = refl
part_told value k (LinkV v) = refl
part_told value k (HostV s) = refl
part_told value k (DetectorV v) = refl
part_told value k AbsentV = refl

answer_in : (w : WorldView) (ph : Phase) (said a value : ℕ) → (thread_of w a).state ≡ state.Answered value → thread_of (with_parts w (settled_in ph said w.parts)) a ≡ thread_of w a
answer_in w phase.Collect said a value is = refl
answer_in w (phase.Confirm i) said a value is = refl
answer_in w (phase.Go i) said a value is = refl
answer_in w (phase.Release i) said a value is = elim (cases_lt (part_for w a) i) [
  | inl before ↦ ap (λ x. thread_in (tile_in x) (place_in_tile w.shape a)) (released_before i said w.parts (part_for w a) before)
  | inr behind ↦
      ap (λ x. thread_in (tile_in x) (place_in_tile w.shape a)) (released_behind i said w.parts (part_for w a) behind)
      ∙ (part_told said (place_in_tile w.shape a) (get_or w.parts (part_for w a) AbsentV) ∙ told_else said (thread_of w a) (ap is_idle is))
]

-- a thread that has its answer is what it is with the release carried through
answer_settled : (w : WorldView) (a value : ℕ) → (thread_of w a).state ≡ state.Answered value → thread_of (settled w) a ≡ thread_of w a
answer_settled w a value is = answer_in w (detector_on w).phase (value_of (detector_on w).answer) a value is

-- ---- a history

pub answers_at_rest : (start : WorldView) (history : List Event) → IsStart start → AnswersAtRest start history
answers_at_rest start history s =
    let g = good_start start s in
    let q = quiet_start start s g in
    record {
      rests = λ n.
          let good = walk_good n.before start n.rest g q n.walk in
          let quiet = (walk_quiet n.before start n.rest g.limits q n.walk).0 in
          record { resting = resting n.rest good (rest_before n.rest n.said good quiet n.step); value = told_votes n.rest n.said good quiet n.step; over = announced_over n.rest n.said good quiet n.step };
      told = λ n middle more w new t k split walk turn not there idle. idle_answered start n.rest n.said w new n.before middle t k s n.walk there idle n.step walk not turn;
      because = λ before later w a value split walk there is.
          let same = answer_settled w a value is in
          let f = walk_found before [] start start w g q refl (start_found start s g) walk a value there (ap (λ (t : Thread). t.state) same ∙ is) in
          (f.0, record { idle = f.1.idle; announced = f.1.announced; thread = sym same ∙ f.1.thread });
    }
