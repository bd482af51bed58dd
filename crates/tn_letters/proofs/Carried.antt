-- An event in which the detector has no part is the same event of the machine with the release carried through.
use Rattle.std.proofs.Common.{ℕ, ◌≡◌, ◌<◌, List, Bool, true, false, refl, sym, ◌∙◌, ap, subst, arith, Option, Some, None, inl, inr, option_map, slice_get}
use Rattle.std.specs.Prelude.{option_and_then}
use Rattle.std.proofs.lemmas.Bool.{cases_lt, lt-ltb}
use Rattle.std.proofs.lemmas.Option.{get_or_from_slice_get, slice_get-map}
use Rattle.tn_base.specs.declared.event.Event.{Event}
use Rattle.tn_base.specs.declared.event.Event.TheVariants as event
use Rattle.tn_base.specs.declared.message.Letter.{Letter}
use Rattle.tn_base.specs.declared.shape.ShapeNumbers.{ShapeNumbers}
use Rattle.tn_base.specs.declared.ids.ThreadId.{ThreadId}
use Rattle.tn_base.specs.Address.{has_thread, place_in_tile, tile_of, tile_place}
use Rattle.tn_base.specs.Parts.{kind_of, tile_part, visited}
use Rattle.tn_rest.proofs.RowsTell.{taken}
use Rattle.tn_letters.specs.Tiles.{part_for, thread_in, thread_of, tile_in}
use Rattle.tn_letters.proofs.Settling.{released_before}
use Rattle.tn_detect.specs.declared.phase.Phase.{Phase}
use Rattle.tn_detect.specs.declared.phase.Phase.TheVariants as phase
use Rattle.tn_detect.specs.declared.state.DetectorState.{DetectorState}
use Rattle.tn_detect.specs.Notes.{value_of}
use Rattle.tn_quiet.specs.Law.{IsQuietWorld, IsStep}
use Rattle.tn_quiet.specs.Machine.{as_rest, link_count, rest_of, shown as shown_parts, shows}
use Rattle.tn_quiet.proofs.Machines.{at_last, at_one, steps as rest_steps}
use Rattle.tn_quiet.proofs.Runs.{kept_at}
use Rattle.tn_quiet.proofs.Tiles.{kept_by}
use Rattle.tn_rest.specs.Happens.{Announce, Arrive, Begin, Confirm, Depart, Go, Happens, Release, Report, RestEvent, Work}
use Rattle.tn_rest.specs.Quiet.{InPhase, IsReleasing}
use Rattle.tn_rest.specs.RestView.{RestView}
use Rattle.tn_rest.specs.Seen.{detector_of, seen}
use Rattle.tn_rest.proofs.Seen.{happens}
use Rattle.tn_rows.specs.Events.{after, happened, happened_at, with_part}
use Rattle.tn_rows.specs.PartView.{DetectorV, AbsentV}
use Rattle.tn_rows.specs.Places.{One, at_part, detector_part, is_router, one_if, part_of, places}
use Rattle.tn_rows.specs.WorldView.{WorldView}
use Rattle.tn_stamp.specs.declared.entry.Crossing.TheVariants as crossing
use Rattle.tn_letters.specs.declared.steps.BagStep.{BagStep}
use Rattle.tn_letters.specs.Settled.{detector_in, detector_on, released_from, settled, settled_in}
use Rattle.tn_letters.specs.Steps.{event_steps, part_steps, steps_at}
use Rattle.tn_letters.specs.Tiles.{reach_of}
use Rattle.tn_letters.proofs.Bare.{reach_match, with_parts}
use Rattle.tn_letters.proofs.Detected.{last_part}
use Rattle.tn_letters.proofs.GoodParts.{good_settled}
use Rattle.tn_letters.proofs.Lift.{Good}
use Rattle.tn_letters.proofs.Settling.{means_now, released_get, released_set}
use Rattle.tn_letters.proofs.Silent.{NoRelease, settled_now}
use Rattle.tn_letters.proofs.Simulate.{Reached}
use Rattle.tn_letters.proofs.Walks.{Plain, by_part, event_reached}

-- ---- the detector does not change

abbrev PlainRest : RestEvent → Type 0
PlainRest (Work p) = Unit {0}
PlainRest (Depart p l) = Unit {0}
PlainRest (Arrive l p) = Unit {0}
PlainRest (Report p) = ⊥
PlainRest Begin = ⊥
PlainRest (Confirm p) = ⊥
PlainRest Announce = ⊥
PlainRest (Release p) = ⊥
PlainRest (Go p) = ⊥

some_work : (r s : RestEvent) → Some r ≡ Some s → r ≡ s
some_work r s e = cc e

plain_rest : (n : ShapeNumbers) (e : Event) (r : RestEvent) → Plain e → as_rest n e ≡ Some r → PlainRest r
plain_rest n (event.Turn t k) r plain is = let m = kept_by Work (part_of n t) r is in subst PlainRest (sym m.2) tt
plain_rest n (event.Deliver t) r plain is = let m = kept_by Work (part_of n t) r is in subst PlainRest (sym m.2) tt
plain_rest n (event.Depart p l) r plain is = subst PlainRest (some_work (Depart _ _) r is) tt
plain_rest n (event.Arrive l p) r plain is = subst PlainRest (some_work (Arrive _ _) r is) tt
plain_rest n (event.Route p) r plain is = subst PlainRest (some_work (Work _) r is) tt
plain_rest n event.HostPut r plain is = subst PlainRest (some_work (Depart _ _) r is) tt
plain_rest n event.HostTake r plain is = subst PlainRest (some_work (Arrive _ _) r is) tt
plain_rest n (event.Report p) r plain is = absurd plain
plain_rest n event.Begin r plain is = absurd plain
plain_rest n (event.Confirm p) r plain is = absurd plain
plain_rest n event.Announce r plain is = absurd plain
plain_rest n (event.Release p) r plain is = absurd plain
plain_rest n (event.Go p) r plain is = absurd plain

detector_stays : (n m : ℕ) (r : RestEvent) (old new : RestView) → PlainRest r → Happens n m r old new → new.detector ≡ old.detector
detector_stays n m (Work p) old new plain h = h.3
detector_stays n m (Depart p l) old new plain h = h.3
detector_stays n m (Arrive l p) old new plain h = h.3
detector_stays n m (Report p) old new plain h = absurd plain
detector_stays n m Begin old new plain h = absurd plain
detector_stays n m (Confirm p) old new plain h = absurd plain
detector_stays n m Announce old new plain h = absurd plain
detector_stays n m (Release p) old new plain h = absurd plain
detector_stays n m (Go p) old new plain h = absurd plain

-- the detector as the laws of rest see it
pub rest_detector : (w : WorldView) → Good w → (rest_of w).detector ≡ detector_on w
rest_detector w g =
    let last = last_part w g in
    ap (λ q. detector_of (slice_get (shown_parts w) q)) (at_last w.shape g.limits)
    ∙ (ap detector_of (slice_get-map shows w.parts (detector_part w.shape) ∙ ap (option_map shows) last.1)
    ∙ sym (ap detector_in (get_or_from_slice_get w.parts (detector_part w.shape) (DetectorV last.0) AbsentV last.1)))

-- ---- a release that is under way

true_false : true ≡ false → ⊥
true_false e = cc e

-- parts that are released already work, and no other part does
works_before : (n m i : ℕ) (r : RestEvent) (old new : RestView) → PlainRest r → IsReleasing i n m old → Happens n m r old new → (p : ℕ) × (r ≡ Work p) × (p < i)
works_before n m i (Work p) old new plain releasing h = elim (cases_lt p i) [
  | inl before ↦ (p, refl, before)
  | inr behind ↦ (let still = releasing.still p behind h.0.inside in let busy = h.1.busy in absurd (true_false (sym still ∙ busy)))
]
works_before n m i (Depart p l) old new plain releasing h = elim (cases_lt p i) [
  | inl before ↦ absurd (true_false (sym (lt-ltb p i before) ∙ (sym (releasing.held p h.0.inside) ∙ h.1.free)))
  | inr behind ↦ absurd (true_false (sym (releasing.still p behind h.0.inside) ∙ h.1.busy))
]
works_before n m i (Arrive l p) old new plain releasing h = let none = releasing.empty l h.2.inside in let less = h.2.less in absurd (omega arith)
works_before n m i (Report p) old new plain releasing h = absurd plain
works_before n m i Begin old new plain releasing h = absurd plain
works_before n m i (Confirm p) old new plain releasing h = absurd plain
works_before n m i Announce old new plain releasing h = absurd plain
works_before n m i (Release p) old new plain releasing h = absurd plain
works_before n m i (Go p) old new plain releasing h = absurd plain

-- an event on one part that is part p
record OnOne (e : Event) (w new : WorldView) (p : ℕ) : Type 0 where
  row : happened_at e w (One p) ≡ Some new
  steps : event_steps e w ≡ part_steps (reach_of w) e (slice_get w.parts p)

same_work : (a b : ℕ) → Work a ≡ Work b → a ≡ b
same_work a b e = ap number e
  where
    number : RestEvent → ℕ
    number (Work p) = p
    number (Depart p l) = 0
    number (Arrive l p) = 0
    number (Report p) = 0
    number Begin = 0
    number (Confirm p) = 0
    number Announce = 0
    number (Release p) = 0
    number (Go p) = 0

by_thread : (e : Event) (w new : WorldView) (p : ℕ) (o : Option ℕ) → happened_at e w (at_part o) ≡ Some new → event_steps e w ≡ steps_at e w (at_part o) → option_map Work o ≡ Some (Work p) → OnOne e w new p
by_thread e w new p None h steps is = cc is
by_thread e w new p (Some a) h steps is =
    let same : a ≡ p = same_work a p (cc is) in
    record { row = subst (λ q. happened_at e w (One q) ≡ Some new) same h; steps = steps ∙ ap (λ q. part_steps (reach_of w) e (slice_get w.parts q)) same }

by_router : (e : Event) (w new : WorldView) (p a : ℕ) (b : Bool) → happened_at e w (one_if b a) ≡ Some new → event_steps e w ≡ steps_at e w (one_if b a) → a ≡ p → OnOne e w new p
by_router e w new p a false h steps same = cc h
by_router e w new p a true h steps same =
    record { row = subst (λ q. happened_at e w (One q) ≡ Some new) same h; steps = steps ∙ ap (λ q. part_steps (reach_of w) e (slice_get w.parts q)) same }

on_one : (e : Event) (w new : WorldView) (p : ℕ) → Plain e → happened e w ≡ Some new → as_rest w.shape e ≡ Some (Work p) → OnOne e w new p
on_one (event.Turn t k) w new p plain h is = by_thread (event.Turn t k) w new p (part_of w.shape t) h refl is
on_one (event.Deliver t) w new p plain h is = by_thread (event.Deliver t) w new p (part_of w.shape t) h refl is
on_one (event.Route a) w new p plain h is = by_router (event.Route a) w new p a.0 (is_router (kind_of w.shape a.0)) h refl (same_work a.0 p (some_work (Work a.0) (Work p) is))
on_one (event.Depart a l) w new p plain h is = cc is
on_one (event.Arrive l a) w new p plain h is = cc is
on_one event.HostPut w new p plain h is = cc is
on_one event.HostTake w new p plain h is = cc is
on_one (event.Report a) w new p plain h is = absurd plain
on_one event.Begin w new p plain h is = absurd plain
on_one (event.Confirm a) w new p plain h is = absurd plain
on_one event.Announce w new p plain h is = absurd plain
on_one (event.Release a) w new p plain h is = absurd plain
on_one (event.Go a) w new p plain h is = absurd plain

-- part p is released already and changes
released_reached : (got : ℕ → List Letter) (dropped : List Letter) (e : Event) (w new : WorldView) (p i : ℕ) → Plain e → Good w → p < i → (detector_on w).phase ≡ phase.Release i → detector_on new ≡ detector_on w → OnOne e w new p →
    Reached got dropped (settled w) (event_steps e w) (settled new)
released_reached got dropped e w new p i plain g below ph stays one =
    let a = at_one e w new p one.row in
    let value = value_of (detector_on w).answer in
    let here : settled w ≡ with_parts w (released_from i value w.parts) = ap (λ f. with_parts w (settled_in f value w.parts)) ph in
    let next : settled new ≡ with_part (with_parts w (released_from i value w.parts)) p a.behind =
    ap (λ (d : DetectorState). with_parts new (settled_in d.phase (value_of d.answer) new.parts)) stays
    ∙ (ap (λ f. with_parts new (settled_in f value new.parts)) ph
    ∙ (ap (λ (x : WorldView). with_parts x (released_from i value x.parts)) a.is ∙ ap (with_parts w) (released_set i value w.parts p a.behind below))) in
    let mid : WorldView = with_parts w (released_from i value w.parts) in
    let good : Good mid = subst Good here (good_settled w g) in
    let reach : reach_of mid ≡ reach_of w = ap reach_of (sym here) ∙ reach_match w (settled w).parts (means_now w).beats in
    let r = by_part got dropped e mid (with_part mid p a.behind) p (slice_get w.parts p) plain good (released_get i value w.parts p below)
    (ap (λ q. option_map (with_part mid p) (option_and_then (after e crossing.None) q)) a.was ∙ ap (option_map (with_part mid p)) a.row) in
    subst (λ (x : WorldView). Reached got dropped x (event_steps e w) (settled new)) (sym here)
    (subst (λ (y : WorldView). Reached got dropped mid (event_steps e w) y) (sym next)
    (subst (λ (s : List BagStep). Reached got dropped mid s (with_part mid p a.behind)) (ap (λ r. part_steps r e (slice_get w.parts p)) reach ∙ sym one.steps) r))

-- ---- any moment

plain_in : (got : ℕ → List Letter) (dropped : List Letter) (e : Event) (w new : WorldView) (ph : Phase) → Plain e → Good w → happened e w ≡ Some new → (detector_on w).phase ≡ ph → detector_on new ≡ detector_on w →
    ((i : ℕ) → ph ≡ phase.Release i → (p : ℕ) × OnOne e w new p × (p < i)) → Reached got dropped (settled w) (event_steps e w) (settled new)
plain_in got dropped e w new ph plain g h now stays one = by ph now one
  where
    calm_reached : NoRelease (detector_on w).phase → Reached got dropped (settled w) (event_steps e w) (settled new)
    calm_reached calm =
        subst (λ (x : WorldView). Reached got dropped x (event_steps e w) (settled new)) (sym (settled_now w calm))
        (subst (λ (y : WorldView). Reached got dropped w (event_steps e w) y) (sym (settled_now new (subst (λ (d : DetectorState). NoRelease d.phase) (sym stays) calm))) (event_reached got dropped e w new plain g h))

    by : (ph : Phase) → (detector_on w).phase ≡ ph → ((i : ℕ) → ph ≡ phase.Release i → (p : ℕ) × OnOne e w new p × (p < i)) → Reached got dropped (settled w) (event_steps e w) (settled new)
    by phase.Collect now one = calm_reached (subst NoRelease (sym now) tt)
    by (phase.Confirm i) now one = calm_reached (subst NoRelease (sym now) tt)
    by (phase.Go i) now one = calm_reached (subst NoRelease (sym now) tt)
    by (phase.Release i) now one = let o = one i refl in released_reached got dropped e w new o.0 i plain g o.2 now stays o.1

pub plain_reached : (got : ℕ → List Letter) (dropped : List Letter) (e : Event) (w new : WorldView) → Plain e → Good w → IsQuietWorld w → Good new → happened e w ≡ Some new → Reached got dropped (settled w) (event_steps e w) (settled new)
plain_reached got dropped e w new plain g quiet then_ h =
    let st : IsStep e w new = rest_steps e w new g.limits quiet.world h in
    let n = visited w.shape in
    let m = link_count w.shape in
    let hap = happens n m st.event (shown_parts w) (shown_parts new) st.steps in
    let shape = (kept_at e w new (places w.shape e) quiet.world h).1 in
    let rest = plain_rest w.shape e st.event plain st.is in
    let stays : detector_on new ≡ detector_on w =
    sym (rest_detector new then_) ∙ (ap (λ (s : ShapeNumbers). (seen (visited s) (link_count s) (shown_parts new)).detector) shape ∙ (detector_stays n m st.event (rest_of w) (seen n m (shown_parts new)) rest hap ∙ rest_detector w g)) in
    plain_in got dropped e w new (detector_on w).phase plain g h refl stays (λ i ph.
    let releasing : IsReleasing i n m (rest_of w) = subst (λ f. InPhase f n m (rest_of w)) (ap (λ (d : DetectorState). d.phase) (rest_detector w g) ∙ ph) quiet.quiet.phase in
    let x = works_before n m i st.event (rest_of w) (seen n m (shown_parts new)) rest releasing hap in
    (x.0, on_one e w new x.0 plain h (st.is ∙ ap Some x.1), x.2))

-- ---- the thread that makes a turn

thread_in_phase : (w : WorldView) (ph : Phase) (value p a : ℕ) → ((i : ℕ) → ph ≡ phase.Release i → p < i) → part_for w a ≡ p → thread_of (with_parts w (settled_in ph value w.parts)) a ≡ thread_of w a
thread_in_phase w phase.Collect value p a before at = refl
thread_in_phase w (phase.Confirm i) value p a before at = refl
thread_in_phase w (phase.Release i) value p a before at =
    ap (λ x. thread_in (tile_in x) (place_in_tile w.shape a)) (released_before i value w.parts (part_for w a) (subst (λ j. j < i) (sym at) (before i refl)))
thread_in_phase w (phase.Go i) value p a before at = refl

-- a thread that makes a turn is what it is with the release carried through
pub turn_settled : (t : ThreadId) (k : ℕ) (w new : WorldView) → Good w → IsQuietWorld w → happened (event.Turn t k) w ≡ Some new → thread_of (settled w) t.0 ≡ thread_of w t.0
turn_settled t k w new g quiet h =
    let e : Event = event.Turn t k in
    let st : IsStep e w new = rest_steps e w new g.limits quiet.world h in
    let n = visited w.shape in
    let m = link_count w.shape in
    let hap = happens n m st.event (shown_parts w) (shown_parts new) st.steps in
    let rest = plain_rest w.shape e st.event tt st.is in
    let x = kept_by Work (part_of w.shape t) st.event st.is in
    thread_in_phase w (detector_on w).phase (value_of (detector_on w).answer) x.0 t.0 (λ i ph.
    let releasing : IsReleasing i n m (rest_of w) = subst (λ f. InPhase f n m (rest_of w)) (ap (λ (d : DetectorState). d.phase) (rest_detector w g) ∙ ph) quiet.quiet.phase in
    let y = works_before n m i st.event (rest_of w) (seen n m (shown_parts new)) rest releasing hap in
    subst (λ j. j < i) (same_work y.0 x.0 (sym y.1 ∙ x.2)) y.2)
    (part_is w.shape t x.0 x.1)
  where
    part_is : (n : ShapeNumbers) (t : ThreadId) (p : ℕ) → part_of n t ≡ Some p → tile_part (tile_place n (tile_of t.0)) ≡ p
    part_is n t p e = sym (taken (has_thread n t.0) (tile_part (tile_place n (tile_of t.0))) p e).1
