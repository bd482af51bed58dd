-- An announcement of the detector is an announcement of the bag machine.
use Rattle.std.proofs.Common.{ℕ, ◌≡◌, ◌≢◌, ◌+◌, List, [], ◌∷◌, get_or, map, set, refl, sym, ◌∙◌, ap, subst, arith, IsTrue, Some}
use Rattle.std.specs.Prelude.{count_by}
use Rattle.std.proofs.lemmas.List.{get_or-map, get_or-set_other, get_or-set_same}
use Rattle.tn_base.specs.declared.event.Event.TheVariants as event
use Rattle.tn_base.specs.declared.message.Letter.{Letter}
use Rattle.tn_base.specs.Address.{has_thread, place_in_tile}
use Rattle.tn_base.specs.Parts.{visited}
use Rattle.tn_detect.specs.declared.phase.Phase.TheVariants as phase
use Rattle.tn_detect.specs.declared.state.DetectorState.{DetectorState}
use Rattle.tn_detect.specs.DetectorView.{DetectorView, with_now as detector_with_now}
use Rattle.tn_detect.specs.Notes.{answer_of, value_of}
use Rattle.tn_detect.specs.Rows.{announced as detector_announced}
use Rattle.tn_host.specs.Script.{past_await}
use Rattle.tn_node.specs.Deed as deed
use Rattle.tn_quiet.specs.Law.{IsQuietWorld}
use Rattle.tn_quiet.specs.Machine.{link_count, rest_of}
use Rattle.tn_quiet.proofs.Machines.{at_last}
use Rattle.tn_rest.specs.Quiet.{IsAtRest as IsRest, notes_of}
use Rattle.tn_rest.proofs.Detecting.{noted_at, rest_at}
use Rattle.tn_rest.proofs.RowsTell.{announce_tells}
use Rattle.tn_rows.specs.Events.{happened}
use Rattle.tn_rows.specs.PartView.{PartView, TileV, HostV, DetectorV, AbsentV}
use Rattle.tn_rows.specs.Places.{detector_part}
use Rattle.tn_rows.specs.WorldView.{WorldView}
use Rattle.tn_tile.specs.Rows.{told}
use Rattle.tn_tile.specs.Step.{no_thread, thread_at}
use Rattle.tn_rows.specs.Visited.{released_part}
use Rattle.tn_letters.specs.declared.place.Place.{Place}
use Rattle.tn_letters.specs.declared.steps.BagStep.{BagStep}
use Rattle.tn_letters.specs.AtRest.{IsResting, told_value, voted}
use Rattle.tn_letters.specs.Law.{dropped_in}
use Rattle.tn_letters.specs.Machine.{announced, answer}
use Rattle.tn_letters.specs.Settled.{detector_in, detector_on, released_from, settled, settled_in}
use Rattle.tn_letters.specs.Standing.{standing, standing_letters}
use Rattle.tn_letters.specs.State.{Same}
use Rattle.tn_letters.specs.Steps.{event_steps, part_steps}
use Rattle.tn_letters.specs.Tiles.{host_in, host_on, part_for, program_of, reach_of, thread_of, tile_in}
use Rattle.tn_letters.proofs.Arrives.{Arrives, later}
use Rattle.tn_letters.proofs.Bare.{alike_dropped, alike_means, flight_match, held_match, program_match, with_parts}
use Rattle.tn_letters.proofs.Detected.{Alone, alone}
use Rattle.tn_letters.proofs.Empty.{at_rest, host_there, seat}
use Rattle.tn_letters.proofs.Lift.{Good, OnPart}
use Rattle.tn_letters.proofs.Carried.{rest_detector}
use Rattle.tn_letters.proofs.Runs.{same_refl}
use Rattle.tn_letters.proofs.Settling.{released_behind, settled_means}
use Rattle.tn_letters.proofs.Silent.{NoRelease, detector_is, detector_visits, one_alike, settled_now}
use Rattle.tn_letters.proofs.Simulate.{shown}
use Rattle.tn_letters.proofs.Votes.{value_same}

-- the parts of a machine once all are released with a value, with another detector
abbrev all_released : WorldView → DetectorView → ℕ → List PartView
all_released w t value = released_from 0 value (set w.parts (detector_part w.shape) (DetectorV t))

-- such a part is released
released_there : (w : WorldView) (t : DetectorView) (value p : ℕ) (x : PartView) → OnPart w p x → p ≢ detector_part w.shape → get_or (all_released w t value) p AbsentV ≡ released_part value x
released_there w t value p x on ne =
    released_behind 0 value (set w.parts (detector_part w.shape) (DetectorV t)) p (omega arith)
    ∙ ap (released_part value) (get_or-set_other w.parts (detector_part w.shape) p (DetectorV t) AbsentV ne ∙ on.is)

-- each thread learns the value if it was idle
thread_told : (w : WorldView) (t : DetectorView) (value a : ℕ) → Good w → IsTrue (has_thread w.shape a) → told value (thread_of w a) ≡ thread_of (with_parts w (all_released w t value)) a
thread_told w t value a g there =
    let s = seat w a g there in
    let k = place_in_tile w.shape a in
    let inside = s.inside in
    let last = at_last w.shape g.limits in
    let here = released_there w t value (part_for w a) (TileV s.tile) s.on (λ (e : part_for w a ≡ detector_part w.shape). absurd (omega arith)) in
    ap (told value) s.thread ∙ (sym (get_or-map (told value) s.tile.now.threads k no_thread no_thread s.within) ∙ sym (ap (λ x. thread_at (tile_in x).now k) here))

script_passed : (w : WorldView) (t : DetectorView) (value : ℕ) → Good w → past_await (host_on w).script ≡ (host_on (with_parts w (all_released w t value))).script
script_passed w t value g =
    let h = host_there w g in
    let last = at_last w.shape g.limits in
    let here = released_there w t value 0 (HostV h.0) h.1 (λ (e : 0 ≡ detector_part w.shape). absurd (omega arith)) in
    ap (λ x. past_await (host_in x).script) h.1.is ∙ sym (ap (λ x. (host_in x).script) here)

-- what the machine shows after the announcement
announces_so : (got : ℕ → List Letter) (dropped : List Letter) (k : ℕ) (w : WorldView) (v t : DetectorView) (value : ℕ) → Good w → OnPart w (detector_part w.shape) (DetectorV v) → value ≡ answer w.shape (later k (shown got dropped w)) →
    Same w.shape (announced w.shape (later k (shown got dropped w))) (later (k + 1) (shown got dropped (with_parts w (all_released w t value))))
announces_so got dropped k w v t value g on learns =
    let ys = set w.parts (detector_part w.shape) (DetectorV t) in
    let one = alike_means w ys (one_alike w v t on) in
    let two = settled_means (with_parts w ys) (phase.Release 0) value in
    let zs = all_released w t value in
    let flight : standing_letters w ≡ standing_letters (with_parts w zs) = sym (flight_match (with_parts w ys) zs two ∙ flight_match w ys one) in
    record {
      threads = λ a there. ap (λ x. told x (thread_of w a)) (sym learns) ∙ thread_told w t value a g there;
      flight = record { each = λ test. ap (count_by test) flight };
      got = λ a there. refl;
      held = λ a slot there. sym (ap (λ h. h a slot) (held_match (with_parts w ys) zs two ∙ held_match w ys one));
      dropped = refl;
      host = sym (two.got 0 ∙ one.got 0);
      script = script_passed w t value g;
      host_sends = sym (two.sends 0 ∙ one.sends 0);
      announcements = let e : 0 + k + 1 ≡ 0 + (k + 1) = omega arith in e;
    }

-- before an announcement all parts are confirmed
announce_phase : (w new : WorldView) → Good w → IsQuietWorld w → (a : Alone w new deed.Announce) → (rest_of w).detector.phase ≡ phase.Confirm (visited w.shape)
announce_phase w new g q a =
    let u = announce_tells a.detector.visited a.detector.now a.behind a.does in
    ap (λ (d : DetectorState). d.phase) (rest_detector w g ∙ detector_is w a.detector a.detector_on) ∙ (u.phase ∙ ap phase.Confirm (detector_visits w a.detector q g a.detector_on))

-- so all parts are still and all links are empty, and the votes of all parts are noted
pub rest_before : (w new : WorldView) → Good w → IsQuietWorld w → happened event.Announce w ≡ Some new → IsRest (visited w.shape) (link_count w.shape) (rest_of w)
rest_before w new g q h = rest_at (visited w.shape) (link_count w.shape) (rest_of w) q.quiet (announce_phase w new g q (alone event.Announce deed.Announce w new g h refl))

none_listed : (xs : List (Place × Letter)) → map (λ (q : Place × Letter). q.1) xs ≡ [] → xs ≡ []
none_listed [] e = refl
none_listed (x ∷ xs) e = cc e

pub resting : (w : WorldView) → Good w → IsRest (visited w.shape) (link_count w.shape) (rest_of w) → IsResting w
resting w g rest = let r = at_rest (λ a. []) [] w g rest in record { threads = r.threads; letters = none_listed (standing w) r.flight; host = r.host }

-- the detector's answer after an announcement is that of all parts
pub answer_is : (w new : WorldView) → Good w → IsQuietWorld w → happened event.Announce w ≡ Some new → (detector_on new).answer ≡ Some (answer_of (notes_of (rest_of w).part (visited w.shape)))
answer_is w new g q h =
    let a : Alone w new deed.Announce = alone event.Announce deed.Announce w new g h refl in
    let s = a.detector.now in
    let u = announce_tells a.detector.visited s a.behind a.does in
    let t = detector_with_now a.detector a.behind in
    let next : detector_on (with_parts w (set w.parts (detector_part w.shape) (DetectorV t))) ≡ detector_announced s = ap detector_in (get_or-set_same w.parts (detector_part w.shape) (DetectorV t) AbsentV a.detector_on.within) ∙ u.is in
    let noted : s.noted ≡ notes_of (rest_of w).part (visited w.shape) =
    sym (ap (λ (d : DetectorState). d.noted) (rest_detector w g ∙ detector_is w a.detector a.detector_on)) ∙ noted_at (visited w.shape) (link_count w.shape) (rest_of w) q.quiet (announce_phase w new g q a) in
    ap (λ (x : WorldView). (detector_on x).answer) a.is ∙ (ap (λ (d : DetectorState). d.answer) next ∙ ap (λ n. Some (answer_of n)) noted)

pub told_votes : (w new : WorldView) → Good w → IsQuietWorld w → happened event.Announce w ≡ Some new → told_value new ≡ voted w
told_votes w new g q h = ap value_of (answer_is w new g q h) ∙ value_same w g

pub announce_arrives : (got : ℕ → List Letter) (dropped : List Letter) (k : ℕ) (w new : WorldView) → Good w → IsQuietWorld w → happened event.Announce w ≡ Some new → Arrives got dropped k w (event_steps event.Announce w) new
announce_arrives got dropped k w new g q h =
    let a : Alone w new deed.Announce = alone event.Announce deed.Announce w new g h refl in
    let s = a.detector.now in
    let u = announce_tells a.detector.visited s a.behind a.does in
    let now : detector_on w ≡ s = detector_is w a.detector a.detector_on in
    let n = visited w.shape in
    let m = link_count w.shape in
    let seen : (rest_of w).detector ≡ s = rest_detector w g ∙ now in
    let ph : (rest_of w).detector.phase ≡ phase.Confirm n = announce_phase w new g q a in
    let rest : IsRest n m (rest_of w) = rest_at n m (rest_of w) q.quiet ph in
    let noted : s.noted ≡ notes_of (rest_of w).part n = sym (ap (λ (d : DetectorState). d.noted) seen) ∙ noted_at n m (rest_of w) q.quiet ph in
    let t = detector_with_now a.detector a.behind in
    let ys = set w.parts (detector_part w.shape) (DetectorV t) in
    let value = value_of (Some (answer_of s.noted)) in
    let zs = all_released w t value in
    let before : settled w ≡ w = settled_now w (subst NoRelease (sym (ap (λ (d : DetectorState). d.phase) now ∙ u.phase)) tt) in
    let next : detector_on (with_parts w ys) ≡ detector_announced s = ap detector_in (get_or-set_same w.parts (detector_part w.shape) (DetectorV t) AbsentV a.detector_on.within) ∙ u.is in
    let behind : settled new ≡ with_parts w zs = ap settled a.is ∙ ap (λ (d : DetectorState). with_parts w (settled_in d.phase (value_of d.answer) ys)) next in
    let learns : value ≡ answer w.shape (later k (shown got dropped w)) = ap (λ x. value_of (Some (answer_of x))) noted ∙ value_same w g in
    let r = at_rest got dropped w g rest in
    let one = alike_means w ys (one_alike w a.detector t a.detector_on) in
    subst (λ (steps : List BagStep). Arrives got dropped k w steps new) (sym (ap (part_steps (reach_of w) event.Announce) a.read)) (record {
      now = got;
      gone = dropped;
      more = k + 1;
      run = (
        later k (shown got dropped w),
        announced w.shape (later k (shown got dropped w)),
        subst (λ (x : WorldView). Same w.shape (later k (shown got dropped x)) (later k (shown got dropped w))) (sym before) (same_refl w.shape (later k (shown got dropped w))),
        (record { threads = r.threads; flight = r.flight; host = r.host }, refl),
        subst (λ (x : WorldView). Same w.shape (announced w.shape (later k (shown got dropped w))) (later (k + 1) (shown got dropped x))) (sym behind) (announces_so got dropped k w a.detector t value g a.detector_on learns),
      );
      program = ap program_of a.is ∙ program_match w ys one;
      count = let c : dropped_in new ≡ dropped_in w = ap dropped_in a.is ∙ alike_dropped w.parts ys (one_alike w a.detector t a.detector_on) in omega arith;
    })

-- each thread that was idle has the announced value, with the release carried through
pub thread_learns : (w new : WorldView) (a : ℕ) → Good w → IsQuietWorld w → happened event.Announce w ≡ Some new → IsTrue (has_thread w.shape a) → (new.shape ≡ w.shape) × (thread_of (settled new) a ≡ told (value_of (detector_on new).answer) (thread_of w a))
thread_learns w new a g q h there =
    let r : Alone w new deed.Announce = alone event.Announce deed.Announce w new g h refl in
    let s = r.detector.now in
    let u = announce_tells r.detector.visited s r.behind r.does in
    let t = detector_with_now r.detector r.behind in
    let ys = set w.parts (detector_part w.shape) (DetectorV t) in
    let value = value_of (Some (answer_of s.noted)) in
    let next : detector_on (with_parts w ys) ≡ detector_announced s = ap detector_in (get_or-set_same w.parts (detector_part w.shape) (DetectorV t) AbsentV r.detector_on.within) ∙ u.is in
    let behind : settled new ≡ with_parts w (all_released w t value) = ap settled r.is ∙ ap (λ (d : DetectorState). with_parts w (settled_in d.phase (value_of d.answer) ys)) next in
    let says : value_of (detector_on new).answer ≡ value = ap (λ (x : WorldView). value_of (detector_on x).answer) r.is ∙ ap (λ (d : DetectorState). value_of d.answer) next in
    (ap (λ (x : WorldView). x.shape) r.is, ap (λ (x : WorldView). thread_of x a) behind ∙ (sym (thread_told w t value a g there) ∙ ap (λ v. told v (thread_of w a)) (sym says)))
