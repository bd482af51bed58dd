-- At rest a machine has an event of the detector.
use Rattle.std.proofs.Common.{ℕ, ◌≡◌, ◌≢◌, ◌<◌, refl, sym, ap, subst, ◌∙◌, arith, true, cond, Option, Some, None, is_some, option_map, slice_get, get_or}
use Rattle.std.specs.Prelude.{nat_lt, option_and_then, IsSome}
use Rattle.std.proofs.lemmas.Bool.{lt-ltb}
use Rattle.std.proofs.lemmas.Option.{slice_get-get_or}
use Rattle.tn_base.specs.declared.event.Event.{Event}
use Rattle.tn_base.specs.declared.event.Event.TheVariants as event
use Rattle.tn_base.specs.declared.ids.PartId.{PartId}
use Rattle.tn_base.specs.declared.part.Kind.TheVariants as kind
use Rattle.tn_base.specs.Parts.{kind_of, part_count, visited}
use Rattle.tn_base.specs.Shape.{WithinLimits}
use Rattle.tn_detect.specs.declared.facts.PartView.{PartView as Told}
use Rattle.tn_detect.specs.declared.phase.Phase.TheVariants as phase
use Rattle.tn_detect.specs.declared.state.DetectorState.{DetectorState}
use Rattle.tn_detect.specs.DetectorView.{DetectorView, now_by as detector_now_by}
use Rattle.tn_detect.specs.Notes.{value_of}
use Rattle.tn_detect.specs.Rows.{announce_row, begin_row, confirm_row, go_row, release_row, report_row}
use Rattle.tn_host.proofs.Deeds.{tells_own as host_tells}
use Rattle.tn_host.specs.Rows.{host_facts}
use Rattle.tn_node.specs.declared.facts.PartFacts.{PartFacts}
use Rattle.tn_node.specs.Deed.{Deed}
use Rattle.tn_node.specs.Deed as deed
use Rattle.tn_rest.specs.Happens.{Announce, Begin, Confirm, Go, Release, Report, RestEvent, Work, Depart, Arrive}
use Rattle.tn_rest.specs.Law.{Can}
use Rattle.tn_rest.specs.Quiet.{IsAtRest}
use Rattle.tn_rest.specs.Seen.{Visited, detector_of, facts_of, no_facts}
use Rattle.tn_rest.proofs.RowsTell.{report_tells}
use Rattle.tn_rest.proofs.Open.{open_at_rest, open_outside}
use Rattle.tn_router.proofs.Deeds.{tells_own as router_tells}
use Rattle.tn_router.specs.Rows.{router_facts}
use Rattle.tn_router.specs.RouterView.{now_by as router_now_by}
use Rattle.tn_rows.specs.DetectorDeed.{view_of}
use Rattle.tn_rows.specs.Events.{FitsKind, IsWorld, after, crossing_of, happened, happened_at, meets_at, met_by, met_with, told, told_by, with_both, with_part}
use Rattle.tn_rows.specs.PartView.{PartView, TileV, RouterV, LinkV, HostV, DetectorV, AbsentV}
use Rattle.tn_rows.specs.Places.{detector_part, two_if}
use Rattle.tn_rows.specs.WorldView.{WorldView}
use Rattle.tn_stamp.specs.declared.entry.Crossing.{Crossing}
use Rattle.tn_stamp.specs.declared.entry.Crossing.TheVariants as crossing
use Rattle.tn_tile.proofs.Deeds.{tells_own as tile_tells}
use Rattle.tn_tile.specs.Rows.{tile_facts}
use Rattle.tn_tile.specs.TileView.{now_by as tile_now_by}
use Rattle.tn_quiet.specs.Law.{IsQuietWorld}
use Rattle.tn_quiet.specs.Machine.{link_count, rest_of, shown, shows}
use Rattle.tn_quiet.proofs.Detectors.{detector_can}
use Rattle.tn_quiet.proofs.Lists.{shown_at}
use Rattle.tn_quiet.proofs.Machines.{at_last, visited_is_visited}
use Rattle.tn_rows.proofs.HostLinks.{detector_last}
use Rattle.tn_rows.proofs.PartKinds.{visited_kind}
use Rattle.tn_quiet.proofs.Parts.{IsVisitedPart}

-- a value that is there
there : {A : Type 0} (o : Option A) → is_some o ≡ true → (x : A) × (o ≡ Some x)
there None h = cc h
there (Some x) h = (x, refl)

-- what a visited part tells, and that its side of the detector's events is there, whatever the answer is
record Tells (x : PartView) (value : ℕ) : Type 0 where
  facts : PartFacts
  told : told_by x ≡ Some facts
  shown : shows x ≡ Visited (record { view = view_of facts; held = (facts_of (Some (shows x))).held })
  reports : (p : PartId) → facts.still ≡ true → is_some (after (event.Report p) (crossing.View (record facts { value = value })) x) ≡ true
  confirms : (p : PartId) → is_some (after (event.Confirm p) (crossing.View (record facts { value = value })) x) ≡ true
  releases : (p : PartId) → is_some (after (event.Release p) (crossing.View (record facts { value = value })) x) ≡ true
  goes : (p : PartId) → is_some (after (event.Go p) (crossing.View (record facts { value = value })) x) ≡ true

tells : (x : PartView) (value : ℕ) → IsVisitedPart x → Tells x value
tells (TileV v) value i =
    let t = tile_tells v.plan v.now in record {
      facts = tile_facts v.now;
      told = refl;
      shown = refl;
      reports = λ p still. ap (λ o. is_some (option_map TileV (tile_now_by v o))) (t.reports p.0 value still);
      confirms = λ p. ap (λ o. is_some (option_map TileV (tile_now_by v o))) (t.confirms p.0 value);
      releases = λ p. ap (λ o. is_some (option_map TileV (tile_now_by v o))) (t.releases p.0 value);
      goes = λ p. ap (λ o. is_some (option_map TileV (tile_now_by v o))) (t.goes p.0 value);
    }
tells (RouterV v) value i =
    let t = router_tells v.plan v.now in record {
      facts = router_facts v.now;
      told = refl;
      shown = refl;
      reports = λ p still. ap (λ o. is_some (option_map RouterV (router_now_by v o))) (t.reports p.0 value still);
      confirms = λ p. ap (λ o. is_some (option_map RouterV (router_now_by v o))) (t.confirms p.0 value);
      releases = λ p. ap (λ o. is_some (option_map RouterV (router_now_by v o))) (t.releases p.0 value);
      goes = λ p. ap (λ o. is_some (option_map RouterV (router_now_by v o))) (t.goes p.0 value);
    }
tells (HostV s) value i =
    let t = host_tells s in record {
      facts = host_facts s;
      told = refl;
      shown = refl;
      reports = λ p still. ap (λ o. is_some (option_map HostV o)) (t.reports p.0 value still);
      confirms = λ p. ap (λ o. is_some (option_map HostV o)) (t.confirms p.0 value);
      releases = λ p. ap (λ o. is_some (option_map HostV o)) (t.releases p.0 value);
      goes = λ p. ap (λ o. is_some (option_map HostV o)) (t.goes p.0 value);
    }
tells (LinkV v) value i = absurd i
tells (DetectorV v) value i = absurd i
tells AbsentV value i = absurd i

part_there : (w : WorldView) (p : ℕ) → IsWorld w → p < visited w.shape → p < part_count w.shape → (x : PartView) × (slice_get w.parts p ≡ Some x) × IsVisitedPart x
part_there w p made l inside =
    let count = made.count in
    let e = slice_get-get_or w.parts p AbsentV (omega arith) in
    (get_or w.parts p AbsentV, e, visited_is_visited w.shape (kind_of w.shape p) (get_or w.parts p AbsentV) (made.each p inside) (visited_kind w.shape p l))

is_detector : (w : WorldView) (x : PartView) → FitsKind w.shape kind.Detector x → (v : DetectorView) × (x ≡ DetectorV v) × (v.visited ≡ visited w.shape)
is_detector w (DetectorV v) f = (v, refl, f.0)
is_detector w (TileV v) f = absurd f
is_detector w (RouterV v) f = absurd f
is_detector w (LinkV v) f = absurd f
is_detector w (HostV s) f = absurd f
is_detector w AbsentV f = absurd f

detector_there : (w : WorldView) → IsWorld w → detector_part w.shape < part_count w.shape → (v : DetectorView) × (slice_get w.parts (detector_part w.shape) ≡ Some (DetectorV v)) × (v.visited ≡ visited w.shape)
detector_there w made inside =
    let count = made.count in
    let q = detector_part w.shape in
    let e = slice_get-get_or w.parts q AbsentV (omega arith) in
    let d = is_detector w (get_or w.parts q AbsentV) (subst (λ k. FitsKind w.shape k (get_or w.parts q AbsentV)) (detector_last w.shape) (made.each q inside)) in
    (d.0, e ∙ ap (λ (x : PartView). Some x) d.1, d.2)

some_met : (a b : Option PartView) → is_some a ≡ true → is_some b ≡ true → is_some (met_by a b) ≡ true
some_met (Some a) (Some b) e f = refl
some_met None b e f = cc e
some_met (Some a) None e f = cc f

some_mapped : {A B : Type 0} (g : A → B) (o : Option A) → is_some o ≡ true → is_some (option_map g o) ≡ true
some_mapped g (Some x) e = refl
some_mapped g None e = cc e

-- an event on two parts whose rows are there
two_happen : (e : Event) (w : WorldView) (p q : ℕ) (x y : PartView) (c : Crossing) → p < visited w.shape → slice_get w.parts p ≡ Some x → slice_get w.parts q ≡ Some y → crossing_of e x y ≡ Some c
    → is_some (after e c x) ≡ true → is_some (after e c y) ≡ true → is_some (happened_at e w (two_if (nat_lt p (visited w.shape)) p q)) ≡ true
two_happen e w p q x y c l was other cross low high =
    ap (λ b. is_some (happened_at e w (two_if b p q))) (lt-ltb p (visited w.shape) l)
    ∙ (ap (λ o. is_some (option_map (with_both w p q) (meets_at e o (slice_get w.parts q)))) was
    ∙ (ap (λ o. is_some (option_map (with_both w p q) (meets_at e (Some x) o))) other
    ∙ (ap (λ o. is_some (option_map (with_both w p q) (met_with e x y o))) cross
    ∙ some_mapped (with_both w p q) (met_by (after e c x) (after e c y)) (some_met (after e c x) (after e c y) low high))))

-- ---- what is seen of both

seen_view : (w : WorldView) (p value : ℕ) (x : PartView) (t : Tells x value) → p < visited w.shape → slice_get w.parts p ≡ Some x → ((rest_of w).part p).view ≡ view_of t.facts
seen_view w p value x t l e =
    ap (λ b. (cond b (facts_of (slice_get (shown w) p)) no_facts).view) (lt-ltb p (visited w.shape) l)
    ∙ (ap (λ o. (facts_of o).view) (shown_at w p x e)
    ∙ ap (λ y. (facts_of (Some y)).view) t.shown)

seen_detector : (w : WorldView) (v : DetectorView) → WithinLimits w.shape → slice_get w.parts (detector_part w.shape) ≡ Some (DetectorV v) → (rest_of w).detector ≡ v.now
seen_detector w v limits e = ap (λ k. detector_of (slice_get (shown w) k)) (at_last w.shape limits) ∙ ap detector_of (shown_at w (detector_part w.shape) (DetectorV v) e)

some_deed : (v : DetectorView) (o : Option DetectorState) (t : DetectorState) → o ≡ Some t → is_some (option_map DetectorV (detector_now_by v o)) ≡ true
some_deed v o t e = ap (λ x. is_some (option_map DetectorV (detector_now_by v x))) e

-- a visited part and the detector, as an event on both finds them
record Both (w : WorldView) (p : ℕ) : Type 0 where
  inside : p < visited w.shape
  part : PartView
  was : slice_get w.parts p ≡ Some part
  detector : DetectorView
  there : slice_get w.parts (detector_part w.shape) ≡ Some (DetectorV detector)
  visits : detector.visited ≡ visited w.shape
  seen : (rest_of w).detector ≡ detector.now
  tells : Tells part (value_of detector.now.answer)
  view : ((rest_of w).part p).view ≡ view_of tells.facts

both_at : (w : WorldView) (p : ℕ) → WithinLimits w.shape → IsWorld w → p < visited w.shape → Both w p
both_at w p limits made l =
    let last = at_last w.shape limits in
    let x = part_there w p made l (omega arith) in
    let d = detector_there w made (omega arith) in
    let t = tells x.0 (value_of d.0.now.answer) x.2 in
    record { inside = l; part = x.0; was = x.1; detector = d.0; there = d.1; visits = d.2; seen = seen_detector w d.0 limits d.1; tells = t; view = seen_view w p (value_of d.0.now.answer) x.0 t l x.1 }

crosses : (x : PartView) (v : DetectorView) (t : Tells x (value_of v.now.answer)) → option_map crossing.View (told x (DetectorV v)) ≡ Some (crossing.View (record t.facts { value = value_of v.now.answer }))
crosses x v t = ap (λ o. option_map crossing.View (option_map (λ (f : PartFacts). record f { value = value_of v.now.answer }) o)) t.told

open_by : (w : WorldView) (e : RestEvent) → WithinLimits w.shape → IsWorld w → Can (visited w.shape) e (rest_of w) → (f : Event) × IsSome (happened f w)
open_by w (Report p) limits made can =
    let b = both_at w p limits made can.0 in
    let f : PartFacts = record b.tells.facts { value = value_of b.detector.now.answer } in
    let row = there (report_row p ((rest_of w).part p).view (rest_of w).detector) can.1 in
    let told = report_tells p ((rest_of w).part p).view (rest_of w).detector row.0 row.1 in
    let still : b.tells.facts.still ≡ true = sym (ap (λ (v : Told). v.still) b.view) ∙ told.still in
    let here : report_row p (view_of f) b.detector.now ≡ Some row.0 = subst (λ d. report_row p (view_of f) d ≡ Some row.0) b.seen (subst (λ v. report_row p v (rest_of w).detector ≡ Some row.0) b.view row.1) in
    let can_do = detector_can b.detector.visited (deed.Report p f) b.detector.now row.0 (subst (λ k. p < k) (sym b.visits) can.0, refl, here) in
    let q : PartId = record { 0 = p } in
    (event.Report q, two_happen (event.Report q) w p (detector_part w.shape) b.part (DetectorV b.detector) (crossing.View f) can.0 b.was b.there (crosses b.part b.detector b.tells) (b.tells.reports q still) (some_deed b.detector _ row.0 can_do))
open_by w Begin limits made can =
    let last = at_last w.shape limits in
    let d = detector_there w made (omega arith) in
    let seen = seen_detector w d.0 limits d.1 in
    let row = there (begin_row (rest_of w).detector) can in (
      event.Begin,
      ap (λ o. is_some (option_map (with_part w (detector_part w.shape)) (option_and_then (after event.Begin crossing.None) o))) d.1
          ∙ some_mapped (with_part w (detector_part w.shape)) (option_map DetectorV (detector_now_by d.0 (begin_row d.0.now))) (some_deed d.0 (begin_row d.0.now) row.0 (subst (λ s. begin_row s ≡ Some row.0) seen row.1)),
    )
open_by w (Confirm p) limits made can =
    let b = both_at w p limits made can.0 in
    let f : PartFacts = record b.tells.facts { value = value_of b.detector.now.answer } in
    let n = visited w.shape in
    let row = there (confirm_row n ((rest_of w).part p).view (rest_of w).detector) can.2 in
    let here : confirm_row n (view_of f) b.detector.now ≡ Some row.0 = subst (λ d. confirm_row n (view_of f) d ≡ Some row.0) b.seen (subst (λ v. confirm_row n v (rest_of w).detector ≡ Some row.0) b.view row.1) in
    let ph : b.detector.now.phase ≡ phase.Confirm p = sym (ap (λ (s : DetectorState). s.phase) b.seen) ∙ can.1 in
    let can_do = detector_can b.detector.visited (deed.Confirm p f) b.detector.now row.0 (ph, refl, subst (λ k. confirm_row k (view_of f) b.detector.now ≡ Some row.0) (sym b.visits) here) in
    let q : PartId = record { 0 = p } in
    (event.Confirm q, two_happen (event.Confirm q) w p (detector_part w.shape) b.part (DetectorV b.detector) (crossing.View f) can.0 b.was b.there (crosses b.part b.detector b.tells) (b.tells.confirms q) (some_deed b.detector _ row.0 can_do))
open_by w Announce limits made can =
    let last = at_last w.shape limits in
    let d = detector_there w made (omega arith) in
    let seen = seen_detector w d.0 limits d.1 in
    let row = there (announce_row (visited w.shape) (rest_of w).detector) can in (
      event.Announce,
      ap (λ o. is_some (option_map (with_part w (detector_part w.shape)) (option_and_then (after event.Announce crossing.None) o))) d.1
          ∙ some_mapped (with_part w (detector_part w.shape)) (option_map DetectorV (detector_now_by d.0 (announce_row d.0.visited d.0.now))) (some_deed d.0 (announce_row d.0.visited d.0.now) row.0
          (subst (λ k. announce_row k d.0.now ≡ Some row.0) (sym d.2) (subst (λ s. announce_row (visited w.shape) s ≡ Some row.0) seen row.1))),
    )
open_by w (Release p) limits made can =
    let b = both_at w p limits made can.0 in
    let f : PartFacts = record b.tells.facts { value = value_of b.detector.now.answer } in
    let n = visited w.shape in
    let row = there (release_row n (rest_of w).detector) can.2 in
    let ph : b.detector.now.phase ≡ phase.Release p = sym (ap (λ (s : DetectorState). s.phase) b.seen) ∙ can.1 in
    let can_do = detector_can b.detector.visited (deed.Release p f) b.detector.now row.0 (ph, refl, subst (λ k. release_row k b.detector.now ≡ Some row.0) (sym b.visits) (subst (λ s. release_row n s ≡ Some row.0) b.seen row.1)) in
    let q : PartId = record { 0 = p } in
    (event.Release q, two_happen (event.Release q) w p (detector_part w.shape) b.part (DetectorV b.detector) (crossing.View f) can.0 b.was b.there (crosses b.part b.detector b.tells) (b.tells.releases q) (some_deed b.detector _ row.0 can_do))
open_by w (Go p) limits made can =
    let b = both_at w p limits made can.0 in
    let f : PartFacts = record b.tells.facts { value = value_of b.detector.now.answer } in
    let n = visited w.shape in
    let row = there (go_row n (rest_of w).detector) can.2 in
    let ph : b.detector.now.phase ≡ phase.Go p = sym (ap (λ (s : DetectorState). s.phase) b.seen) ∙ can.1 in
    let can_do = detector_can b.detector.visited (deed.Go p f) b.detector.now row.0 (ph, refl, subst (λ k. go_row k b.detector.now ≡ Some row.0) (sym b.visits) (subst (λ s. go_row n s ≡ Some row.0) b.seen row.1)) in
    let q : PartId = record { 0 = p } in
    (event.Go q, two_happen (event.Go q) w p (detector_part w.shape) b.part (DetectorV b.detector) (crossing.View f) can.0 b.was b.there (crosses b.part b.detector b.tells) (b.tells.goes q) (some_deed b.detector _ row.0 can_do))
open_by w (Work p) limits made can = absurd can
open_by w (Depart p l) limits made can = absurd can
open_by w (Arrive l p) limits made can = absurd can

pub open_world : (w : WorldView) → WithinLimits w.shape → IsQuietWorld w → IsAtRest (visited w.shape) (link_count w.shape) (rest_of w) → (e : Event) × IsSome (happened e w)
open_world w limits q rest = let c = open_at_rest (visited w.shape) (link_count w.shape) (rest_of w) q.quiet rest in open_by w c.0 limits q.world c.1

pub open_elsewhere : (w : WorldView) → WithinLimits w.shape → IsQuietWorld w → (rest_of w).detector.phase ≢ phase.Collect → (e : Event) × IsSome (happened e w)
open_elsewhere w limits q ne = let c = open_outside (visited w.shape) (link_count w.shape) (rest_of w) q.quiet ne in open_by w c.0 limits q.world c.1
