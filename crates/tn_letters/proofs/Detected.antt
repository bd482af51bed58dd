-- What the events of the detector make of a machine: of a part, and of the detector.
use Rattle.std.proofs.Common.{ℕ, ◌≡◌, ◌<◌, ◌+◌, length, get_or, set, refl, ◌∙◌, ap, subst, arith, Option, Some, option_map, slice_get}
use Rattle.std.specs.Prelude.{nat_lt}
use Rattle.std.proofs.lemmas.Option.{slice_get-get_or}
use Rattle.tn_base.specs.declared.event.Event.{Event}
use Rattle.tn_base.specs.declared.event.Event.TheVariants as event
use Rattle.tn_base.specs.declared.ids.PartId.{PartId}
use Rattle.tn_base.specs.declared.part.Kind.TheVariants as kind
use Rattle.tn_base.specs.Parts.{visited}
use Rattle.tn_detect.specs.declared.state.DetectorState.{DetectorState}
use Rattle.tn_detect.specs.DetectorView.{DetectorView, now_by as detector_now_by, with_now as detector_with_now}
use Rattle.tn_host.specs.HostView.{HostState}
use Rattle.tn_host.specs.Rows.{gone_on as host_gone_on, host_deed, host_whitened}
use Rattle.tn_host.proofs.Deeds.{confirm_deed as host_confirm, go_deed as host_go, release_deed as host_release, report_deed as host_report}
use Rattle.tn_node.specs.declared.facts.PartFacts.{PartFacts}
use Rattle.tn_node.specs.Deed.{Deed}
use Rattle.tn_node.specs.Deed as deed
use Rattle.tn_quiet.specs.Law.{IsQuietWorld}
use Rattle.tn_quiet.specs.Machine.{link_count}
use Rattle.tn_quiet.proofs.Detectors.{detector_does}
use Rattle.tn_quiet.proofs.Machines.{WithDetector, at_one, by_detector}
use Rattle.tn_rows.proofs.HostLinks.{detector_last}
use Rattle.tn_quiet.proofs.Parts.{IsDetectorPart, IsVisitedPart, confirm_part, go_part, release_part, report_part}
use Rattle.tn_quiet.proofs.Tiles.{kept_by}
use Rattle.tn_router.specs.declared.state.RouterState.{RouterState}
use Rattle.tn_router.specs.Rows.{gone_on as router_gone_on, router_deed, router_whitened}
use Rattle.tn_router.specs.RouterView.{RouterView, now_by as router_now_by, with_now as router_with_now}
use Rattle.tn_router.proofs.Deeds.{confirm_deed as router_confirm, go_deed as router_go, release_deed as router_release, report_deed as router_report}
use Rattle.tn_rows.specs.DetectorDeed.{DetectorDoes}
use Rattle.tn_rows.specs.Events.{after, detector_did, happened, happened_at, plain_deed}
use Rattle.tn_rows.specs.PartView.{PartView, TileV, RouterV, LinkV, HostV, DetectorV, AbsentV}
use Rattle.tn_rows.specs.Places.{One, detector_part, two_if}
use Rattle.tn_rows.specs.WorldView.{WorldView}
use Rattle.tn_rows.proofs.Meeting.{meeting}
use Rattle.tn_stamp.specs.declared.entry.Crossing.{Crossing}
use Rattle.tn_stamp.specs.declared.entry.Crossing.TheVariants as crossing
use Rattle.tn_tile.specs.Rows.{gone_on, released as tile_released, tile_deed, tile_whitened}
use Rattle.tn_tile.specs.declared.state.TileState.{TileState}
use Rattle.tn_tile.specs.TileView.{TileView, now_by, with_now}
use Rattle.tn_tile.proofs.Deeds.{confirm_deed, go_deed, release_deed, report_deed}
use Rattle.tn_rows.specs.Visited.{going_part, released_part, whitened_part}
use Rattle.tn_letters.proofs.Bare.{with_parts}
use Rattle.tn_letters.proofs.Walks.{on_read}
use Rattle.tn_letters.proofs.Lift.{Good, OnPart, StandsAt, stands_on}

-- ---- what a part becomes

tile_made : (d : Deed) (v : TileView) (y : PartView) (s : TileState) → ((t : TileState) → tile_deed v.plan d v.now ≡ Some t → t ≡ s) → option_map TileV (now_by v (tile_deed v.plan d v.now)) ≡ Some y → y ≡ TileV (with_now v s)
tile_made d v y s is h =
    let m = kept_by TileV (now_by v (tile_deed v.plan d v.now)) y h in
    let t = kept_by (with_now v) (tile_deed v.plan d v.now) m.0 m.1 in
    m.2 ∙ ap TileV (t.2 ∙ ap (with_now v) (is t.0 t.1))

router_made : (d : Deed) (v : RouterView) (y : PartView) (s : RouterState) → ((t : RouterState) → router_deed v.plan d v.now ≡ Some t → t ≡ s) → option_map RouterV (router_now_by v (router_deed v.plan d v.now)) ≡ Some y → y ≡ RouterV (router_with_now v s)
router_made d v y s is h =
    let m = kept_by RouterV (router_now_by v (router_deed v.plan d v.now)) y h in
    let t = kept_by (router_with_now v) (router_deed v.plan d v.now) m.0 m.1 in
    m.2 ∙ ap RouterV (t.2 ∙ ap (router_with_now v) (is t.0 t.1))

host_made : (d : Deed) (s : HostState) (y : PartView) (t : HostState) → ((u : HostState) → host_deed d s ≡ Some u → u ≡ t) → option_map HostV (host_deed d s) ≡ Some y → y ≡ HostV t
host_made d s y t is h = let m = kept_by HostV (host_deed d s) y h in m.2 ∙ ap HostV (is m.0 m.1)

-- what a visited part becomes in an event on it and the detector
pub record Becomes (made : ℕ → PartView → PartView) (c : Crossing) (x y : PartView) : Type 0 where
  pub facts : PartFacts
  pub crosses : c ≡ crossing.View facts
  pub is : y ≡ made facts.value x

report_made : (p : PartId) (f : PartFacts) (x y : PartView) → IsVisitedPart x → after (event.Report p) (crossing.View f) x ≡ Some y → y ≡ whitened_part x
report_made p f (TileV v) y n h = tile_made (deed.Report p.0 f) v y (tile_whitened v.now) (λ t e. (report_deed v.plan p.0 f v.now t e).is) h
report_made p f (RouterV v) y n h = router_made (deed.Report p.0 f) v y (router_whitened v.now) (λ t e. (router_report v.plan p.0 f v.now t e).is) h
report_made p f (HostV s) y n h = host_made (deed.Report p.0 f) s y (host_whitened s) (λ t e. (host_report p.0 f s t e).is) h
report_made p f (LinkV v) y n h = absurd n
report_made p f (DetectorV v) y n h = absurd n
report_made p f AbsentV y n h = absurd n

confirm_made : (p : PartId) (f : PartFacts) (x y : PartView) → IsVisitedPart x → after (event.Confirm p) (crossing.View f) x ≡ Some y → y ≡ x
confirm_made p f (TileV v) y n h = tile_made (deed.Confirm p.0 f) v y v.now (λ t e. (confirm_deed v.plan p.0 f v.now t e).is) h
confirm_made p f (RouterV v) y n h = router_made (deed.Confirm p.0 f) v y v.now (λ t e. (router_confirm v.plan p.0 f v.now t e).is) h
confirm_made p f (HostV s) y n h = host_made (deed.Confirm p.0 f) s y s (λ t e. (host_confirm p.0 f s t e).is) h
confirm_made p f (LinkV v) y n h = absurd n
confirm_made p f (DetectorV v) y n h = absurd n
confirm_made p f AbsentV y n h = absurd n

release_made : (p : PartId) (f : PartFacts) (x y : PartView) → IsVisitedPart x → after (event.Release p) (crossing.View f) x ≡ Some y → y ≡ released_part f.value x
release_made p f (TileV v) y n h = tile_made (deed.Release p.0 f) v y (tile_released f.value v.now) (λ t e. (release_deed v.plan p.0 f v.now t e).is) h
release_made p f (RouterV v) y n h = router_made (deed.Release p.0 f) v y _ (λ t e. (router_release v.plan p.0 f v.now t e).is) h
release_made p f (HostV s) y n h = host_made (deed.Release p.0 f) s y _ (λ t e. (host_release p.0 f s t e).is) h
release_made p f (LinkV v) y n h = absurd n
release_made p f (DetectorV v) y n h = absurd n
release_made p f AbsentV y n h = absurd n

go_made : (p : PartId) (f : PartFacts) (x y : PartView) → IsVisitedPart x → after (event.Go p) (crossing.View f) x ≡ Some y → y ≡ going_part x
go_made p f (TileV v) y n h = tile_made (deed.Go p.0 f) v y (gone_on v.now) (λ t e. (go_deed v.plan p.0 f v.now t e).is) h
go_made p f (RouterV v) y n h = router_made (deed.Go p.0 f) v y _ (λ t e. (router_go v.plan p.0 f v.now t e).is) h
go_made p f (HostV s) y n h = host_made (deed.Go p.0 f) s y _ (λ t e. (host_go p.0 f s t e).is) h
go_made p f (LinkV v) y n h = absurd n
go_made p f (DetectorV v) y n h = absurd n
go_made p f AbsentV y n h = absurd n

-- ---- what the detector becomes

pub record DetectorMade (d : Option Deed) (v : DetectorView) (y : PartView) : Type 0 where
  pub behind : DetectorState
  pub is : y ≡ DetectorV (detector_with_now v behind)
  pub row : detector_did v.visited v.now d ≡ Some behind

detector_made : (e : Event) (c : Crossing) (v : DetectorView) (y : PartView) → after e c (DetectorV v) ≡ Some y → DetectorMade (plain_deed e c) v y
detector_made e c v y h =
    let m = kept_by DetectorV (detector_now_by v (detector_did v.visited v.now (plain_deed e c))) y h in
    let t = kept_by (detector_with_now v) (detector_did v.visited v.now (plain_deed e c)) m.0 m.1 in
    record { behind = t.0; is = m.2 ∙ ap DetectorV t.2; row = t.1 }

detector_there : (x : PartView) → IsDetectorPart x → (v : DetectorView) × (x ≡ DetectorV v)
detector_there (TileV v) i = absurd i
detector_there (RouterV v) i = absurd i
detector_there (LinkV v) i = absurd i
detector_there (HostV s) i = absurd i
detector_there (DetectorV v) i = (v, refl)
detector_there AbsentV i = absurd i

-- ---- an event on a part and the detector

-- part p becomes what is made of it, and the detector does its deed with the facts that cross
pub record Paired (w new : WorldView) (p : ℕ) (made : ℕ → PartView → PartView) (d : PartFacts → Deed) : Type 0 where
  pub inside : p < visited w.shape
  pub last : visited w.shape + link_count w.shape ≡ detector_part w.shape
  pub low : PartView
  pub low_on : OnPart w p low
  pub visited : IsVisitedPart low
  pub detector : DetectorView
  pub detector_on : OnPart w (detector_part w.shape) (DetectorV detector)
  pub facts : PartFacts
  pub behind : DetectorState
  pub does : DetectorDoes detector.visited (d facts) detector.now behind
  pub is : new ≡ with_parts w (set (set w.parts p (made facts.value low)) (detector_part w.shape) (DetectorV (detector_with_now detector behind)))

paired : (e : Event) (w new : WorldView) (p : ℕ) (made : ℕ → PartView → PartView) (d : PartFacts → Deed) → Good w → IsQuietWorld w →
    happened_at e w (two_if (nat_lt p (visited w.shape)) p (detector_part w.shape)) ≡ Some new →
    ((c : Crossing) (x y : PartView) → IsVisitedPart x → after e c x ≡ Some y → Becomes made c x y) → ((f : PartFacts) → plain_deed e (crossing.View f) ≡ Some (d f)) → Paired w new p made d
paired e w new p made d good quiet h becomes deed_is =
    let b : WithDetector e w new p = by_detector e w new p good.limits quiet.world h in
    let a = b.two in
    let m = meeting e a.low a.high a.met a.row in
    let low = becomes m.crossing a.low a.met.low b.low m.low_row in
    let there = detector_there a.high b.high in
    let high = detector_made e (crossing.View low.facts) there.0 a.met.high (subst (λ c. after e c (DetectorV there.0) ≡ Some a.met.high) low.crosses (subst (λ x. after e m.crossing x ≡ Some a.met.high) there.1 m.high_row)) in
    record {
      inside = b.inside;
      last = b.last;
      low = a.low;
      low_on = on_read w p a.low good a.low_was;
      visited = b.low;
      detector = there.0;
      detector_on = on_read w (detector_part w.shape) (DetectorV there.0) good (a.high_was ∙ ap Some there.1);
      facts = low.facts;
      behind = high.behind;
      does = detector_does there.0.visited (d low.facts) there.0.now high.behind (subst (λ o. detector_did there.0.visited there.0.now o ≡ Some high.behind) (deed_is low.facts) high.row);
      is = a.is ∙ ap (λ x. with_parts w (set (set w.parts p x) (detector_part w.shape) a.met.high)) low.is ∙ ap (λ x. with_parts w (set (set w.parts p (made low.facts.value a.low)) (detector_part w.shape) x)) high.is;
    }

pub report_paired : (p : PartId) (w new : WorldView) → Good w → IsQuietWorld w → happened (event.Report p) w ≡ Some new → Paired w new p.0 (λ value. whitened_part) (deed.Report p.0)
report_paired p w new good quiet h = paired (event.Report p) w new p.0 (λ value. whitened_part) (deed.Report p.0) good quiet h
    (λ c x y n r. let q = report_part p c x y n r in record { facts = q.0; crosses = q.1; is = report_made p q.0 x y n (subst (λ c. after (event.Report p) c x ≡ Some y) q.1 r) }) (λ f. refl)

pub confirm_paired : (p : PartId) (w new : WorldView) → Good w → IsQuietWorld w → happened (event.Confirm p) w ≡ Some new → Paired w new p.0 (λ value x. x) (deed.Confirm p.0)
confirm_paired p w new good quiet h = paired (event.Confirm p) w new p.0 (λ value x. x) (deed.Confirm p.0) good quiet h
    (λ c x y n r. let q = confirm_part p c x y n r in record { facts = q.0; crosses = q.1; is = confirm_made p q.0 x y n (subst (λ c. after (event.Confirm p) c x ≡ Some y) q.1 r) }) (λ f. refl)

pub release_paired : (p : PartId) (w new : WorldView) → Good w → IsQuietWorld w → happened (event.Release p) w ≡ Some new → Paired w new p.0 released_part (deed.Release p.0)
release_paired p w new good quiet h = paired (event.Release p) w new p.0 released_part (deed.Release p.0) good quiet h
    (λ c x y n r. let q = release_part p c x y n r in record { facts = q.0; crosses = q.1; is = release_made p q.0 x y n (subst (λ c. after (event.Release p) c x ≡ Some y) q.1 r) }) (λ f. refl)

pub go_paired : (p : PartId) (w new : WorldView) → Good w → IsQuietWorld w → happened (event.Go p) w ≡ Some new → Paired w new p.0 (λ value. going_part) (deed.Go p.0)
go_paired p w new good quiet h = paired (event.Go p) w new p.0 (λ value. going_part) (deed.Go p.0) good quiet h
    (λ c x y n r. let q = go_part p c x y n r in record { facts = q.0; crosses = q.1; is = go_made p q.0 x y n (subst (λ c. after (event.Go p) c x ≡ Some y) q.1 r) }) (λ f. refl)

-- ---- an event on the detector alone

pub record Alone (w new : WorldView) (d : Deed) : Type 0 where
  pub detector : DetectorView
  pub read : slice_get w.parts (detector_part w.shape) ≡ Some (DetectorV detector)
  pub detector_on : OnPart w (detector_part w.shape) (DetectorV detector)
  pub behind : DetectorState
  pub does : DetectorDoes detector.visited d detector.now behind
  pub is : new ≡ with_parts w (set w.parts (detector_part w.shape) (DetectorV (detector_with_now detector behind)))

-- at the detector's place is a detector
at_last : (w : WorldView) (x : PartView) → Good w → OnPart w (detector_part w.shape) x → (v : DetectorView) × (x ≡ DetectorV v)
at_last w x good on = by x (subst (λ k. StandsAt k x) (detector_last w.shape) (stands_on w (detector_part w.shape) x good on)) where
  by : (x : PartView) → StandsAt kind.Detector x → (v : DetectorView) × (x ≡ DetectorV v)
  by (TileV v) s = absurd s
  by (RouterV v) s = absurd s
  by (LinkV v) s = absurd s
  by (HostV v) s = absurd s
  by (DetectorV v) s = (v, refl)
  by AbsentV s = absurd s

-- the detector of a machine
pub last_part : (w : WorldView) → Good w → (v : DetectorView) × (slice_get w.parts (detector_part w.shape) ≡ Some (DetectorV v))
last_part w good =
    let n = good.count in
    let within : detector_part w.shape < length w.parts = omega arith in
    let read = slice_get-get_or w.parts (detector_part w.shape) AbsentV within in
    let v = at_last w (get_or w.parts (detector_part w.shape) AbsentV) good (on_read w (detector_part w.shape) (get_or w.parts (detector_part w.shape) AbsentV) good read) in
    (v.0, read ∙ ap Some v.1)

pub alone : (e : Event) (d : Deed) (w new : WorldView) → Good w → happened_at e w (One (detector_part w.shape)) ≡ Some new → plain_deed e crossing.None ≡ Some d → Alone w new d
alone e d w new good h deed_is =
    let a = at_one e w new (detector_part w.shape) h in
    let on = on_read w (detector_part w.shape) a.before good a.was in
    let there = at_last w a.before good on in
    let made = detector_made e crossing.None there.0 a.behind (subst (λ x. after e crossing.None x ≡ Some a.behind) there.1 a.row) in
    record {
      detector = there.0;
      read = a.was ∙ ap Some there.1;
      detector_on = subst (OnPart w (detector_part w.shape)) there.1 on;
      behind = made.behind;
      does = detector_does there.0.visited d there.0.now made.behind (subst (λ o. detector_did there.0.visited there.0.now o ≡ Some made.behind) deed_is made.row);
      is = a.is ∙ ap (λ x. with_parts w (set w.parts (detector_part w.shape) x)) made.is;
    }
