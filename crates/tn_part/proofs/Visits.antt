-- What a visit of the detector leaves.
use Rattle.std.proofs.Common.{◌≡◌, ◌∙◌, ◌&&◌, ◌||◌, ◌==◌, ℕ, ◌<◌, ◌≤◌, arith, Bool, true, false, cond, None, Some, refl, ap, subst, sym, is_some, is_none, ltb, option_map, unwrap_or}
use Rattle.std.specs.declared.option.Option.{Option}
use Rattle.std.proofs.lemmas.Bool.{eq-eqb, lt-ltb, ltb-true}
use Rattle.tn_base.specs.declared.event.Event.{Event}
use Rattle.tn_base.specs.declared.event.Event.TheVariants as event
use Rattle.tn_base.specs.declared.ids.PartId.{PartId}
use Rattle.tn_base.specs.Parts.{visited}
use Rattle.tn_detect.specs.declared.state.DetectorState.{DetectorState}
use Rattle.tn_detect.specs.DetectorView.{DetectorView, now_by as detector_now_by}
use Rattle.tn_detect.specs.Notes.{value_of}
use Rattle.tn_detect.specs.Reports.{report_at}
use Rattle.tn_detect.specs.Rows.{confirm_row, go_row, is_collect, release_row, report_row}
use Rattle.tn_host.specs.Rows.{gone_on as host_gone_on, host_facts, host_whitened, released as host_released}
use Rattle.tn_node.specs.declared.facts.PartFacts.{PartFacts}
use Rattle.tn_node.specs.Facts.{if_still}
use Rattle.tn_node.proofs.Agreed.{agrees, own_given}
use Rattle.tn_router.specs.RouterView.{now_by as router_now_by}
use Rattle.tn_router.specs.Rows.{gone_on as router_gone_on, released as router_released, router_facts, router_whitened}
use Rattle.tn_rows.proofs.Meeting.{mapped, no_crossing, none_is}
use Rattle.tn_rows.specs.DetectorDeed.{confirms, lets_go, releases, view_of}
use Rattle.tn_rows.specs.Events.{Met, after, happened, happened_at, meets, met_by, met_with, told_by}
use Rattle.tn_rows.specs.PartView.{PartView, TileV, RouterV, LinkV, HostV, DetectorV, AbsentV}
use Rattle.tn_rows.specs.Places.{detector_part, two_if}
use Rattle.tn_rows.specs.WorldView.{WorldView}
use Rattle.tn_stamp.specs.declared.entry.Crossing.TheVariants as crossing
use Rattle.tn_tile.specs.Rows.{gone_on as tile_gone_on, released as tile_released, tile_facts, tile_whitened}
use Rattle.tn_tile.specs.TileView.{now_by}
use Rattle.tn_part.proofs.Crossings.{did_both}
use Rattle.tn_part.specs.declared.visit.Visit.{Visit}
use Rattle.tn_part.specs.declared.visit.Visit.TheVariants as visit
use Rattle.tn_part.specs.Joint.{DoesBoth}
use Rattle.tn_rows.specs.Visited.{going_part, released_part, whitened_part}
use Rattle.tn_part.specs.Visits.{visit_event, visit_row, visited_by}

-- the parts of a visit
pub visit_is : (w : WorldView) (v : Visit) (p : PartId) → happened (visit_event v p) w ≡ happened_at (visit_event v p) w (two_if (ltb p.0 (visited w.shape)) p.0 (detector_part w.shape))
visit_is w visit.Report p = refl
visit_is w visit.Confirm p = refl
visit_is w visit.Release p = refl
visit_is w visit.Go p = refl

past_by : (w : WorldView) (v : Visit) (p : PartId) (b : Bool) → ltb p.0 (visited w.shape) ≡ b → visited w.shape ≤ p.0 → happened_at (visit_event v p) w (two_if b p.0 (detector_part w.shape)) ≡ None
past_by w v p true e h = let less : p.0 < visited w.shape = ltb-true p.0 (visited w.shape) e in absurd (omega (arith, less, h))
past_by w v p false e h = refl

-- the detector does not visit the parts behind these
pub past_visited : (w : WorldView) (v : Visit) (p : PartId) → visited w.shape ≤ p.0 → happened (visit_event v p) w ≡ None
past_visited w v p h = visit_is w v p ∙ past_by w v p (ltb p.0 (visited w.shape)) refl h

-- ---- the part's side

-- facts with the detector's answer
abbrev answered : PartFacts → ℕ → PartFacts
answered f value = record f { value = value }

told_is : (a b : PartFacts) → Some a ≡ Some b → a ≡ b
told_is a b e = ap (λ (o : Option PartFacts). unwrap_or o b) e

map_if : {A B : Type 0} (f : A → B) (b : Bool) (x : A) → option_map f (cond b (Some x) None) ≡ cond b (Some (f x)) None
map_if f true x = refl
map_if f false x = refl

still_is : {S : Type 0} (own : PartFacts) (value : ℕ) (new : S) → if_still own (answered own value) new ≡ cond own.still (Some new) None
still_is own value new = ap (λ b. cond (b && own.still) (Some new) None) (agrees own value)

-- a part reports if it is still
low_report : (p : PartId) (value : ℕ) (low : PartView) (f : PartFacts) → told_by low ≡ Some f → after (event.Report p) (crossing.View (answered f value)) low ≡ cond f.still (Some (whitened_part low)) None
low_report p value (TileV v) f e = subst (λ (f : PartFacts). after (event.Report p) (crossing.View (answered f value)) (TileV v) ≡ cond f.still (Some (whitened_part (TileV v))) None) (told_is (tile_facts v.now) f e)
    (ap (λ o. option_map TileV (now_by v o)) (still_is (tile_facts v.now) value (tile_whitened v.now))
    ∙ ap (λ o. option_map TileV o) (map_if _ (tile_facts v.now).still (tile_whitened v.now)) ∙ map_if TileV (tile_facts v.now).still _)
low_report p value (RouterV v) f e = subst (λ (f : PartFacts). after (event.Report p) (crossing.View (answered f value)) (RouterV v) ≡ cond f.still (Some (whitened_part (RouterV v))) None) (told_is (router_facts v.now) f e)
    (ap (λ o. option_map RouterV (router_now_by v o)) (still_is (router_facts v.now) value (router_whitened v.now))
    ∙ ap (λ o. option_map RouterV o) (map_if _ (router_facts v.now).still (router_whitened v.now)) ∙ map_if RouterV (router_facts v.now).still _)
low_report p value (LinkV v) f e = cc e
low_report p value (HostV s) f e = subst (λ (f : PartFacts). after (event.Report p) (crossing.View (answered f value)) (HostV s) ≡ cond f.still (Some (whitened_part (HostV s))) None) (told_is (host_facts s) f e)
    (ap (λ o. option_map HostV o) (still_is (host_facts s) value (host_whitened s)) ∙ map_if HostV (host_facts s).still (host_whitened s))
low_report p value (DetectorV v) f e = cc e
low_report p value AbsentV f e = cc e

-- the other visits find each part that tells facts
low_confirm : (p : PartId) (value : ℕ) (low : PartView) (f : PartFacts) → told_by low ≡ Some f → after (event.Confirm p) (crossing.View (answered f value)) low ≡ Some low
low_confirm p value (TileV v) f e = subst (λ (f : PartFacts). after (event.Confirm p) (crossing.View (answered f value)) (TileV v) ≡ Some (TileV v)) (told_is (tile_facts v.now) f e) (ap (λ o. option_map TileV (now_by v o)) (own_given (tile_facts v.now) value v.now))
low_confirm p value (RouterV v) f e = subst (λ (f : PartFacts). after (event.Confirm p) (crossing.View (answered f value)) (RouterV v) ≡ Some (RouterV v)) (told_is (router_facts v.now) f e) (ap (λ o. option_map RouterV (router_now_by v o)) (own_given (router_facts v.now) value v.now))
low_confirm p value (LinkV v) f e = cc e
low_confirm p value (HostV s) f e = subst (λ (f : PartFacts). after (event.Confirm p) (crossing.View (answered f value)) (HostV s) ≡ Some (HostV s)) (told_is (host_facts s) f e) (ap (λ o. option_map HostV o) (own_given (host_facts s) value s))
low_confirm p value (DetectorV v) f e = cc e
low_confirm p value AbsentV f e = cc e

low_release : (p : PartId) (value : ℕ) (low : PartView) (f : PartFacts) → told_by low ≡ Some f → after (event.Release p) (crossing.View (answered f value)) low ≡ Some (released_part value low)
low_release p value (TileV v) f e = subst (λ (f : PartFacts). after (event.Release p) (crossing.View (answered f value)) (TileV v) ≡ Some (released_part value (TileV v))) (told_is (tile_facts v.now) f e) (ap (λ o. option_map TileV (now_by v o)) (own_given (tile_facts v.now) value (tile_released value v.now)))
low_release p value (RouterV v) f e = subst (λ (f : PartFacts). after (event.Release p) (crossing.View (answered f value)) (RouterV v) ≡ Some (released_part value (RouterV v))) (told_is (router_facts v.now) f e) (ap (λ o. option_map RouterV (router_now_by v o)) (own_given (router_facts v.now) value (router_released v.now)))
low_release p value (LinkV v) f e = cc e
low_release p value (HostV s) f e = subst (λ (f : PartFacts). after (event.Release p) (crossing.View (answered f value)) (HostV s) ≡ Some (released_part value (HostV s))) (told_is (host_facts s) f e) (ap (λ o. option_map HostV o) (own_given (host_facts s) value (host_released s)))
low_release p value (DetectorV v) f e = cc e
low_release p value AbsentV f e = cc e

low_go : (p : PartId) (value : ℕ) (low : PartView) (f : PartFacts) → told_by low ≡ Some f → after (event.Go p) (crossing.View (answered f value)) low ≡ Some (going_part low)
low_go p value (TileV v) f e = subst (λ (f : PartFacts). after (event.Go p) (crossing.View (answered f value)) (TileV v) ≡ Some (going_part (TileV v))) (told_is (tile_facts v.now) f e) (ap (λ o. option_map TileV (now_by v o)) (own_given (tile_facts v.now) value (tile_gone_on v.now)))
low_go p value (RouterV v) f e = subst (λ (f : PartFacts). after (event.Go p) (crossing.View (answered f value)) (RouterV v) ≡ Some (going_part (RouterV v))) (told_is (router_facts v.now) f e) (ap (λ o. option_map RouterV (router_now_by v o)) (own_given (router_facts v.now) value (router_gone_on v.now)))
low_go p value (LinkV v) f e = cc e
low_go p value (HostV s) f e = subst (λ (f : PartFacts). after (event.Go p) (crossing.View (answered f value)) (HostV s) ≡ Some (going_part (HostV s))) (told_is (host_facts s) f e) (ap (λ o. option_map HostV o) (own_given (host_facts s) value (host_gone_on s)))
low_go p value (DetectorV v) f e = cc e
low_go p value AbsentV f e = cc e

-- ---- the detector's side: the answer that crosses is its own

crosses : (test : Bool) (s : DetectorState) (o : Option DetectorState) → cond (test && (value_of s.answer == value_of s.answer)) o None ≡ cond test o None
crosses true s o = ap (λ b. cond b o None) (eq-eqb (value_of s.answer) (value_of s.answer) refl)
crosses false s o = refl

high_report : (p : PartId) (d : DetectorView) (f : PartFacts) → p.0 < d.visited → after (event.Report p) (crossing.View (answered f (value_of d.now.answer))) (DetectorV d) ≡ option_map DetectorV (detector_now_by d (visit_row visit.Report d.visited p.0 (view_of f) d.now))
high_report p d f h =
    ap (λ o. option_map DetectorV (detector_now_by d o))
    (crosses (ltb p.0 d.visited) d.now (report_row p.0 (view_of f) d.now) ∙ ap (λ b. cond b (report_row p.0 (view_of f) d.now) None) (lt-ltb p.0 d.visited h))

high_confirm : (p : PartId) (d : DetectorView) (f : PartFacts) → after (event.Confirm p) (crossing.View (answered f (value_of d.now.answer))) (DetectorV d) ≡ option_map DetectorV (detector_now_by d (visit_row visit.Confirm d.visited p.0 (view_of f) d.now))
high_confirm p d f = ap (λ o. option_map DetectorV (detector_now_by d o)) (crosses (confirms p.0 d.now.phase) d.now (confirm_row d.visited (view_of f) d.now))

high_release : (p : PartId) (d : DetectorView) (f : PartFacts) → after (event.Release p) (crossing.View (answered f (value_of d.now.answer))) (DetectorV d) ≡ option_map DetectorV (detector_now_by d (visit_row visit.Release d.visited p.0 (view_of f) d.now))
high_release p d f = ap (λ o. option_map DetectorV (detector_now_by d o)) (crosses (releases p.0 d.now.phase) d.now (release_row d.visited d.now))

high_go : (p : PartId) (d : DetectorView) (f : PartFacts) → after (event.Go p) (crossing.View (answered f (value_of d.now.answer))) (DetectorV d) ≡ option_map DetectorV (detector_now_by d (visit_row visit.Go d.visited p.0 (view_of f) d.now))
high_go p d f = ap (λ o. option_map DetectorV (detector_now_by d o)) (crosses (lets_go p.0 d.now.phase) d.now (go_row d.visited d.now))

-- ---- both

-- a part after its side of a visit
abbrev low_row : Visit → ℕ → PartFacts → PartView → Option PartView
low_row visit.Report value f low = cond f.still (Some (whitened_part low)) None
low_row visit.Confirm value f low = Some low
low_row visit.Release value f low = Some (released_part value low)
low_row visit.Go value f low = Some (going_part low)

meets_by : (e : Event) (low high : PartView) (a b c d : Option PartView) → meets e low high ≡ met_by a b → a ≡ c → b ≡ d → meets e low high ≡ met_by c d
meets_by e low high a b c d m s t = m ∙ ap (λ o. met_by o b) s ∙ ap (λ o. met_by c o) t

visit_meets : (v : Visit) (p : PartId) (low : PartView) (d : DetectorView) (f : PartFacts) → told_by low ≡ Some f → p.0 < d.visited →
    meets (visit_event v p) low (DetectorV d) ≡ met_by (low_row v (value_of d.now.answer) f low) (option_map DetectorV (detector_now_by d (visit_row v d.visited p.0 (view_of f) d.now)))
visit_meets visit.Report p low d f e h = meets_by (event.Report p) low (DetectorV d) _ _ _ _
    (ap (λ o. met_with (event.Report p) low (DetectorV d) (option_map crossing.View (option_map (λ (f : PartFacts). answered f (value_of d.now.answer)) o))) e)
    (low_report p (value_of d.now.answer) low f e) (high_report p d f h)
visit_meets visit.Confirm p low d f e h = meets_by (event.Confirm p) low (DetectorV d) _ _ _ _
    (ap (λ o. met_with (event.Confirm p) low (DetectorV d) (option_map crossing.View (option_map (λ (f : PartFacts). answered f (value_of d.now.answer)) o))) e)
    (low_confirm p (value_of d.now.answer) low f e) (high_confirm p d f)
visit_meets visit.Release p low d f e h = meets_by (event.Release p) low (DetectorV d) _ _ _ _
    (ap (λ o. met_with (event.Release p) low (DetectorV d) (option_map crossing.View (option_map (λ (f : PartFacts). answered f (value_of d.now.answer)) o))) e)
    (low_release p (value_of d.now.answer) low f e) (high_release p d f)
visit_meets visit.Go p low d f e h = meets_by (event.Go p) low (DetectorV d) _ _ _ _
    (ap (λ o. met_with (event.Go p) low (DetectorV d) (option_map crossing.View (option_map (λ (f : PartFacts). answered f (value_of d.now.answer)) o))) e)
    (low_go p (value_of d.now.answer) low f e) (high_go p d f)

-- a part that tells nothing is not visited
pub tells_nothing : (v : Visit) (p : PartId) (low : PartView) (d : DetectorView) → told_by low ≡ None → meets (visit_event v p) low (DetectorV d) ≡ None
tells_nothing visit.Report p low d e = no_crossing (event.Report p) low (DetectorV d) (ap (λ o. option_map crossing.View (option_map (λ (f : PartFacts). answered f (value_of d.now.answer)) o)) e)
tells_nothing visit.Confirm p low d e = no_crossing (event.Confirm p) low (DetectorV d) (ap (λ o. option_map crossing.View (option_map (λ (f : PartFacts). answered f (value_of d.now.answer)) o)) e)
tells_nothing visit.Release p low d e = no_crossing (event.Release p) low (DetectorV d) (ap (λ o. option_map crossing.View (option_map (λ (f : PartFacts). answered f (value_of d.now.answer)) o)) e)
tells_nothing visit.Go p low d e = no_crossing (event.Go p) low (DetectorV d) (ap (λ o. option_map crossing.View (option_map (λ (f : PartFacts). answered f (value_of d.now.answer)) o)) e)

-- a part that the detector can visit is still if it is to report
both_still : (c still r : Bool) (o : Option DetectorState) (t : DetectorState) → cond (c && still && r) o None ≡ Some t → still ≡ true
both_still true true r o t e = refl
both_still true false r o t e = cc e
both_still false still r o t e = cc e

low_done : (v : Visit) (i value : ℕ) (low : PartView) (d t : DetectorView) (f : PartFacts) → detector_now_by d (visit_row v d.visited i (view_of f) d.now) ≡ Some t → low_row v value f low ≡ Some (visited_by v value low)
low_done visit.Report i value low d t f e =
    let m = mapped _ (report_row i (view_of f) d.now) t e in
    ap (λ b. cond b (Some (whitened_part low)) None) (both_still (is_collect d.now.phase) f.still (is_none (report_at d.now.reports i) || f.black) _ m.0 m.1)
low_done visit.Confirm i value low d t f e = refl
low_done visit.Release i value low d t f e = refl
low_done visit.Go i value low d t f e = refl

-- it happens
pub visit_done : (v : Visit) (p : PartId) (low low' : PartView) (d t : DetectorView) (f : PartFacts) → Some f ≡ told_by low → p.0 < d.visited → detector_now_by d (visit_row v d.visited p.0 (view_of f) d.now) ≡ Some t → low' ≡ visited_by v (value_of d.now.answer) low →
    DoesBoth true (meets (visit_event v p) low (DetectorV d)) low (DetectorV d) low' (DetectorV t)
visit_done v p low low' d t f told h row is =
    subst (λ x. DoesBoth true (meets (visit_event v p) low (DetectorV d)) low (DetectorV d) x (DetectorV t)) (sym is)
    (did_both (meets (visit_event v p) low (DetectorV d)) low (DetectorV d) (visited_by v (value_of d.now.answer) low) (DetectorV t)
    (visit_meets v p low d f (sym told) h
    ∙ ap (λ o. met_by o (option_map DetectorV (detector_now_by d (visit_row v d.visited p.0 (view_of f) d.now)))) (low_done v p.0 (value_of d.now.answer) low d t f row)
    ∙ ap (λ o. met_by (Some (visited_by v (value_of d.now.answer) low)) (option_map DetectorV o)) row))

-- it can happen if the detector can visit the part
none_high : (a : Option PartView) → met_by a None ≡ None
none_high None = refl
none_high (Some x) = refl

met_if : (a : Option PartView) (d : DetectorView) (o : Option DetectorState) (b : Option DetectorView) → detector_now_by d o ≡ b → ((t : DetectorView) → b ≡ Some t → is_some a ≡ true) → is_some (met_by a (option_map DetectorV (detector_now_by d o))) ≡ is_some o
met_if a d None b e some = ap (λ (m : Option Met). is_some m) (none_high a)
met_if None d (Some s) None e some = cc e
met_if None d (Some s) (Some t) e some = some t refl
met_if (Some x) d (Some s) b e some = refl

low_some : (v : Visit) (i value : ℕ) (low : PartView) (d t : DetectorView) (f : PartFacts) → detector_now_by d (visit_row v d.visited i (view_of f) d.now) ≡ Some t → is_some (low_row v value f low) ≡ true
low_some v i value low d t f e = ap (λ (o : Option PartView). is_some o) (low_done v i value low d t f e)

pub can_visit_is : (v : Visit) (p : PartId) (low : PartView) (d : DetectorView) (f : PartFacts) → Some f ≡ told_by low → p.0 < d.visited → is_some (meets (visit_event v p) low (DetectorV d)) ≡ is_some (visit_row v d.visited p.0 (view_of f) d.now)
can_visit_is v p low d f told h =
    ap (λ (m : Option Met). is_some m) (visit_meets v p low d f (sym told) h)
    ∙ met_if (low_row v (value_of d.now.answer) f low) d (visit_row v d.visited p.0 (view_of f) d.now) (detector_now_by d (visit_row v d.visited p.0 (view_of f) d.now)) refl
    (λ t is. low_some v p.0 (value_of d.now.answer) low d t f is)

pub visit_not : (v : Visit) (p : PartId) (low : PartView) (d : DetectorView) (f : PartFacts) → Some f ≡ told_by low → p.0 < d.visited → is_some (visit_row v d.visited p.0 (view_of f) d.now) ≡ false → meets (visit_event v p) low (DetectorV d) ≡ None
visit_not v p low d f told h not = none_is (meets (visit_event v p) low (DetectorV d)) (can_visit_is v p low d f told h ∙ not)
