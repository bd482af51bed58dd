use Rattle.std.proofs.Common.{◌≡◌, ◌∙◌, Some, ap, false, is_some, refl, subst, sym}
use Rattle.tn_detect.specs.declared.facts.PartView.{PartView as Shown}
use Rattle.tn_detect.specs.DetectorView.{DetectorView, now_by}
use Rattle.tn_detect.specs.Notes.{value_of}
use Rattle.tn_rows.specs.DetectorDeed.{view_of}
use Rattle.tn_rows.specs.Events.{meets}
use Rattle.tn_rows.specs.PartView.{DetectorV}
use Rattle.tn_part.specs.Visits.{visit_event, visit_row, visited_by}
use Rattle.tn_part.proofs.Crossings.{did_nothing}
use Rattle.tn_part.proofs.Visits.{visit_done, visit_not}
use Rattle.tn_part.proofs.detector.visit_part.Goals as goal

pub returns-then-not-can_visit : goal.returns-then-not-can_visit
returns-then-not-can_visit g c =
    let low = c.args.part.now in
    let d : DetectorView = c.args.detector.now in
    let cannot : is_some (visit_row c.args.v d.visited c.args.p.0 (view_of c.in-Some.facts) d.now) ≡ false = subst (λ (x : Shown). is_some (visit_row c.args.v d.visited c.args.p.0 x d.now) ≡ false) c.view_of-shown.ensures (sym c.can_visit.ensures ∙ c.if-not-can_visit.true) in
    did_nothing (meets (visit_event c.args.v c.args.p) low (DetectorV d)) _ _ _ _ (visit_not c.args.v c.args.p low d c.in-Some.facts c.in-Some.ensures c.requires cannot) refl refl

pub returns : goal.returns
returns g c =
    let low = c.args.part.now in
    let d : DetectorView = c.args.detector.now in
    let row : now_by d (visit_row c.args.v d.visited c.args.p.0 (view_of c.in-Some.facts) d.now) ≡ Some c.make_visit.new.detector = subst (λ (x : Shown). now_by d (visit_row c.args.v d.visited c.args.p.0 x d.now) ≡ Some c.make_visit.new.detector) c.view_of-shown.ensures c.make_visit.ensures in
    let value : c.value_of-value.result ≡ value_of d.now.answer = c.value_of-value.ensures ∙ ap value_of c.answer.ensures in
    let is : c.be_visited.new.self ≡ visited_by c.args.v (value_of d.now.answer) low = c.be_visited.ensures ∙ ap (λ n. visited_by c.args.v n low) value in
    visit_done c.args.v c.args.p low c.be_visited.new.self d c.make_visit.new.detector c.in-Some.facts c.in-Some.ensures c.requires row is
