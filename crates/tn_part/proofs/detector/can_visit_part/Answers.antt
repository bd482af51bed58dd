use Rattle.std.proofs.Common.{◌≡◌, ◌∙◌, ap, is_some, subst, sym}
use Rattle.tn_detect.specs.declared.facts.PartView.{PartView as Shown}
use Rattle.tn_detect.specs.DetectorView.{DetectorView}
use Rattle.tn_rows.specs.Events.{Met}
use Rattle.std.specs.declared.option.Option.{Option}
use Rattle.tn_part.specs.Visits.{visit_row}
use Rattle.tn_part.proofs.Visits.{can_visit_is, tells_nothing}
use Rattle.tn_part.proofs.detector.can_visit_part.Goals as goal

pub returns-in-Some : goal.returns-in-Some
returns-in-Some g c =
    let d : DetectorView = c.args.detector.now in
    subst (λ (x : Shown). c.can_visit.result ≡ is_some (visit_row c.args.v d.visited c.args.p.0 x d.now)) c.view_of.ensures c.can_visit.ensures
    ∙ sym (can_visit_is c.args.v c.args.p c.args.part.now d c.in-Some.facts c.in-Some.ensures c.requires)

pub returns-in-None : goal.returns-in-None
returns-in-None g c = sym (ap (λ (m : Option Met). is_some m) (tells_nothing c.args.v c.args.p c.args.part.now c.args.detector.now (sym c.in-None.ensures)))
