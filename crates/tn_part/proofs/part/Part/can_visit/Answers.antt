use Rattle.std.proofs.Common.{◌≡◌, ◌∙◌, ap, is_some, subst, sym}
use Rattle.tn_rows.specs.Events.{meets}
use Rattle.tn_rows.specs.PartView.{PartView}
use Rattle.tn_part.specs.Views.{view_of}
use Rattle.tn_part.specs.Visits.{visit_event}
use Rattle.tn_part.proofs.part.Part.can_visit.Goals as goal

pub returns : goal.returns
returns g c =
    subst (λ (x : PartView). c.can_visit_part.result ≡ is_some (meets (visit_event c.args.visit c.args.p) c.args.self.now x)) (sym (ap (view_of g.L.Link.content) c.in-Detector.is) ∙ c.detector.view_is)
    c.can_visit_part.ensures
