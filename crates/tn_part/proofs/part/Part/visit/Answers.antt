use Rattle.std.proofs.Common.{◌∙◌, ap, subst, sym}
use Rattle.tn_rows.specs.Events.{meets}
use Rattle.tn_rows.specs.PartView.{DetectorV, PartView}
use Rattle.tn_tile.specs.Turns.{moved}
use Rattle.tn_part.specs.Joint.{DoesBoth}
use Rattle.tn_part.specs.Views.{view_of}
use Rattle.tn_part.specs.Visits.{visit_event}
use Rattle.tn_part.proofs.part.Part.visit.Goals as goal

pub returns : goal.returns
returns g c =
    subst (λ (x : PartView). DoesBoth (moved c.visit_part.result) (meets (visit_event c.args.visit c.args.p) c.args.self.now x) c.args.self.now x c.visit_part.new.part (DetectorV c.visit_part.new.detector)) (sym (ap (view_of g.L.Link.content) c.in-Detector.is) ∙ c.detector.view_is)
    c.visit_part.ensures
