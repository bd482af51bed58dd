use Rattle.std.proofs.Common.{arith, ◌≡◌, ◌∙◌, ◌<◌, ap, sym, get_or, length, Some}
use Rattle.tn_crew.proofs.Laying.{count_presents}
use Rattle.tn_crew.proofs.Standing.{present_at}
use Rattle.tn_crew.proofs.crew.CrewHasParts.part.Goals as goal
use Rattle.tn_rows.specs.PartView.{PartView}
use Rattle.tn_rows.specs.Stamped.{StampedView, presents_of}
use Rattle.tn_stamped.specs.Placed.{stamped_of}

pub returns : goal.returns
returns c =
    let asked : c.args.p.0 < length (presents_of (stamped_of c.self.inside.parts.items)) = rw (← c.self.view_is) at c.requires in
    let l : c.args.p.0 < length c.self.inside.parts.items = omega (arith, asked, count_presents c.self.inside.parts.items) in
    let there : c.index.result.now ≡ get_or c.self.inside.parts.items c.args.p.0 c.index.result.now = c.index.ensures in
    let is : c.part.result.now ≡ c.index.result.now.stamped.present = c.part.ensures ∙ ap (λ (s : StampedView). s.present) c.stamped.ensures.stamped in
    rw (← c.self.view_is) (present_at c.self.inside.parts.items c.args.p.0 c.index.result.now l (sym there) ∙ ap (λ (v : PartView). Some v) (sym is))
