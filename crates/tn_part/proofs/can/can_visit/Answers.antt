use Rattle.std.proofs.Common.{◌≡◌, ◌<◌, ◌∙◌, ap, arith, is_some, ltb, subst, sym}
use Rattle.std.specs.declared.option.Option.{Option}
use Rattle.std.proofs.lemmas.Bool.{lt-ltb}
use Rattle.tn_base.specs.declared.shape.ShapeNumbers.{ShapeNumbers}
use Rattle.tn_base.specs.Parts.{visited}
use Rattle.tn_part.proofs.Standing.{can_both, seen}
use Rattle.tn_part.proofs.Visits.{visit_is}
use Rattle.tn_part.proofs.can.can_visit.Goals as goal
use Rattle.tn_part.specs.Visits.{visit_event}
use Rattle.tn_rows.proofs.Ways.{Behind, VisitPair, visit_pair}
use Rattle.tn_rows.specs.Events.{happened_at}
use Rattle.tn_rows.specs.Places.{detector_part, two_if}
use Rattle.tn_rows.specs.Roles.{Visits}
use Rattle.tn_rows.specs.WorldView.{WorldView}

pub part-requires : goal.part-requires
part-requires g c =
    let w = g.M.HasParts.world c.args.machine.now in
    let same = c.shape-shape.ensures ∙ c.sites.ensures in
    let less : c.args.p.0 < visited w.shape = subst (λ (n : ShapeNumbers). c.args.p.0 < visited n) same (omega (arith, c.if-p-visited.false, c.visited.ensures.value)) in
    (visit_pair w c.args.p.0 less (subst Behind same c.law_links.ensures) c.requires).low

pub can_visit-requires : goal.can_visit-requires
can_visit-requires g c =
    let w = g.M.HasParts.world c.args.machine.now in
    let same = c.shape-shape.ensures ∙ c.sites.ensures in
    let at : c.detector-d.result.0 ≡ detector_part w.shape = c.detector-d.ensures ∙ ap (λ (n : ShapeNumbers). detector_part n) c.sites-2.ensures in
    let less : c.args.p.0 < visited w.shape = subst (λ (n : ShapeNumbers). c.args.p.0 < visited n) same (omega (arith, c.if-p-visited.false, c.visited.ensures.value)) in
    let joins : VisitPair w c.args.p.0 c.detector-d.result.0 = subst (VisitPair w c.args.p.0) (sym at) (visit_pair w c.args.p.0 less (subst Behind same c.law_links.ensures) c.requires) in
    subst (Visits c.args.p.0) (seen w.parts c.detector-d.result.0 c.part-2.result.now c.part-2.ensures) joins.visits

pub returns : goal.returns
returns g c =
    let w : WorldView = g.M.HasParts.world c.args.machine.now in
    let e = visit_event c.args.visit c.args.p in
    let same = c.shape-shape.ensures ∙ c.sites.ensures in
    let at : c.detector-d.result.0 ≡ detector_part w.shape = c.detector-d.ensures ∙ ap (λ (n : ShapeNumbers). detector_part n) c.sites-2.ensures in
    let less : c.args.p.0 < visited w.shape = subst (λ (n : ShapeNumbers). c.args.p.0 < visited n) same (omega (arith, c.if-p-visited.false, c.visited.ensures.value)) in
    subst (λ (o : Option WorldView). c.can_visit.result ≡ is_some o) (sym (visit_is w c.args.visit c.args.p))
    (subst (λ d. c.can_visit.result ≡ is_some (happened_at e w (two_if (ltb c.args.p.0 (visited w.shape)) c.args.p.0 d))) at
    (c.can_visit.ensures ∙ sym (can_both w e (ltb c.args.p.0 (visited w.shape)) c.args.p.0 c.detector-d.result.0 c.part.result.now c.part-2.result.now (lt-ltb c.args.p.0 (visited w.shape) less) c.part.ensures c.part-2.ensures)))
