use Rattle.std.proofs.Common.{◌∙◌, ◌<◌, ◌≤◌, subst, sym}
use Rattle.tn_base.specs.declared.event.Event.{Event}
use Rattle.tn_base.specs.declared.shape.ShapeNumbers.{ShapeNumbers}
use Rattle.tn_base.specs.Parts.{visited}
use Rattle.tn_rows.proofs.Meeting.{none_is}
use Rattle.tn_rows.specs.Events.{happened}
use Rattle.tn_rows.specs.Listed.{by_part, part_id}
use Rattle.tn_part.specs.First.{First}
use Rattle.tn_part.specs.Visits.{visit_event}
use Rattle.tn_part.proofs.Listed.{more}
use Rattle.tn_part.proofs.Rests.{NoVisit, first_visit, no_visit}
use Rattle.tn_part.proofs.enabled.first_visit.Goals as goal

pub returns-then-can_visit : goal.returns-then-can_visit
returns-then-can_visit g c =
    let same = c.shape.ensures ∙ c.sites.ensures in
    let less : c.loop-p.p < visited (g.M.HasParts.world c.args.machine.now).shape = subst (λ (n : ShapeNumbers). c.loop-p.p < visited n) same (subst (λ m. c.loop-p.p < m) c.visited-p-end.ensures.value c.loop-p-test.true) in
    subst (λ (e : Event). First (g.M.HasParts.world c.args.machine.now) (by_part (visit_event c.args.visit) (g.M.HasParts.world c.args.machine.now).shape) e) (sym c.event.ensures)
    (first_visit (g.M.HasParts.world c.args.machine.now) c.args.visit c.loop-p.p less c.loop-p.invariant (sym c.can_visit.ensures ∙ c.if-can_visit.true))

pub loop-p-preserved : goal.loop-p-preserved
loop-p-preserved g c =
    more (NoVisit (g.M.HasParts.world c.args.machine.now) c.args.visit) c.loop-p.p c.loop-p.invariant (none_is (happened (visit_event c.args.visit (part_id c.loop-p.p)) (g.M.HasParts.world c.args.machine.now)) (sym c.can_visit.ensures ∙ c.if-can_visit.false))

pub returns : goal.returns
returns g c =
    let same = c.shape.ensures ∙ c.sites.ensures in
    let past : visited (g.M.HasParts.world c.args.machine.now).shape ≤ c.loop-p.p = subst (λ (n : ShapeNumbers). visited n ≤ c.loop-p.p) same (subst (λ m. m ≤ c.loop-p.p) c.visited-p-end.ensures.value c.loop-p-test.false) in
    no_visit (g.M.HasParts.world c.args.machine.now) c.args.visit c.loop-p.p past c.loop-p.invariant
