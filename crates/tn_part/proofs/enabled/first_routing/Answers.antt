use Rattle.std.proofs.Common.{◌∙◌, ◌<◌, ◌≤◌, subst, sym}
use Rattle.tn_base.specs.declared.event.Event.TheVariants as event
use Rattle.tn_base.specs.declared.shape.ShapeNumbers.{ShapeNumbers}
use Rattle.tn_base.specs.Parts.{part_count}
use Rattle.tn_rows.proofs.Meeting.{none_is}
use Rattle.tn_rows.specs.Events.{happened}
use Rattle.tn_rows.specs.Listed.{part_id}
use Rattle.tn_part.proofs.Listed.{NoRouting, first_routing, more, no_routing}
use Rattle.tn_part.proofs.enabled.first_routing.Goals as goal

pub returns-then-can_route : goal.returns-then-can_route
returns-then-can_route g c =
    let same = c.shape.ensures ∙ c.sites.ensures in
    let less : c.loop-p.p < part_count (g.M.HasParts.world c.args.machine.now).shape = subst (λ (n : ShapeNumbers). c.loop-p.p < part_count n) same (subst (λ m. c.loop-p.p < m) c.part_count-p-end.ensures c.loop-p-test.true) in
    first_routing (g.M.HasParts.world c.args.machine.now) c.loop-p.p less c.loop-p.invariant (sym c.can_route.ensures ∙ c.if-can_route.true)

pub loop-p-preserved : goal.loop-p-preserved
loop-p-preserved g c =
    more (NoRouting (g.M.HasParts.world c.args.machine.now)) c.loop-p.p c.loop-p.invariant (none_is (happened (event.Route (part_id c.loop-p.p)) (g.M.HasParts.world c.args.machine.now)) (sym c.can_route.ensures ∙ c.if-can_route.false))

pub returns : goal.returns
returns g c =
    let same = c.shape.ensures ∙ c.sites.ensures in
    let past : part_count (g.M.HasParts.world c.args.machine.now).shape ≤ c.loop-p.p = subst (λ (n : ShapeNumbers). part_count n ≤ c.loop-p.p) same (subst (λ m. m ≤ c.loop-p.p) c.part_count-p-end.ensures c.loop-p-test.false) in
    no_routing (g.M.HasParts.world c.args.machine.now) c.loop-p.p past c.loop-p.invariant
