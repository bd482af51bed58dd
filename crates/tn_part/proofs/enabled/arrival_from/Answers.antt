use Rattle.std.proofs.Common.{◌∙◌, ◌<◌, ◌≤◌, subst, sym}
use Rattle.std.proofs.Math.Nat.{le_refl}
use Rattle.tn_base.specs.declared.event.Event.TheVariants as event
use Rattle.tn_base.specs.declared.shape.ShapeNumbers.{ShapeNumbers}
use Rattle.tn_base.specs.Parts.{part_count}
use Rattle.tn_rows.proofs.Meeting.{none_is}
use Rattle.tn_rows.specs.Events.{happened}
use Rattle.tn_rows.specs.Listed.{part_id}
use Rattle.tn_part.proofs.Listed.{NoArrival, first_arrival_from, more, no_arrival_from}
use Rattle.tn_rows.proofs.Others.{none_arrives}
use Rattle.tn_part.proofs.enabled.arrival_from.Goals as goal

pub part-requires : goal.part-requires
part-requires g c = subst (λ m. c.args.l.0 < m) (sym c.requires.world.count) c.requires.there

pub returns-then-not-carries : goal.returns-then-not-carries
returns-then-not-carries g c =
    let w = g.M.HasParts.world c.args.machine.now in
    no_arrival_from w c.args.l (part_count w.shape) (le_refl (part_count w.shape)) (λ k h. none_arrives w c.args.l (part_id k) c.part.result.now c.part.ensures (sym c.carries.ensures ∙ c.if-not-carries.true))

pub returns-then-can_arrive : goal.returns-then-can_arrive
returns-then-can_arrive g c =
    let same = c.shape.ensures ∙ c.sites.ensures in
    let less : c.loop-p.p < part_count (g.M.HasParts.world c.args.machine.now).shape = subst (λ (n : ShapeNumbers). c.loop-p.p < part_count n) same (subst (λ m. c.loop-p.p < m) c.part_count-p-end.ensures c.loop-p-test.true) in
    first_arrival_from (g.M.HasParts.world c.args.machine.now) c.args.l c.loop-p.p less c.loop-p.invariant (sym c.can_arrive.ensures ∙ c.if-can_arrive.true)

pub loop-p-preserved : goal.loop-p-preserved
loop-p-preserved g c =
    more (NoArrival (g.M.HasParts.world c.args.machine.now) c.args.l) c.loop-p.p c.loop-p.invariant (none_is (happened (event.Arrive c.args.l (part_id c.loop-p.p)) (g.M.HasParts.world c.args.machine.now)) (sym c.can_arrive.ensures ∙ c.if-can_arrive.false))

pub returns : goal.returns
returns g c =
    let same = c.shape.ensures ∙ c.sites.ensures in
    let past : part_count (g.M.HasParts.world c.args.machine.now).shape ≤ c.loop-p.p = subst (λ (n : ShapeNumbers). part_count n ≤ c.loop-p.p) same (subst (λ m. m ≤ c.loop-p.p) c.part_count-p-end.ensures c.loop-p-test.false) in
    no_arrival_from (g.M.HasParts.world c.args.machine.now) c.args.l c.loop-p.p past c.loop-p.invariant
