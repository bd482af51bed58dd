use Rattle.std.proofs.Common.{◌∙◌, ◌<◌, ◌≤◌, subst, sym}
use Rattle.std.proofs.Math.Nat.{le_refl}
use Rattle.tn_base.specs.declared.event.Event.TheVariants as event
use Rattle.tn_base.specs.declared.shape.ShapeNumbers.{ShapeNumbers}
use Rattle.tn_base.specs.Parts.{part_count}
use Rattle.tn_rows.proofs.Meeting.{none_is}
use Rattle.tn_rows.specs.Events.{happened}
use Rattle.tn_rows.specs.Listed.{part_id}
use Rattle.tn_part.proofs.Listed.{NoDeparture, first_departure_from, more, no_departure_from}
use Rattle.tn_rows.proofs.Others.{none_departs}
use Rattle.tn_part.proofs.enabled.departure_from.Goals as goal

pub part-requires : goal.part-requires
part-requires g c = subst (λ m. c.args.p.0 < m) (sym c.requires.world.count) c.requires.there

pub returns-then-not-offers : goal.returns-then-not-offers
returns-then-not-offers g c =
    let w = g.M.HasParts.world c.args.machine.now in
    no_departure_from w c.args.p (part_count w.shape) (le_refl (part_count w.shape)) (λ k h. none_departs w c.args.p (part_id k) c.part.result.now c.part.ensures (sym c.offers.ensures ∙ c.if-not-offers.true))

pub returns-then-can_depart : goal.returns-then-can_depart
returns-then-can_depart g c =
    let same = c.shape.ensures ∙ c.sites.ensures in
    let less : c.loop-l.l < part_count (g.M.HasParts.world c.args.machine.now).shape = subst (λ (n : ShapeNumbers). c.loop-l.l < part_count n) same (subst (λ m. c.loop-l.l < m) c.part_count-l-end.ensures c.loop-l-test.true) in
    first_departure_from (g.M.HasParts.world c.args.machine.now) c.args.p c.loop-l.l less c.loop-l.invariant (sym c.can_depart.ensures ∙ c.if-can_depart.true)

pub loop-l-preserved : goal.loop-l-preserved
loop-l-preserved g c =
    more (NoDeparture (g.M.HasParts.world c.args.machine.now) c.args.p) c.loop-l.l c.loop-l.invariant (none_is (happened (event.Depart c.args.p (part_id c.loop-l.l)) (g.M.HasParts.world c.args.machine.now)) (sym c.can_depart.ensures ∙ c.if-can_depart.false))

pub returns : goal.returns
returns g c =
    let same = c.shape.ensures ∙ c.sites.ensures in
    let past : part_count (g.M.HasParts.world c.args.machine.now).shape ≤ c.loop-l.l = subst (λ (n : ShapeNumbers). part_count n ≤ c.loop-l.l) same (subst (λ m. m ≤ c.loop-l.l) c.part_count-l-end.ensures c.loop-l-test.false) in
    no_departure_from (g.M.HasParts.world c.args.machine.now) c.args.p c.loop-l.l past c.loop-l.invariant
