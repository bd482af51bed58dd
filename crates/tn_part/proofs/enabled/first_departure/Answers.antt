use Rattle.std.proofs.Common.{◌∙◌, ◌<◌, ◌≤◌, subst}
use Rattle.tn_base.specs.declared.shape.ShapeNumbers.{ShapeNumbers}
use Rattle.tn_base.specs.Parts.{part_count}
use Rattle.tn_rows.specs.Listed.{departures_from}
use Rattle.tn_part.specs.First.{NoneOf}
use Rattle.tn_part.proofs.Listed.{first_departure, more, no_departure}
use Rattle.tn_part.proofs.enabled.first_departure.Goals as goal

pub returns-in-Some : goal.returns-in-Some
returns-in-Some g c =
    let same = c.shape.ensures ∙ c.sites.ensures in
    let less : c.loop-p.p < part_count (g.M.HasParts.world c.args.machine.now).shape = subst (λ (n : ShapeNumbers). c.loop-p.p < part_count n) same (subst (λ m. c.loop-p.p < m) c.part_count-p-end.ensures c.loop-p-test.true) in
    first_departure (g.M.HasParts.world c.args.machine.now) c.loop-p.p c.in-Some.e less c.loop-p.invariant c.in-Some.ensures

pub loop-p-preserved : goal.loop-p-preserved
loop-p-preserved g c = more (λ k. NoneOf (g.M.HasParts.world c.args.machine.now) (departures_from (g.M.HasParts.world c.args.machine.now).shape k)) c.loop-p.p c.loop-p.invariant c.in_default.ensures

pub returns : goal.returns
returns g c =
    let same = c.shape.ensures ∙ c.sites.ensures in
    let past : part_count (g.M.HasParts.world c.args.machine.now).shape ≤ c.loop-p.p = subst (λ (n : ShapeNumbers). part_count n ≤ c.loop-p.p) same (subst (λ m. m ≤ c.loop-p.p) c.part_count-p-end.ensures c.loop-p-test.false) in
    no_departure (g.M.HasParts.world c.args.machine.now) c.loop-p.p past c.loop-p.invariant
