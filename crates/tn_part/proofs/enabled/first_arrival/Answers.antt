use Rattle.std.proofs.Common.{◌∙◌, ◌<◌, ◌≤◌, subst}
use Rattle.tn_base.specs.declared.shape.ShapeNumbers.{ShapeNumbers}
use Rattle.tn_base.specs.Parts.{part_count}
use Rattle.tn_rows.specs.Listed.{arrivals_from}
use Rattle.tn_part.specs.First.{NoneOf}
use Rattle.tn_part.proofs.Listed.{first_arrival, more, no_arrival}
use Rattle.tn_part.proofs.enabled.first_arrival.Goals as goal

pub returns-in-Some : goal.returns-in-Some
returns-in-Some g c =
    let same = c.shape.ensures ∙ c.sites.ensures in
    let less : c.loop-l.l < part_count (g.M.HasParts.world c.args.machine.now).shape = subst (λ (n : ShapeNumbers). c.loop-l.l < part_count n) same (subst (λ m. c.loop-l.l < m) c.part_count-l-end.ensures c.loop-l-test.true) in
    first_arrival (g.M.HasParts.world c.args.machine.now) c.loop-l.l c.in-Some.e less c.loop-l.invariant c.in-Some.ensures

pub loop-l-preserved : goal.loop-l-preserved
loop-l-preserved g c = more (λ k. NoneOf (g.M.HasParts.world c.args.machine.now) (arrivals_from (g.M.HasParts.world c.args.machine.now).shape k)) c.loop-l.l c.loop-l.invariant c.in_default.ensures

pub returns : goal.returns
returns g c =
    let same = c.shape.ensures ∙ c.sites.ensures in
    let past : part_count (g.M.HasParts.world c.args.machine.now).shape ≤ c.loop-l.l = subst (λ (n : ShapeNumbers). part_count n ≤ c.loop-l.l) same (subst (λ m. m ≤ c.loop-l.l) c.part_count-l-end.ensures c.loop-l-test.false) in
    no_arrival (g.M.HasParts.world c.args.machine.now) c.loop-l.l past c.loop-l.invariant
