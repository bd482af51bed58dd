use Rattle.polite_routes.proofs.Routing.{passes_all, routed}
use Rattle.polite_routes.proofs.laws.law_routes.Goals as goal

pub returns-clause-routed : goal.returns-clause-routed
returns-clause-routed c = λ pins j h l. routed c.args.shape.now pins j c.numbers-numbers.ensures.limits h l

pub returns-clause-passes : goal.returns-clause-passes
returns-clause-passes c = λ pins h. passes_all c.args.shape.now pins c.numbers-numbers.ensures.limits h
