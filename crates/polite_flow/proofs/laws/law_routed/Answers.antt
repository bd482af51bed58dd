use Rattle.polite_flow.proofs.Routed.{are_routes}
use Rattle.polite_flow.proofs.laws.law_routed.Goals as goal

pub returns : goal.returns
returns c = λ set e. are_routes c.args.shape.now c.args.graph.now c.args.placement.now set c.args.graph.now.per_thread c.numbers-numbers.ensures.limits e (c.law_served.ensures.served set e) c.law_served.ensures.count c.law_served.ensures.seated
