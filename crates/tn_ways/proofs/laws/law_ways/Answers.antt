use Rattle.tn_ways.proofs.Law.{ways}
use Rattle.tn_ways.proofs.laws.law_ways.Goals as goal

pub returns : goal.returns
returns c = ways c.args.shape.now c.numbers-numbers.ensures.limits
