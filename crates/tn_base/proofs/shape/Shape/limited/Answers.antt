use Rattle.tn_base.proofs.Places.{few_threads}
use Rattle.tn_base.proofs.shape.Shape.limited.Goals as goal

pub returns-clause-few : goal.returns-clause-few
returns-clause-few c = few_threads c.args.self.now c.numbers.ensures.limits
