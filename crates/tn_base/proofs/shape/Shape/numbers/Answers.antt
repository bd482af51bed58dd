use Rattle.tn_base.proofs.Limits.{within_limits}
use Rattle.tn_base.proofs.shape.Shape.numbers.Goals as goal

pub returns-clause-limits : goal.returns-clause-limits
returns-clause-limits c = rw (← c.self.view_is) (within_limits c.self.inside.numbers c.self.invariant)
