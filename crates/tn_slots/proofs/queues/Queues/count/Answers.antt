use Rattle.std.proofs.Common.{rules}
use Rattle.tn_slots.proofs.Rings.{length-queues}
use Rattle.tn_slots.proofs.queues.Queues.count.Goals as goal

pub returns-clause-value : goal.returns-clause-value
returns-clause-value c = rw (← c.self.view_is, length-queues) (search rules)
