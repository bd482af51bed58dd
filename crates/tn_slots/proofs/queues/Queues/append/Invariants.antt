use Rattle.std.proofs.Common.{◌≡◌}
use Rattle.tn_slots.specs.Queues.{AppendedBut}
use Rattle.tn_slots.proofs.queues.Queues.append.Given as goal

abbrev pub invariant-loop-rest : goal.invariant-loop-rest
invariant-loop-rest l = record { queues : AppendedBut l.fn.mask l.rest l.slot l.fn.self.queues l.self.queues; room : l.self.room ≡ l.fn.self.room }

abbrev pub decreases-loop-rest : goal.decreases-loop-rest
decreases-loop-rest l = l.rest
