use Rattle.std.proofs.Common.{ℕ, ◌≡◌, ◌<◌, [], get_or}
use Rattle.tn_slots.proofs.queues.Queues.same_queue.Given as goal

abbrev pub invariant-loop-k : goal.invariant-loop-k
invariant-loop-k l = (j : ℕ) → j < l.k → get_or (get_or l.self.queues l.t []) j 0 ≡ get_or (get_or l.other.queues l.t []) j 0
