use Rattle.std.proofs.Common.{ℕ, ◌≡◌, ◌<◌, [], get_or}
use Rattle.tn_slots.proofs.queues.Queues.same.Given as goal

abbrev pub invariant-loop-t : goal.invariant-loop-t
invariant-loop-t l = (u : ℕ) → u < l.t → get_or l.self.queues u [] ≡ get_or l.other.queues u []
