use Rattle.tn_tile.specs.Step.{can_step}
use Rattle.tn_tile.proofs.Marked.{MarksBelow}
use Rattle.tn_tile.proofs.ready.all_ready.Given as goal

abbrev pub invariant-loop-k : goal.invariant-loop-k
invariant-loop-k l = MarksBelow (λ k. can_step l.plan.shape.fuel k l.state) l.k l.seen
