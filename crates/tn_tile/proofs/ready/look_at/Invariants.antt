use Rattle.tn_tile.specs.Step.{can_step}
use Rattle.tn_tile.proofs.Marked.{Looking}
use Rattle.tn_tile.proofs.ready.look_at.Given as goal

abbrev pub invariant-loop-rest : goal.invariant-loop-rest
invariant-loop-rest l = Looking l.ready l.seen l.fn.places l.rest (λ k. can_step l.fuel k l.state)

abbrev pub decreases-loop-rest : goal.decreases-loop-rest
decreases-loop-rest l = l.rest
