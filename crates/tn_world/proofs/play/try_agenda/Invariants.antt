use Rattle.std.proofs.Common.{◌≡◌}
use Rattle.tn_world.proofs.play.try_agenda.Given as goal

abbrev pub invariant-loop : goal.invariant-loop
invariant-loop g l = l.world ≡ l.fn.world
