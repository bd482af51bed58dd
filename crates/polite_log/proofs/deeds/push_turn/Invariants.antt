use Rattle.std.specs.Prelude.{reverse}
use Rattle.polite_log.proofs.Making.{TurnGoes}
use Rattle.polite_log.proofs.deeds.push_turn.Given as goal

abbrev pub invariant-loop-made : goal.invariant-loop-made
invariant-loop-made g l = TurnGoes l.t l.n l._made l.initial.world l.world (reverse l.initial.deeds.items) (reverse l.deeds.items)
