use Rattle.tn_turns.proofs.Untouched.{untouched_paired}
use Rattle.tn_turns.proofs.turn_tests.a_turn_is_with_one_seat.Goals as goal

pub of-requires-clause-paired : goal.of-requires-clause-paired
of-requires-clause-paired g c = untouched_paired c.in_ok-items.items.items
