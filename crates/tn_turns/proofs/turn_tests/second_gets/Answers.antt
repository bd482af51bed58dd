use Rattle.std.proofs.Common.{rules}
use Rattle.tn_turns.proofs.Freeing.{free_one}
use Rattle.tn_turns.proofs.turn_tests.second_gets.Goals as goal

pub returns-clause-first : goal.returns-clause-first
returns-clause-first c = (search rules, free_one c.args.held _ _ _ _ c.requires.first.1 c.in-Some.ensures.turns c.give_one.ensures.turns)
