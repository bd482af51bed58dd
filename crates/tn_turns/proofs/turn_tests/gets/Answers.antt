use Rattle.std.proofs.Common.{rules}
use Rattle.tn_turns.proofs.Freeing.{free_one}
use Rattle.tn_turns.proofs.turn_tests.gets.Goals as goal

pub returns-clause-ready : goal.returns-clause-ready
returns-clause-ready c = (search rules, free_one c.args.i _ _ _ _ c.requires.ready.1 c.in-Some.ensures.turns c.give_one.ensures.turns)
