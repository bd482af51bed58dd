use Rattle.std.proofs.Common.{rules}
use Rattle.tn_crew.proofs.work.make_alone.Goals as goal
use Rattle.tn_turns.proofs.Freeing.{free_one}

pub returns-clause-ready : goal.returns-clause-ready
returns-clause-ready g c = (search rules, free_one c.args.p.0 _ _ _ _ c.requires.ready.1 c.in-Some.ensures.turns c.give_one.ensures.turns)
