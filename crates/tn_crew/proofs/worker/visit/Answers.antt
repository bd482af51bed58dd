use Rattle.std.proofs.Common.{rules, subst, sym}
use Rattle.tn_crew.proofs.worker.visit.Goals as goal
use Rattle.tn_turns.proofs.Freeing.{free_one}
use Rattle.tn_turns.specs.Outs.{LacksAll}

pub returns-in_default-clause-ready : goal.returns-in_default-clause-ready
returns-in_default-clause-ready g c = (search rules, subst LacksAll (sym c.in_default.ensures.turns) c.requires.ready.1)

pub returns-clause-ready : goal.returns-clause-ready
returns-clause-ready g c = (search rules, free_one c.args.p.0 _ _ _ _ c.requires.ready.1 c.in-Some.ensures.turns c.give_one.ensures.turns)
