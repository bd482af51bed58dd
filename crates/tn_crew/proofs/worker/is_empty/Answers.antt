use Rattle.std.proofs.Common.{rules, [], append-nil, refl, subst, sym}
use Rattle.std.proofs.lemmas.List.Elements.{All-nil}
use Rattle.tn_crew.proofs.worker.is_empty.Goals as goal
use Rattle.tn_turns.proofs.Freeing.{free_one}
use Rattle.tn_turns.specs.Outs.{LacksAll}

pub returns-in_default-clause-ready : goal.returns-in_default-clause-ready
returns-in_default-clause-ready c = (search rules, subst LacksAll (sym c.in_default.ensures.turns) c.requires.ready.1)

pub give_one-requires-clause-item : goal.give_one-requires-clause-item
give_one-requires-clause-item c = (c.in-Some.link, c.in-Some.ensures.held, refl, ([], sym (append-nil c.in-Some.link.stamped.entries), All-nil _))

pub returns-clause-ready : goal.returns-clause-ready
returns-clause-ready c = (search rules, free_one c.args.l.0 _ _ _ _ c.requires.ready.1 c.in-Some.ensures.turns c.give_one.ensures.turns)
