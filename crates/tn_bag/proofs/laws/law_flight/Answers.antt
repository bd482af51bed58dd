use Rattle.tn_bag.proofs.laws.law_flight.Goals as goal

pub returns-clause-letters : goal.returns-clause-letters
returns-clause-letters g c = c.law_runs.ensures c.args.start.now c.args.history.now c.args.end.now c.requires.start c.requires.run

pub returns-clause-rest : goal.returns-clause-rest
returns-clause-rest g c = c.law_rest.ensures c.args.start.now c.args.history.now c.requires.start
