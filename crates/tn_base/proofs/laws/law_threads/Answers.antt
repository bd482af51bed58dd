use Rattle.tn_base.proofs.Places.{orders_threads}
use Rattle.tn_base.proofs.laws.law_threads.Goals as goal

pub returns-clause-listed : goal.returns-clause-listed
returns-clause-listed c = (orders_threads c.args.shape.now c.numbers-numbers.ensures.limits).there

pub returns-clause-ascending : goal.returns-clause-ascending
returns-clause-ascending c = (orders_threads c.args.shape.now c.numbers-numbers.ensures.limits).rising

pub returns-clause-each : goal.returns-clause-each
returns-clause-each c = (orders_threads c.args.shape.now c.numbers-numbers.ensures.limits).each
