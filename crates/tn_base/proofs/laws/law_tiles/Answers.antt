use Rattle.tn_base.proofs.Places.{orders_tiles}
use Rattle.tn_base.proofs.laws.law_tiles.Goals as goal

pub returns-clause-listed : goal.returns-clause-listed
returns-clause-listed c = (orders_tiles c.args.shape.now c.numbers-numbers.ensures.limits).there

pub returns-clause-ascending : goal.returns-clause-ascending
returns-clause-ascending c = (orders_tiles c.args.shape.now c.numbers-numbers.ensures.limits).rising

pub returns-clause-each : goal.returns-clause-each
returns-clause-each c = (orders_tiles c.args.shape.now c.numbers-numbers.ensures.limits).each
