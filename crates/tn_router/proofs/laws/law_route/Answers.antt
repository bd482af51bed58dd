use Rattle.tn_router.proofs.Conserved.{route_conserves, started_left}
use Rattle.tn_router.proofs.laws.law_route.Goals as goal

pub returns-clause-moved : goal.returns-clause-moved
returns-clause-moved c = λ b side w h f. route_conserves c.args.shape.now c.args.tables.now b side w c.numbers-numbers.ensures.limits c.requires h f

pub returns-clause-started : goal.returns-clause-started
returns-clause-started c = λ b p h. started_left c.args.shape.now c.args.tables.now b p c.numbers-numbers.ensures.limits c.requires h
