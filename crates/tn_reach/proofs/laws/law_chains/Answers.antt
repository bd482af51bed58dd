use Rattle.tn_reach.proofs.Chained.{chain_found, chain_shown, loop_tells, loop_told}
use Rattle.tn_reach.proofs.laws.law_chains.Goals as goal

pub returns-clause-found : goal.returns-clause-found
returns-clause-found c = λ b. (chain_found c.args.shape.now c.args.tables.now b, chain_shown c.args.shape.now c.args.tables.now b)

pub returns-clause-told : goal.returns-clause-told
returns-clause-told c = λ b. (loop_told c.args.shape.now c.args.tables.now b, λ h. loop_tells c.args.shape.now c.args.tables.now b h.0 h.1)
