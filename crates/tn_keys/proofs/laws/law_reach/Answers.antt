use Rattle.tn_keys.proofs.Accepting.{reach_enough, reach_is}
use Rattle.tn_keys.proofs.laws.law_reach.Goals as goal

pub returns-clause-walked : goal.returns-clause-walked
returns-clause-walked c = λ b key bytes h. reach_is c.args.shape.now c.args.tables.now b key bytes c.requires h

pub returns-clause-enough : goal.returns-clause-enough
returns-clause-enough c = λ b key bytes keys h l. reach_enough c.args.shape.now c.args.tables.now b key bytes keys c.requires h l
