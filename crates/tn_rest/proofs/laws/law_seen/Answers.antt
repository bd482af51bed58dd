use Rattle.tn_rest.proofs.Seen.{happens, walks_announce, walks_quiet}
use Rattle.tn_rest.proofs.laws.law_seen.Goals as goal

pub returns-clause-steps : goal.returns-clause-steps
returns-clause-steps c = happens

pub returns-clause-quiet : goal.returns-clause-quiet
returns-clause-quiet c = walks_quiet

pub returns-clause-rest : goal.returns-clause-rest
returns-clause-rest c = walks_announce
