use Rattle.tn_rest.proofs.Open.{open_at_rest, open_outside}
use Rattle.tn_rest.proofs.laws.law_open.Goals as goal

pub returns-clause-rest : goal.returns-clause-rest
returns-clause-rest c = open_at_rest

pub returns-clause-outside : goal.returns-clause-outside
returns-clause-outside c = open_outside
