use Rattle.tn_quiet.proofs.Machines.{steps}
use Rattle.tn_quiet.proofs.Runs.{at_rest, quiet}
use Rattle.tn_quiet.proofs.laws.law_machines.Goals as goal

pub returns-clause-steps : goal.returns-clause-steps
returns-clause-steps c = steps

pub returns-clause-quiet : goal.returns-clause-quiet
returns-clause-quiet c = quiet

pub returns-clause-rest : goal.returns-clause-rest
returns-clause-rest c = at_rest
