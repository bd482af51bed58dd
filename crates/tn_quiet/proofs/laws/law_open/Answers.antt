use Rattle.tn_quiet.proofs.OpenMachines.{open_elsewhere, open_world}
use Rattle.tn_quiet.proofs.laws.law_open.Goals as goal

pub returns-clause-rest : goal.returns-clause-rest
returns-clause-rest c = open_world

pub returns-clause-outside : goal.returns-clause-outside
returns-clause-outside c = open_elsewhere
