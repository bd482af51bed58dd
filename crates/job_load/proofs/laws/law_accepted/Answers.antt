use Rattle.job_load.proofs.Accepted.{fault_refuses, faultless_accepted}
use Rattle.job_load.proofs.laws.law_accepted.Goals as goal

pub returns-clause-refuses : goal.returns-clause-refuses
returns-clause-refuses c = fault_refuses

pub returns-clause-accepts : goal.returns-clause-accepts
returns-clause-accepts c = faultless_accepted
