use Rattle.job_flow.proofs.Carried.{walks_carry}
use Rattle.job_flow.proofs.laws.law_carried.Goals as goal

pub returns : goal.returns
returns c = walks_carry
