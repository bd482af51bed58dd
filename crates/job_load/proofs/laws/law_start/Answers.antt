use Rattle.job_load.proofs.Accepted.{accepted}
use Rattle.job_load.proofs.laws.law_start.Goals as goal

pub returns : goal.returns
returns c = accepted
