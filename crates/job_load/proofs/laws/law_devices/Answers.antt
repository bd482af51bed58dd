use Rattle.job_load.proofs.Devices.{are_seated}
use Rattle.job_load.proofs.laws.law_devices.Goals as goal

pub returns : goal.returns
returns c = are_seated
