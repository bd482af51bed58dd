use Rattle.job_load.proofs.Memory.{memory_is}
use Rattle.job_load.proofs.laws.law_memory.Goals as goal

pub returns : goal.returns
returns c = memory_is
