use Rattle.job_text.proofs.ReadBack.{reads_back}
use Rattle.job_text.proofs.laws.law_read_back.Goals as goal

pub returns : goal.returns
returns c = reads_back c.args._job.now c.requires
