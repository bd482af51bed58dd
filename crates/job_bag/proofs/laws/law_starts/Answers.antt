use Rattle.job_bag.proofs.Starts.{accepted_start}
use Rattle.job_bag.proofs.laws.law_starts.Goals as goal

pub returns : goal.returns
returns c = λ job start accepted. accepted_start job start (c.law_start.ensures job start accepted)
