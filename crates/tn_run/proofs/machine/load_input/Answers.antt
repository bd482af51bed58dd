use Rattle.job_load.specs.Loaded.{loaded}
use Rattle.tn_run.proofs.Ending.{started}
use Rattle.tn_run.proofs.machine.load_input.Goals as goal

pub returns-clause-start : goal.returns-clause-start
returns-clause-start c = started c.load.result (loaded c.in_ok-job.job) c.load.ensures (λ w e. c.law_starts.ensures c.in_ok-job.job w e)
