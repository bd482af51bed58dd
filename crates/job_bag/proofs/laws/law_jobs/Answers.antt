use Rattle.job_bag.proofs.laws.law_jobs.Goals as goal

pub returns : goal.returns
returns c = λ job start history end accepted run. c.law_runs.ensures start history end (c.law_starts.ensures job start accepted) run
