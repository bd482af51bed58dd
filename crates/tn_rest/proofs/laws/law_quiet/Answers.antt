use Rattle.tn_rest.proofs.Runs.{keeps, runs, starts}
use Rattle.tn_rest.proofs.laws.law_quiet.Goals as goal

pub returns-clause-start : goal.returns-clause-start
returns-clause-start c = starts

pub returns-clause-events : goal.returns-clause-events
returns-clause-events c = keeps

pub returns-clause-runs : goal.returns-clause-runs
returns-clause-runs c = runs
