use Rattle.tn_rest.proofs.Runs.{only_releases, waits}
use Rattle.tn_rest.proofs.laws.law_release.Goals as goal

pub returns-clause-events : goal.returns-clause-events
returns-clause-events c = only_releases

pub returns-clause-runs : goal.returns-clause-runs
returns-clause-runs c = waits
