use Rattle.tn_letters.proofs.Meaning.{bag_run}
use Rattle.tn_letters.proofs.laws.law_runs.Goals as goal

pub returns : goal.returns
returns c = λ start history end s run. bag_run start history end s run
