use Rattle.tn_rest.proofs.Runs.{announces}
use Rattle.tn_rest.proofs.laws.law_rest.Goals as goal

pub returns : goal.returns
returns c = announces
