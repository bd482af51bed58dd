use Rattle.tn_check.proofs.Verdicts.{one_verdict}
use Rattle.tn_check.proofs.laws.law_one_verdict.Goals as goal

pub returns : goal.returns
returns c = one_verdict
