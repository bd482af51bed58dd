use Rattle.tn_run.proofs.Plainly.{ends_plainly}
use Rattle.tn_run.proofs.laws.law_text_status.Goals as goal

pub returns : goal.returns
returns c = ends_plainly
