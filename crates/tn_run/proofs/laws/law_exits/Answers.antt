use Rattle.tn_run.proofs.Exits.{lists_exits}
use Rattle.tn_run.proofs.laws.law_exits.Goals as goal

pub returns : goal.returns
returns c = lists_exits
