use Rattle.polite_flow.proofs.Fresh.{fresh_on_way}
use Rattle.polite_flow.proofs.laws.law_fresh.Goals as goal

pub returns : goal.returns
returns c = fresh_on_way
