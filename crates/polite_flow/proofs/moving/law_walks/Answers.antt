use Rattle.polite_flow.proofs.Walked.{walks_go_on}
use Rattle.polite_flow.proofs.moving.law_walks.Goals as goal

pub returns : goal.returns
returns c = walks_go_on
