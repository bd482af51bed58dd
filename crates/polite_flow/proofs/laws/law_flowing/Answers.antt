use Rattle.polite_flow.proofs.Flowing.{event_flows}
use Rattle.polite_flow.proofs.Starting.{start_flows, walk_flows}
use Rattle.polite_flow.proofs.laws.law_flowing.Goals as goal

pub returns-clause-start : goal.returns-clause-start
returns-clause-start c = start_flows

pub returns-clause-event : goal.returns-clause-event
returns-clause-event c = event_flows

pub returns-clause-walk : goal.returns-clause-walk
returns-clause-walk c = walk_flows
