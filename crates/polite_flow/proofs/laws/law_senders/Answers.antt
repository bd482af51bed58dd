use Rattle.polite_flow.proofs.Sending.{events_keep_senders, turns_fit, walks_flow}
use Rattle.polite_flow.proofs.laws.law_senders.Goals as goal

pub returns-clause-event : goal.returns-clause-event
returns-clause-event c = events_keep_senders

pub returns-clause-turn : goal.returns-clause-turn
returns-clause-turn c = turns_fit

pub returns-clause-walk : goal.returns-clause-walk
returns-clause-walk c = walks_flow
