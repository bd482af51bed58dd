use Rattle.polite_flow.proofs.Enabling.{some_event}
use Rattle.polite_flow.proofs.Watched.{watched_event}
use Rattle.polite_flow.proofs.moving.law_enabled.Goals as goal

pub returns-clause-packet : goal.returns-clause-packet
returns-clause-packet c = some_event

pub returns-clause-phases : goal.returns-clause-phases
returns-clause-phases c = watched_event
