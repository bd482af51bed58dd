use Rattle.polite_flow.proofs.World.{events_keep}
use Rattle.polite_flow.proofs.laws.law_events.Goals as goal

pub returns : goal.returns
returns c = events_keep
