use Rattle.polite_place.proofs.Adds.{synced-new}
use Rattle.polite_place.proofs.order.meet.Goals as goal

pub returns-clause-synced : goal.returns-clause-synced
returns-clause-synced c = rw c.in_ok-push.ensures.items (synced-new c.args.order.now.items c.args.met.now c.args.vertex c.requires.synced c.requires.there)
