use Rattle.tn_order.proofs.SpotNet.{spot_net}
use Rattle.tn_order.proofs.laws.law_spots.Goals as goal

pub returns : goal.returns
returns c s goal = spot_net c.args.shape.now s goal c.numbers-numbers.ensures.limits
