use Rattle.tn_order.proofs.Moving.{each_moving_keeps}
use Rattle.tn_order.proofs.laws.law_moving.Goals as goal

pub returns : goal.returns
returns c = each_moving_keeps
