use Rattle.tn_order.proofs.Each.{each_event_keeps}
use Rattle.tn_order.proofs.laws.law_each.Goals as goal

pub returns : goal.returns
returns c = each_event_keeps
