use Rattle.tn_stamp.proofs.Taking.{takes_none, takes_next}
use Rattle.tn_stamp.proofs.merge.push_next.Goals as goal

pub returns-in_default-clause-next : goal.returns-in_default-clause-next
returns-in_default-clause-next c = takes_none _ _ _ _ c.in_default.ensures.entry

pub returns-clause-next : goal.returns-clause-next
returns-clause-next c = takes_next _ _ _ _ _ _ _ c.in-Some.ensures.entry c.in_ok-push.ensures.permutation c.in_ok-push.ensures.heap_order
