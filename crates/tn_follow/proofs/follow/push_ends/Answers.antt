use Rattle.tn_follow.proofs.Following.{ends_told}
use Rattle.tn_follow.proofs.follow.push_ends.Goals as goal

pub returns : goal.returns
returns c =
    ends_told c.args.sent.origin c.args.sent.number c.args.event c.args.steps.now c.in_ok-handed.handed.items c.in_ok-dropped.dropped.items c.args.all.now.items c.push_handed.new.all.items c.push_dropped.new.all.items c.push_dropped.result
    c.in_ok-handed.ensures c.in_ok-dropped.ensures (rw c.deref.ensures.value at c.in_ok-push_handed.ensures) (rw c.deref-2.ensures.value at c.push_dropped.ensures)
