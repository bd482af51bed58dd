use Rattle.tn_follow.proofs.Following.{still_in_order, told_all}
use Rattle.tn_follow.proofs.follow.follow_event.Goals as goal

pub lesser_spots-requires-2 : goal.lesser_spots-requires-2
lesser_spots-requires-2 g c = still_in_order c.args.event.now c.args.world.now c.make.new.world c.parts_of-parts.result (rw c.sites.ensures at c.parts_of-parts.ensures) c.requires.machine c.in_ok-make.ensures

pub greater_spots-requires-2 : goal.greater_spots-requires-2
greater_spots-requires-2 g c = still_in_order c.args.event.now c.args.world.now c.make.new.world c.parts_of-parts.result (rw c.sites.ensures at c.parts_of-parts.ensures) c.requires.machine c.in_ok-make.ensures

pub returns-clause-told : goal.returns-clause-told
returns-clause-told g c =
    told_all c.args.sent.origin c.args.sent.number c.args.at c.args.event.now c.args.world.now c.make.new.world c.parts_of-parts.result c.in_ok-steps.steps.items
    c.in_ok-low.low.items c.in_ok-high.high.items c.in_ok-new_low.new_low.items c.in_ok-new_high.new_high.items
    c.args.all.now.items c.push_places.new.all.items c.push_places-2.new.all.items c.push_ends.new.all.items c.push_ends.result
    (rw c.shape.ensures at c.numbers-numbers.ensures.limits) c.requires.machine c.in_ok-make.ensures (rw c.sites.ensures at c.parts_of-parts.ensures)
    c.in_ok-low.ensures c.in_ok-high.ensures c.in_ok-new_low.ensures c.in_ok-new_high.ensures c.in_ok-steps.ensures
    (rw c.deref.ensures.value at c.in_ok-push_places.ensures) (rw c.deref-2.ensures.value at c.in_ok-push_places-2.ensures) (rw c.deref-3.ensures.value at c.push_ends.ensures)
