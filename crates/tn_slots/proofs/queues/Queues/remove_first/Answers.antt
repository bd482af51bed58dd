use Rattle.std.proofs.Common.{◌<◌, length, rules, arith}
use Rattle.tn_slots.proofs.Rings.{all_removed, at_ring, fit_removed, length-queues}
use Rattle.tn_slots.proofs.queues.Queues.remove_first.Goals as goal

pub index-ring-requires : goal.index-ring-requires
index-ring-requires c =
    let h : c.args.t < length c.self.inside.rings.items = rw (← c.self.view_is, length-queues) at c.requires.thread in
    search rules

pub behind_first-requires-clause-some : goal.behind_first-requires-clause-some
behind_first-requires-clause-some c =
    let a = at_ring c.self.inside.block.items c.self.inside.rings.items c.self.inside.room c.args.t c.index-ring.result.now c.self.invariant (rw (← c.self.view_is) at c.requires.thread) c.index-ring.ensures in
    rw (← c.self.view_is, a.long) at c.requires.first

pub behind_first-requires-clause-head : goal.behind_first-requires-clause-head
behind_first-requires-clause-head c =
    let a = at_ring c.self.inside.block.items c.self.inside.rings.items c.self.inside.room c.args.t c.index-ring.result.now c.self.invariant (rw (← c.self.view_is) at c.requires.thread) c.index-ring.ensures in
    let head = a.head in
    let few = c.self.invariant.few_slots in
    omega arith

pub index_mut-requires : goal.index_mut-requires
index_mut-requires c =
    let h : c.args.t < length c.self.inside.rings.items = rw (← c.self.view_is, length-queues) at c.requires.thread in
    search rules

pub invariant_of-self : goal.invariant_of-self
invariant_of-self c =
    let a = at_ring c.self.inside.block.items c.self.inside.rings.items c.self.inside.room c.args.t c.index-ring.result.now c.self.invariant (rw (← c.self.view_is) at c.requires.thread) c.index-ring.ensures in
    rw (c.behind_first.ensures) (fit_removed c.self.inside.block.items c.self.inside.rings.items c.self.inside.room c.args.t c.index-ring.result.now c.self.invariant a (rw (← c.self.view_is, a.long) at c.requires.first))

pub returns-clause-queues : goal.returns-clause-queues
returns-clause-queues c =
    let a = at_ring c.self.inside.block.items c.self.inside.rings.items c.self.inside.room c.args.t c.index-ring.result.now c.self.invariant (rw (← c.self.view_is) at c.requires.thread) c.index-ring.ensures in
    rw (c.behind_first.ensures, ← c.self.view_is) (all_removed c.self.inside.block.items c.self.inside.rings.items c.self.inside.room c.args.t c.index-ring.result.now a (rw (← c.self.view_is, a.long) at c.requires.first))
