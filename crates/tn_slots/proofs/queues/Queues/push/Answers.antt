use Rattle.std.proofs.Common.{◌<◌, length, rules, arith}
use Rattle.tn_slots.proofs.Rings.{all_pushed, at_ring, cell_in_block, fit_pushed, length-queues}
use Rattle.tn_slots.proofs.queues.Queues.push.Goals as goal

pub index-ring-requires : goal.index-ring-requires
index-ring-requires c =
    let h : c.args.t < length c.self.inside.rings.items = rw (← c.self.view_is, length-queues) at c.requires.thread in
    search rules

pub cell-end-requires-clause-thread : goal.cell-end-requires-clause-thread
cell-end-requires-clause-thread c =
    let a = at_ring c.self.inside.block.items c.self.inside.rings.items c.self.inside.room c.args.t c.index-ring.result.now c.self.invariant (rw (← c.self.view_is) at c.requires.thread) c.index-ring.ensures in
    a.few

pub cell-end-requires-clause-head : goal.cell-end-requires-clause-head
cell-end-requires-clause-head c =
    let a = at_ring c.self.inside.block.items c.self.inside.rings.items c.self.inside.room c.args.t c.index-ring.result.now c.self.invariant (rw (← c.self.view_is) at c.requires.thread) c.index-ring.ensures in
    a.head

pub cell-end-requires-clause-place : goal.cell-end-requires-clause-place
cell-end-requires-clause-place c =
    let a = at_ring c.self.inside.block.items c.self.inside.rings.items c.self.inside.room c.args.t c.index-ring.result.now c.self.invariant (rw (← c.self.view_is) at c.requires.thread) c.index-ring.ensures in
    a.short

pub index_mut-requires : goal.index_mut-requires
index_mut-requires c =
    let a = at_ring c.self.inside.block.items c.self.inside.rings.items c.self.inside.room c.args.t c.index-ring.result.now c.self.invariant (rw (← c.self.view_is) at c.requires.thread) c.index-ring.ensures in
    let room : c.index-ring.result.now.len < c.self.inside.room = rw (← c.self.view_is, a.long) at c.requires.room in
    let within : c.cell-end.result < length c.self.inside.block.items = rw (c.cell-end.ensures) (cell_in_block c.self.inside.block.items c.self.inside.rings.items c.self.inside.room c.args.t c.index-ring.result.now.len c.index-ring.result.now c.self.invariant a room) in
    search rules

pub longer-requires : goal.longer-requires
longer-requires c =
    let a = at_ring c.self.inside.block.items c.self.inside.rings.items c.self.inside.room c.args.t c.index-ring.result.now c.self.invariant (rw (← c.self.view_is) at c.requires.thread) c.index-ring.ensures in
    let room : c.index-ring.result.now.len < c.self.inside.room = rw (← c.self.view_is, a.long) at c.requires.room in
    let few = c.self.invariant.few_slots in
    omega arith

pub index_mut-requires-2 : goal.index_mut-requires-2
index_mut-requires-2 c =
    let h : c.args.t < length c.self.inside.rings.items = rw (← c.self.view_is, length-queues) at c.requires.thread in
    search rules

pub invariant_of-self : goal.invariant_of-self
invariant_of-self c =
    let a = at_ring c.self.inside.block.items c.self.inside.rings.items c.self.inside.room c.args.t c.index-ring.result.now c.self.invariant (rw (← c.self.view_is) at c.requires.thread) c.index-ring.ensures in
    let room : c.index-ring.result.now.len < c.self.inside.room = rw (← c.self.view_is, a.long) at c.requires.room in
    rw (c.longer.ensures) (fit_pushed c.self.inside.block.items c.self.inside.rings.items c.self.inside.room c.args.t c.args.slot c.cell-end.result c.index-ring.result.now c.self.invariant a room)

pub returns-clause-queues : goal.returns-clause-queues
returns-clause-queues c =
    let a = at_ring c.self.inside.block.items c.self.inside.rings.items c.self.inside.room c.args.t c.index-ring.result.now c.self.invariant (rw (← c.self.view_is) at c.requires.thread) c.index-ring.ensures in
    let room : c.index-ring.result.now.len < c.self.inside.room = rw (← c.self.view_is, a.long) at c.requires.room in
    rw (c.longer.ensures, c.cell-end.ensures, ← c.self.view_is) (all_pushed c.self.inside.block.items c.self.inside.rings.items c.self.inside.room c.args.t c.args.slot c.index-ring.result.now c.self.invariant a room)
