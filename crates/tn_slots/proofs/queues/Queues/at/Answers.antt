use Rattle.std.proofs.Common.{◌<◌, ◌∙◌, length, rules, arith}
use Rattle.std.proofs.lemmas.List.{get_or_default}
use Rattle.tn_slots.proofs.Rings.{at_ring, cell_in_block, length-queues, slot_read}
use Rattle.tn_slots.proofs.queues.Queues.at.Goals as goal

pub index-ring-requires : goal.index-ring-requires
index-ring-requires c =
    let h : c.args.t < length c.self.inside.rings.items = rw (← c.self.view_is, length-queues) at c.requires.thread in
    search rules

pub cell-requires-clause-thread : goal.cell-requires-clause-thread
cell-requires-clause-thread c =
    let a = at_ring c.self.inside.block.items c.self.inside.rings.items c.self.inside.room c.args.t c.index-ring.result.now c.self.invariant (rw (← c.self.view_is) at c.requires.thread) c.index-ring.ensures in
    a.few

pub cell-requires-clause-head : goal.cell-requires-clause-head
cell-requires-clause-head c =
    let a = at_ring c.self.inside.block.items c.self.inside.rings.items c.self.inside.room c.args.t c.index-ring.result.now c.self.invariant (rw (← c.self.view_is) at c.requires.thread) c.index-ring.ensures in
    a.head

pub cell-requires-clause-place : goal.cell-requires-clause-place
cell-requires-clause-place c =
    let a = at_ring c.self.inside.block.items c.self.inside.rings.items c.self.inside.room c.args.t c.index-ring.result.now c.self.invariant (rw (← c.self.view_is) at c.requires.thread) c.index-ring.ensures in
    let h : c.args.k < c.index-ring.result.now.len = rw (← c.self.view_is, a.long) at c.requires.within in
    let short = a.short in
    omega arith

pub index-requires : goal.index-requires
index-requires c =
    let a = at_ring c.self.inside.block.items c.self.inside.rings.items c.self.inside.room c.args.t c.index-ring.result.now c.self.invariant (rw (← c.self.view_is) at c.requires.thread) c.index-ring.ensures in
    let h : c.args.k < c.index-ring.result.now.len = rw (← c.self.view_is, a.long) at c.requires.within in
    let short = a.short in
    let within : c.cell.result < length c.self.inside.block.items = rw (c.cell.ensures) (cell_in_block c.self.inside.block.items c.self.inside.rings.items c.self.inside.room c.args.t c.args.k c.index-ring.result.now c.self.invariant a (omega arith)) in
    search rules

pub returns : goal.returns
returns c =
    let a = at_ring c.self.inside.block.items c.self.inside.rings.items c.self.inside.room c.args.t c.index-ring.result.now c.self.invariant (rw (← c.self.view_is) at c.requires.thread) c.index-ring.ensures in
    let h : c.args.k < c.index-ring.result.now.len = rw (← c.self.view_is, a.long) at c.requires.within in
    let e = slot_read c.self.inside.block.items c.self.inside.rings.items c.self.inside.room c.args.t c.args.k c.index-ring.result.now a h in
    let short = a.short in
    let within : c.cell.result < length c.self.inside.block.items = rw (c.cell.ensures) (cell_in_block c.self.inside.block.items c.self.inside.rings.items c.self.inside.room c.args.t c.args.k c.index-ring.result.now c.self.invariant a (omega arith)) in
    rw (← c.self.view_is, e, ← c.cell.ensures) (c.index.ensures ∙ get_or_default c.self.inside.block.items c.cell.result c.index.result.now 0 within)
