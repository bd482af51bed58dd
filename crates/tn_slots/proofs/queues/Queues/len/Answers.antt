use Rattle.std.proofs.Common.{◌<◌, length, rules, sym}
use Rattle.tn_slots.proofs.Rings.{at_ring, length-queues}
use Rattle.tn_slots.proofs.queues.Queues.len.Goals as goal

pub index-requires : goal.index-requires
index-requires c =
    let h : c.args.t < length c.self.inside.rings.items = rw (← c.self.view_is, length-queues) at c.requires in
    search rules

pub returns : goal.returns
returns c =
    let h = rw (← c.self.view_is) at c.requires in
    let a = at_ring c.self.inside.block.items c.self.inside.rings.items c.self.inside.room c.args.t c.index.result.now c.self.invariant h c.index.ensures in
    rw (← c.self.view_is) (sym a.long)
