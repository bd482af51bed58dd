use Rattle.std.proofs.Common.{◌<◌, length, rules}
use Rattle.tn_slots.proofs.Rings.{all_cleared, length-queues}
use Rattle.tn_slots.proofs.queues.Queues.clear.Goals as goal

pub index_mut-requires : goal.index_mut-requires
index_mut-requires c =
    let h : c.args.t < length c.self.inside.rings.items = rw (← c.self.view_is, length-queues) at c.requires in
    search rules

pub returns-clause-queues : goal.returns-clause-queues
returns-clause-queues c =
    let h : c.args.t < length c.self.inside.rings.items = rw (← c.self.view_is, length-queues) at c.requires in
    rw (← c.self.view_is) (all_cleared c.self.inside.block.items c.self.inside.rings.items c.self.inside.room c.args.t h)
