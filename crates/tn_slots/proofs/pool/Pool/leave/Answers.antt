use Rattle.std.proofs.Common.{rules, ◌<◌, length}
use Rattle.std.proofs.lemmas.List.{length-map}
use Rattle.tn_slots.specs.PoolModel.{PoolModel}
use Rattle.tn_slots.proofs.Kept.{left_kept}
use Rattle.tn_slots.proofs.pool.Pool.leave.Goals as goal

pub invariant_of-self : goal.invariant_of-self
invariant_of-self c =
    let p : PoolModel = record { slots = c.self.inside.slots.items; queues = c.self.inside.queues.queues; slot_bytes = c.self.inside.slot_bytes } in
    let h : c.args.t < length c.self.inside.queues.queues = search rules in
    record {
      kept = rw (c.leave_each.ensures.slots, c.clear.ensures.queues) (left_kept p c.args.t h c.self.invariant.kept);
      flagged = c.leave_each.ensures.free;
      enough = rw (c.leave_each.ensures.slots, length-map, c.clear.ensures.room) c.self.invariant.enough;
    }
