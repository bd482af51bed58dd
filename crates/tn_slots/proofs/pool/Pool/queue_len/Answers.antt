use Rattle.std.proofs.Common.{rules, arith, ◌<◌, length}
use Rattle.tn_slots.specs.PoolModel.{PoolModel}
use Rattle.tn_slots.proofs.Kept.{queue_short}
use Rattle.tn_slots.proofs.pool.Pool.queue_len.Goals as goal

pub overflow_cast-result : goal.overflow_cast-result
overflow_cast-result c =
    let p : PoolModel = record { slots = c.self.inside.slots.items; queues = c.self.inside.queues.queues; slot_bytes = c.self.inside.slot_bytes } in
    let h : c.args.t < length c.self.inside.queues.queues = search rules in
    let short = queue_short p c.self.invariant.kept c.args.t h in
    let few = c.self.invariant.kept.few_slots in
    let long = c.len.ensures in
    omega arith
