use Rattle.std.proofs.Common.{ap}
use Rattle.tn_slots.specs.QueueModel.{QueuesModel}
use Rattle.tn_slots.proofs.Rings.{all_empty}
use Rattle.tn_slots.proofs.queues.Queues.of.Goals as goal

pub returns : goal.returns
returns c =
    let e = c.in_ok-rings.ensures.items_if_clones_equal (λ y h. h) in
    rw e (ap (λ qs. let r : QueuesModel = record { queues = qs; room = c.args.room } in r) (all_empty c.in_ok-block.block.items c.args.threads c.args.room))
