use Rattle.std.proofs.Common.{arith, ◌≡◌}
use Rattle.std.proofs.lemmas.List.{length-replicate}
use Rattle.tn_slots.proofs.Kept.{fresh_kept}
use Rattle.tn_slots.proofs.Flags.{fresh_flags}
use Rattle.tn_slots.proofs.pool.Pool.of.Goals as goal

pub invariant_of-result : goal.invariant_of-result
invariant_of-result c =
    let i : c.loop-i._i ≡ c.args.slots = omega arith in
    record {
      kept = rw (c.loop-i.invariant, i, c.in_ok-queues.ensures) (fresh_kept c.args.slots c.args.threads c.args.slot_bytes c.requires.slots c.requires.threads c.requires.slot_bytes);
      flagged = rw (c.loop-i.invariant, i, c.all.ensures) (fresh_flags c.args.slots);
      enough = rw (c.loop-i.invariant, i, c.in_ok-queues.ensures, length-replicate) (omega arith);
    }
