use Rattle.std.proofs.Common.{rules, ◌≡◌, ◌<◌, ◌∷◌, ◌∙◌, length, get_or, drop, length-set, sym}
use Rattle.std.proofs.lemmas.List.{get_or_default}
use Rattle.tn_slots.specs.PoolModel.{PoolModel}
use Rattle.tn_slots.specs.Slot.{empty_slot}
use Rattle.tn_slots.specs.Pool.{queue_at}
use Rattle.tn_slots.proofs.Owed.{first_is}
use Rattle.tn_slots.proofs.Kept.{first_within, taken_kept}
use Rattle.tn_slots.proofs.Flags.{taken_flags}
use Rattle.tn_slots.proofs.pool.Pool.take.Goals as goal

pub index_mut-slot-requires : goal.index_mut-slot-requires
index_mut-slot-requires c =
    let p : PoolModel = record { slots = c.self.inside.slots.items; queues = c.self.inside.queues.queues; slot_bytes = c.self.inside.slot_bytes } in
    let h : c.args.t < length c.self.inside.queues.queues = search rules in
    let e : c.in_ok-s.s < length c.self.inside.slots.items = first_within p c.args.t c.in_ok-s.s c.self.invariant.kept h c.in_ok-s.ensures in
    search rules

pub invariant_of-self : goal.invariant_of-self
invariant_of-self c =
    let p : PoolModel = record { slots = c.self.inside.slots.items; queues = c.self.inside.queues.queues; slot_bytes = c.self.inside.slot_bytes } in
    let h : c.args.t < length c.self.inside.queues.queues = search rules in
    let e : c.in_ok-s.s < length c.self.inside.slots.items = first_within p c.args.t c.in_ok-s.s c.self.invariant.kept h c.in_ok-s.ensures in
    let f : queue_at p c.args.t ≡ c.in_ok-s.s ∷ drop 1 (queue_at p c.args.t) = first_is _ _ (sym c.in_ok-s.ensures) in
    let read : c.index_mut-slot.result.now ≡ get_or c.self.inside.slots.items c.in_ok-s.s empty_slot = c.index_mut-slot.ensures.value ∙ get_or_default c.self.inside.slots.items c.in_ok-s.s _ _ e in
    record {
      kept = rw (c.without-slot.ensures, c.with-slot.ensures, read, c.remove_first.ensures.queues) (taken_kept p c.args.t c.in_ok-s.s (drop 1 (queue_at p c.args.t)) h f c.self.invariant.kept);
      flagged = rw (c.without-slot.ensures, c.with-slot.ensures, read) (c.self.invariant.flagged ∙ sym (taken_flags p c.args.t c.in_ok-s.s (drop 1 (queue_at p c.args.t)) h f c.self.invariant.kept));
      enough = rw (length-set, c.remove_first.ensures.room) c.self.invariant.enough;
    }
