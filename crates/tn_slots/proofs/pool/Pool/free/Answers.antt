use Rattle.std.proofs.Common.{rules, ◌≡◌, ◌<◌, length, get_or, length-set, ◌∙◌, sym}
use Rattle.std.proofs.lemmas.List.{get_or_default}
use Rattle.tn_slots.specs.PoolModel.{PoolModel}
use Rattle.tn_slots.specs.Slot.{empty_slot}
use Rattle.tn_slots.specs.Pool.{Holds}
use Rattle.tn_slots.proofs.Kept.{freed_kept, held_within}
use Rattle.std.proofs.lemmas.List.{length-map, map-set}
use Rattle.tn_slots.specs.Slot.{is_free}
use Rattle.tn_slots.proofs.Flags.{held_flag}
use Rattle.tn_slots.proofs.pool.Pool.free.Goals as goal

pub invariant_of-self : goal.invariant_of-self
invariant_of-self c =
    let p : PoolModel = record { slots = c.self.inside.slots.items; queues = c.self.inside.queues.queues; slot_bytes = c.self.inside.slot_bytes } in
    let h : c.args.t < length c.self.inside.queues.queues = search rules in
    let held : Holds p c.args.t c.args.slot = search rules in
    let read : c.index_mut-held.result.now ≡ get_or c.self.inside.slots.items c.args.slot empty_slot = c.index_mut-held.ensures.value ∙ get_or_default c.self.inside.slots.items c.args.slot _ _ (held_within p c.args.t c.args.slot held) in
    record {
      kept = rw (c.without-held.ensures, read) (freed_kept p c.args.t c.args.slot h held c.self.invariant.kept);
      flagged = rw (c.insert_if.ensures, c.is_free-free.ensures, c.self.invariant.flagged) (sym (map-set is_free p.slots c.args.slot _));
      enough = rw length-set c.self.invariant.enough;
    }

pub insert_if-requires-clause-slot : goal.insert_if-requires-clause-slot
insert_if-requires-clause-slot c =
    let p : PoolModel = record { slots = c.self.inside.slots.items; queues = c.self.inside.queues.queues; slot_bytes = c.self.inside.slot_bytes } in
    let held : Holds p c.args.t c.args.slot = search rules in
    rw (c.self.invariant.flagged, length-map) (held_within p c.args.t c.args.slot held)

pub insert_if-requires-clause-used : goal.insert_if-requires-clause-used
insert_if-requires-clause-used c =
    let p : PoolModel = record { slots = c.self.inside.slots.items; queues = c.self.inside.queues.queues; slot_bytes = c.self.inside.slot_bytes } in
    let held : Holds p c.args.t c.args.slot = search rules in
    rw (c.self.invariant.flagged) (held_flag p c.args.t c.args.slot held)
