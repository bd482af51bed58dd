use Rattle.std.proofs.Common.{rules, ◌≡◌, ◌<◌, length, get_or, ◌∙◌, sym}
use Rattle.std.proofs.lemmas.List.{get_or_default}
use Rattle.tn_slots.specs.PoolModel.{PoolModel}
use Rattle.tn_slots.specs.Slot.{empty_slot}
use Rattle.tn_slots.proofs.Kept.{first_within, key_some}
use Rattle.tn_slots.proofs.pool.Pool.key.Goals as goal

pub index-requires : goal.index-requires
index-requires c =
    let p : PoolModel = record { slots = c.self.inside.slots.items; queues = c.self.inside.queues.queues; slot_bytes = c.self.inside.slot_bytes } in
    let h : c.args.t < length c.self.inside.queues.queues = search rules in
    let e : c.in_ok-slot.slot < length c.self.inside.slots.items = first_within p c.args.t c.in_ok-slot.slot c.self.invariant.kept h c.in_ok-slot.ensures in
    search rules

pub returns : goal.returns
returns c =
    let p : PoolModel = record { slots = c.self.inside.slots.items; queues = c.self.inside.queues.queues; slot_bytes = c.self.inside.slot_bytes } in
    let h : c.args.t < length c.self.inside.queues.queues = search rules in
    let e : c.in_ok-slot.slot < length c.self.inside.slots.items = first_within p c.args.t c.in_ok-slot.slot c.self.invariant.kept h c.in_ok-slot.ensures in
    let read : c.index.result.now ≡ get_or c.self.inside.slots.items c.in_ok-slot.slot empty_slot = c.index.ensures ∙ get_or_default c.self.inside.slots.items c.in_ok-slot.slot _ _ e in
    rw (← c.self.view_is, c.byte.ensures, c.byte-2.ensures, read) (sym (key_some p c.args.t c.in_ok-slot.slot c.in_ok-slot.ensures))
