use Rattle.std.proofs.Common.{rules, arith, ◌≡◌, length-set, sym, Some}
use Rattle.tn_slots.specs.PoolModel.{PoolModel}
use Rattle.tn_slots.specs.Pool.{first_free}
use Rattle.tn_slots.proofs.Kept.{first_free_is, put_kept, room_left}
use Rattle.std.proofs.lemmas.List.{map-set}
use Rattle.tn_slots.specs.Slot.{is_free}
use Rattle.tn_slots.proofs.Flags.{put_flag}
use Rattle.tn_slots.proofs.pool.Pool.put.Goals as goal

pub append-requires-clause-room : goal.append-requires-clause-room
append-requires-clause-room c =
    let p : PoolModel = record { slots = c.self.inside.slots.items; queues = c.self.inside.queues.queues; slot_bytes = c.self.inside.slot_bytes } in
    let first : first_free p ≡ Some c.in-Some.s = search rules in
    let f = first_free_is p c.in-Some.s first in
    let room = c.self.invariant.enough in
    λ t h b. let left = room_left p c.in-Some.s f.0 f.1 c.self.invariant.kept t h in omega arith

pub invariant_of-self : goal.invariant_of-self
invariant_of-self c =
    let p : PoolModel = record { slots = c.self.inside.slots.items; queues = c.self.inside.queues.queues; slot_bytes = c.self.inside.slot_bytes } in
    let first : first_free p ≡ Some c.in-Some.s = search rules in
    let f = first_free_is p c.in-Some.s first in
    record {
      kept = rw (c.copy.ensures, c.of.ensures, c.append.ensures.queues) (put_kept p c.in-Some.s c.args.bytes.now c.args.mask f.0 f.1 (rw (← c.self.view_is) at c.requires.threads) (rw (← c.self.view_is) at c.requires.bytes) c.self.invariant.kept);
      flagged = rw (c.copy.ensures, c.of.ensures, c.set.ensures, c.self.invariant.flagged, put_flag c.args.bytes.now c.args.mask c.is_empty.result c.is_empty.ensures) (sym (map-set is_free p.slots c.in-Some.s _));
      enough = rw (length-set, c.append.ensures.room) c.self.invariant.enough;
    }
