use Rattle.std.proofs.Common.{◌≡◌, ◌∙◌, rules}
use Rattle.std.specs.Int.{bit_at}
use Rattle.tn_slots.proofs.Owed.{append_end, append_none, append_step, rest_room, rest_within, without_less}
use Rattle.tn_slots.proofs.queues.Queues.append.Goals as goal

pub loop-rest-init : goal.loop-rest-init
loop-rest-init c = record { queues = append_none _ _ _ c.requires.named; room = search rules }

pub push-requires-clause-thread : goal.push-requires-clause-thread
push-requires-clause-thread c =
    let b : bit_at c.loop-rest.rest c.lowest_bit-t.result ≡ 1 = rw (c.bits-in-loop-rest.ensures) at c.lowest_bit-t.ensures.one in
    rest_within _ _ _ _ _ _ c.loop-rest.invariant.queues b

pub push-requires-clause-room : goal.push-requires-clause-room
push-requires-clause-room c =
    let b : bit_at c.loop-rest.rest c.lowest_bit-t.result ≡ 1 = rw (c.bits-in-loop-rest.ensures) at c.lowest_bit-t.ensures.one in
    rw (c.loop-rest.invariant.room) (rest_room c.args.mask c.loop-rest.rest c.args.slot c.lowest_bit-t.result c.args.self.now.room c.args.self.now.queues c.loop-rest.self.queues c.loop-rest.invariant.queues b c.requires.room)

pub loop-rest-smaller : goal.loop-rest-smaller
loop-rest-smaller c =
    let b : bit_at c.loop-rest.rest c.lowest_bit-t.result ≡ 1 = rw (c.bits-in-loop-rest.ensures) at c.lowest_bit-t.ensures.one in
    rw (c.without-rest.ensures) (without_less c.loop-rest.rest c.lowest_bit-t.result c.lowest_bit-t.ensures.within b)

pub loop-rest-preserved : goal.loop-rest-preserved
loop-rest-preserved c =
    let b : bit_at c.loop-rest.rest c.lowest_bit-t.result ≡ 1 = rw (c.bits-in-loop-rest.ensures) at c.lowest_bit-t.ensures.one in
    record {
      queues = rw (c.without-rest.ensures, c.push.ensures.queues) (append_step c.args.mask c.loop-rest.rest c.args.slot c.lowest_bit-t.result c.args.self.now.queues c.loop-rest.self.queues c.requires.threads b c.loop-rest.invariant.queues);
      room = c.push.ensures.room ∙ c.loop-rest.invariant.room;
    }

pub returns : goal.returns
returns c =
    let zero : c.loop-rest.rest ≡ 0 = search rules in
    record {
      queues = append_end _ _ _ _ _ zero c.loop-rest.invariant.queues;
      room = c.loop-rest.invariant.room;
    }
