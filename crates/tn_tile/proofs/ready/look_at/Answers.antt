use Rattle.std.proofs.Common.{◌≡◌, ◌∙◌, rules}
use Rattle.std.specs.Int.{bit_at}
use Rattle.tn_slots.proofs.Owed.{without_less}
use Rattle.tn_tile.specs.Step.{can_step}
use Rattle.tn_tile.proofs.Marked.{looking_end, looking_more, looking_none}
use Rattle.tn_tile.proofs.ready.look_at.Goals as goal

pub loop-rest-init : goal.loop-rest-init
loop-rest-init c = looking_none c.args.ready c.args.places (λ k. can_step c.args.fuel k c.args.state.now)

pub can_step-requires : goal.can_step-requires
can_step-requires c =
    let b : bit_at c.loop-rest.rest c.lowest_bit-k.result ≡ 1 = rw (c.bits-in-loop-rest.ensures) at c.lowest_bit-k.ensures.one in
    c.requires c.lowest_bit-k.result c.lowest_bit-k.ensures.within (c.loop-rest.invariant.part c.lowest_bit-k.result c.lowest_bit-k.ensures.within b)

pub loop-rest-smaller : goal.loop-rest-smaller
loop-rest-smaller c =
    let b : bit_at c.loop-rest.rest c.lowest_bit-k.result ≡ 1 = rw (c.bits-in-loop-rest.ensures) at c.lowest_bit-k.ensures.one in
    rw (c.without-rest.ensures) (without_less c.loop-rest.rest c.lowest_bit-k.result c.lowest_bit-k.ensures.within b)

pub loop-rest-preserved : goal.loop-rest-preserved
loop-rest-preserved c =
    let b : bit_at c.loop-rest.rest c.lowest_bit-k.result ≡ 1 = rw (c.bits-in-loop-rest.ensures) at c.lowest_bit-k.ensures.one in
    rw c.without-rest.ensures (
    looking_more c.args.ready c.loop-rest.seen c.write_bit-seen.result c.args.places c.loop-rest.rest c.lowest_bit-k.result (λ k. can_step c.args.fuel k c.args.state.now)
    c.lowest_bit-k.ensures.within b c.loop-rest.invariant (c.write_bit-seen.ensures.written ∙ c.can_step.ensures) c.write_bit-seen.ensures.others
    )

pub returns : goal.returns
returns c =
    let zero : c.loop-rest.rest ≡ 0 = search rules in
    looking_end c.args.ready c.loop-rest.seen c.args.places c.loop-rest.rest (λ k. can_step c.args.fuel k c.args.state.now) zero c.loop-rest.invariant
