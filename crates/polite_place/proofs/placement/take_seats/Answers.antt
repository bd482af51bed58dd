use Rattle.std.proofs.Common.{◌<◌, ◌%◌, ap, length, arith, ◌∙◌, length-set}
use Rattle.tn_base.specs.Shape.{thread_count}
use Rattle.polite_place.specs.Seats.{seat, seat_at}
use Rattle.polite_place.proofs.Adds.{all_below_at}
use Rattle.polite_place.proofs.Shares.{share_some, thread_below}
use Rattle.polite_place.proofs.Taking.{written_as}
use Rattle.polite_place.proofs.placement.take_seats.Goals as goal

pub thread_at-requires : goal.thread_at-requires
thread_at-requires c =
    let some : 0 < c.args.share = share_some (thread_count c.args.shape.now) (length c.args.order.now) c.args.share c.loop-place.place c.requires.room c.loop-place-test.true in
    thread_below c.loop-place.place c.args.share (thread_count c.args.shape.now) some (omega arith)

pub bounds-seats-vertex : goal.bounds-seats-vertex
bounds-seats-vertex c = let b = all_below_at _ _ _ c.requires.once.below c.loop-place-test.true in omega (arith, c.loop-place.invariant.room)

pub loop-place-preserved : goal.loop-place-preserved
loop-place-preserved c = record {
  seats = written_as (length c.args.seats.now) c.args.order.now c.loop-place.seats (seat_at c.args.shape.now c.args.share) c.loop-place.place (record { thread = c.thread_at.result; device = c.loop-place.place % c.args.share })
      c.requires.once c.loop-place.invariant.room c.loop-place-test.true (ap (λ t. seat t (c.loop-place.place % c.args.share)) c.thread_at.ensures) c.loop-place.invariant.seats;
  room = length-set _ _ _ ∙ c.loop-place.invariant.room;
}
