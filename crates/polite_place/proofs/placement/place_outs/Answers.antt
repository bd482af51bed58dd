use Rattle.std.proofs.Common.{◌≡◌, ◌≤◌, ◌*◌, ap, length, arith, ◌∙◌}
use Rattle.tn_base.specs.Shape.{thread_count}
use Rattle.polite_place.specs.Seats.{share_of}
use Rattle.polite_place.proofs.Taking.{answered}
use Rattle.polite_place.proofs.placement.place_outs.Goals as goal

pub returns : goal.returns
returns c =
    let t : c.count_threads-threads.result ≡ thread_count c.args.shape.now = c.count_threads-threads.ensures.value in
    let s : c.share_of-share.result ≡ share_of c.args.shape.now (length c.args.outs.now) = c.share_of-share.ensures in
    let fits : length c.args.outs.now ≤ thread_count c.args.shape.now * c.args.per_thread = rw t at c.if-count-threads.false in
    answered c.args.shape.now c.args.per_thread c.args.outs.now c.as_slice.result.now c.take_seats.new.seats c.in_ok-list.list.items c.in_ok-list.list.len _ fits
    (c.as_slice.ensures.value ∙ c.in_ok-order.ensures.order) (rw c.as_slice.ensures.value c.in_ok-order.ensures.once) (ap length c.as_slice.ensures.value ∙ c.in_ok-order.ensures.count)
    s (omega arith) (omega (arith, c.as_mut_slice.ensures.len, c.in_ok-list.ensures.len)) (omega (arith, c.in_ok-list.ensures.len)) c.take_seats.ensures.seats
