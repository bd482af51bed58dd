use Rattle.std.proofs.Common.{◌∙◌, ◌<◌, ◌≤◌, ap, arith, length, List, sym}
use Rattle.tn_follow.proofs.Taking.{passed_all, passed_more, taken_here}
use Rattle.tn_follow.specs.Follow.{same_spot}
use Rattle.tn_follow.specs.declared.spots.Spot.{Spot}
use Rattle.tn_follow.proofs.spots.take_out.Goals as goal

pub returns-then-same_spot : goal.returns-then-same_spot
returns-then-same_spot c =
    let less : c.loop-place.place < length c.loop-place.spots.items = omega (arith, c.loop-place-test.true, c.len-place-end.ensures, ap (λ (xs : List Spot). length xs) c.loop-place.invariant.same) in
    rw c.remove.ensures.items
    (taken_here c.args.spot c.loop-place.place c.loop-place.spots.items c.args.spots.now.items c.index.result.now c.loop-place.invariant less
    (ap (same_spot c.args.spot) (sym c.index.ensures) ∙ (sym c.same_spot.ensures ∙ c.if-same_spot.true)))

pub loop-place-preserved : goal.loop-place-preserved
loop-place-preserved c =
    let less : c.loop-place.place < length c.loop-place.spots.items = omega (arith, c.loop-place-test.true, c.len-place-end.ensures, ap (λ (xs : List Spot). length xs) c.loop-place.invariant.same) in
    passed_more c.args.spot c.loop-place.place c.loop-place.spots.items c.args.spots.now.items c.index.result.now c.loop-place.invariant less
    (ap (same_spot c.args.spot) (sym c.index.ensures) ∙ (sym c.same_spot.ensures ∙ c.if-same_spot.false))

pub returns : goal.returns
returns c =
    let all : length c.loop-place.spots.items ≤ c.loop-place.place = omega (arith, c.loop-place-test.false, c.len-place-end.ensures, ap (λ (xs : List Spot). length xs) c.loop-place.invariant.same) in
    passed_all c.args.spot c.loop-place.place c.loop-place.spots.items c.args.spots.now.items c.loop-place.invariant all
