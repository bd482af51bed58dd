use Rattle.std.proofs.Common.{◌/◌, ◌∙◌, ap, arith, get_or, length-set, refl}
use Rattle.std.proofs.lemmas.List.{take_all}
use Rattle.polite_routes.specs.declared.target.Spot.{Spot}
use Rattle.polite_routes.specs.Targets.{count_in, spot, spot_for}
use Rattle.polite_routes.proofs.Marking.{no_target}
use Rattle.polite_routes.proofs.Spotting.{all_marked, marked}
use Rattle.polite_routes.proofs.spots.mark.Goals as goal

pub loop-target-preserved : goal.loop-target-preserved
loop-target-preserved c =
    let ts = c.args.targets.now in
    let m = c.loop-target.target-index in
    let t = get_or ts m no_target in
    let ss = c.loop-target.spots in
    let f = count_in c.args.counts.now in
    let new : Spot = spot c.with_thread.result (f (t.thread.0 / 64)) in
    record {
      room = length-set ss (t.thread.0 / 64) new ∙ c.loop-target.invariant.room;
      marked_so = λ i h. marked ts m t f ss new i c.loop-target-test.true refl c.loop-target.invariant.room h (c.loop-target.invariant.marked_so i h)
          (ap (λ x. spot x (f (t.thread.0 / 64))) c.with_thread.ensures);
    }

pub returns : goal.returns
returns c =
    let all = take_all c.loop-target.target-index c.args.targets.now (omega (arith, c.loop-target-test.false)) in
    all_marked c.args.targets.now (count_in c.args.counts.now) c.loop-target.spots c.loop-target.invariant.room
    (λ i h. c.loop-target.invariant.marked_so i h ∙ ap (λ ts. spot_for ts (count_in c.args.counts.now) i) all)
