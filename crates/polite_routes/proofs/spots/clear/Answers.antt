use Rattle.std.proofs.Common.{◌∙◌, ap, arith, cond, length, refl}
use Rattle.std.proofs.lemmas.List.{take_all}
use Rattle.polite_routes.specs.Targets.{count_in, mask_of, one_more, reaches, spot, spot_at, spot_for}
use Rattle.polite_routes.proofs.Marks.{length_spots, spot_is}
use Rattle.polite_routes.proofs.Spotting.{all_cleared, all_counted}
use Rattle.polite_routes.proofs.spots.clear.Goals as goal

pub loop-target-init : goal.loop-target-init
loop-target-init c =
    let f = count_in c.args.counts.now in
    record {
      room = ap length c.requires.marked ∙ length_spots c.args.targets.now f;
      rest = λ i h. ap (λ xs. spot_at xs i) c.requires.marked ∙ spot_is c.args.targets.now f i h;
      counted = λ i h. refl;
    }

pub returns-clause-blank : goal.returns-clause-blank
returns-clause-blank c =
    let f = count_in c.args.counts.now in
    let all = take_all c.loop-target.target-index c.args.targets.now (omega (arith, c.loop-target-test.false)) in
    all_cleared c.args.targets.now f c.loop-target.spots c.loop-target.invariant.room
    (λ i h. c.loop-target.invariant.rest i h ∙ ap (λ ts. cond (reaches ts i) (spot 0 0) (spot_for c.args.targets.now f i)) all)

pub returns-clause-counts : goal.returns-clause-counts
returns-clause-counts c =
    let f = count_in c.args.counts.now in
    let all = take_all c.loop-target.target-index c.args.targets.now (omega (arith, c.loop-target-test.false)) in
    λ i h. all_counted c.args.targets.now i (f i) (count_in c.loop-target.counts i)
    (c.loop-target.invariant.counted i h ∙ ap (λ ts. cond (reaches ts i) (one_more (mask_of c.args.targets.now i) (f i)) (f i)) all)
