use Rattle.std.proofs.Common.{◌≡◌, replicate}
use Rattle.tn_detect.specs.Told.{untold}
use Rattle.tn_detect.proofs.Summed.{shown_start, summed_start}
use Rattle.tn_detect.proofs.reports.Reports.none.Goals as goal

pub invariant_of-result : goal.invariant_of-result
invariant_of-result c =
    let e : c.in_ok-told.told.items ≡ replicate c.args.parts untold = c.in_ok-told.ensures.items_if_clones_equal (λ y e. e) in
    summed_start c.args.parts c.in_ok-told.told.items e c.ranges.parts.fits

pub returns : goal.returns
returns c =
    let e : c.in_ok-told.told.items ≡ replicate c.args.parts untold = c.in_ok-told.ensures.items_if_clones_equal (λ y e. e) in
    shown_start c.args.parts c.in_ok-told.told.items e
