use Rattle.std.proofs.Common.{◌≤◌, length, arith}
use Rattle.std.proofs.lemmas.List.{take_all}
use Rattle.std.proofs.lemmas.List.Elements.{All-more}
use Rattle.tn_crew.proofs.crew.law_fits.Goals as goal
use Rattle.tn_stamped.specs.Placed.{FitsHere}

pub loop-part-preserved : goal.loop-part-preserved
loop-part-preserved c =
    All-more FitsHere c.args.parts.now c.loop-part.part-index c.part-item.result (omega arith) c.loop-part.invariant
    (rw (← c.part-item.is) c.stamped-stamped.ensures.fits)

pub returns : goal.returns
returns c =
    let long : length c.args.parts.now ≤ c.loop-part.part-index = omega arith in
    rw (take_all c.loop-part.part-index c.args.parts.now long) at c.loop-part.invariant
