use Rattle.std.proofs.Common.{◌≤◌, length, arith}
use Rattle.std.proofs.lemmas.List.{take_all}
use Rattle.std.proofs.lemmas.List.Elements.{All-more}
use Rattle.tn_stamped.proofs.Closing.{closed}
use Rattle.tn_stamped.specs.Placed.{StandsHere}
use Rattle.tn_stamped.proofs.laws.law_placed.Goals as goal

pub loop-part-preserved : goal.loop-part-preserved
loop-part-preserved g c =
    All-more StandsHere c.args.parts.now c.loop-part.part-index c.part-item.result (omega arith) c.loop-part.invariant
    (rw (← c.part-item.is) c.stamped-stamped.ensures.here)

pub returns : goal.returns
returns g c =
    let long : length c.args.parts.now ≤ c.loop-part.part-index = omega arith in
    closed c.args.shape.now c.args.parts.now (rw (take_all c.loop-part.part-index c.args.parts.now long) at c.loop-part.invariant)
