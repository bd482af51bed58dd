use Rattle.std.proofs.Common.{rules}
use Rattle.tn_crew.proofs.Standing.{crew_begins}
use Rattle.tn_crew.proofs.crew.Crew.of.Goals as goal
use Rattle.tn_rows.specs.Events.{IsWorld}
use Rattle.tn_rows.specs.Stamped.{machine}

pub invariant_of-result : goal.invariant_of-result
invariant_of-result c =
    let world : IsWorld (machine c.shape.result.now c.into_parts.result.items) = search rules in
    rw c.in_ok-sites.ensures (crew_begins c.shape.result.now c.into_parts.result.items c.in_ok-parts.parts.items world c.in_ok-parts.ensures)
