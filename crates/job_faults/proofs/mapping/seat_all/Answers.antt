use Rattle.job_faults.proofs.Maps.{places_off}
use Rattle.job_faults.proofs.Rooms.{low_seats}
use Rattle.job_faults.proofs.mapping.seat_all.Goals as goal

pub law_served-requires-clause-placement : goal.law_served-requires-clause-placement
law_served-requires-clause-placement c = places_off c.args.placement.now c.args.shape.now c.args.graph.now c.requires.placement

pub returns-clause-low : goal.returns-clause-low
returns-clause-low c = low_seats c.args.shape.now _ c.args.placement.now c.law_served.ensures.seated
