use Rattle.job_faults.proofs.Maps.{places_on}
use Rattle.job_faults.proofs.mapping.placed_on.Goals as goal

pub returns : goal.returns
returns c = places_on c.place.result c.args.shape.now c.args.graph.now c.place.ensures.answer
