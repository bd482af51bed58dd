use Rattle.job_faults.proofs.Maps.{places_off, routes_on, tables_long}
use Rattle.job_faults.proofs.mapping.routed_on.Goals as goal

pub routes-requires-clause-placement : goal.routes-requires-clause-placement
routes-requires-clause-placement c = places_off c.args.placement.now c.args.shape.now c.args.graph.now c.requires.placement

pub returns-clause-routes : goal.returns-clause-routes
returns-clause-routes c = routes_on c.routes.result c.args.shape.now c.args.graph.now c.args.placement.now c.routes.ensures.answer

pub returns-clause-boards : goal.returns-clause-boards
returns-clause-boards c = tables_long c.routes.result c.args.shape.now c.routes.ensures.passes
