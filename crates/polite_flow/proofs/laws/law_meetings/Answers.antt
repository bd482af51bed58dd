use Rattle.polite_flow.proofs.Meetings.{routers_arrive, routers_depart, tiles_arrive, tiles_depart}
use Rattle.polite_flow.proofs.laws.law_meetings.Goals as goal

pub returns-clause-tile_departs : goal.returns-clause-tile_departs
returns-clause-tile_departs c = tiles_depart

pub returns-clause-router_departs : goal.returns-clause-router_departs
returns-clause-router_departs c = routers_depart

pub returns-clause-tile_arrives : goal.returns-clause-tile_arrives
returns-clause-tile_arrives c = tiles_arrive

pub returns-clause-router_arrives : goal.returns-clause-router_arrives
returns-clause-router_arrives c = routers_arrive
