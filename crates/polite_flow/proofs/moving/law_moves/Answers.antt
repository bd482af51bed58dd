use Rattle.polite_flow.proofs.Arrived.{router_links_move, tile_links_move}
use Rattle.polite_flow.proofs.Delivered.{pending_moves}
use Rattle.polite_flow.proofs.Departed.{routers_depart_to, tiles_depart_to}
use Rattle.polite_flow.proofs.RoutedOn.{routers_route}
use Rattle.polite_flow.proofs.moving.law_moves.Goals as goal

pub returns-clause-pending : goal.returns-clause-pending
returns-clause-pending c = pending_moves

pub returns-clause-tiles_depart : goal.returns-clause-tiles_depart
returns-clause-tiles_depart c = tiles_depart_to

pub returns-clause-routers_depart : goal.returns-clause-routers_depart
returns-clause-routers_depart c = routers_depart_to

pub returns-clause-route : goal.returns-clause-route
returns-clause-route c = routers_route

pub returns-clause-tile_links : goal.returns-clause-tile_links
returns-clause-tile_links c = tile_links_move

pub returns-clause-router_links : goal.returns-clause-router_links
returns-clause-router_links c = router_links_move
