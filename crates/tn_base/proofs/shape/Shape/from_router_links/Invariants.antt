use Rattle.std.proofs.Common.{◌≡◌, get_or}
use Rattle.tn_base.specs.Parts.{router_links, board_count, from_router_links, from_host_links}
use Rattle.tn_base.specs.declared.part.Kind.TheVariants.{Detector}
use Rattle.tn_base.proofs.Listing.{rest_from}
use Rattle.tn_base.proofs.shape.Shape.from_router_links.Given as goal

abbrev pub invariant-loop-board : goal.invariant-loop-board
invariant-loop-board l =
    get_or (rest_from (router_links l.self) l.board (board_count l.self) (from_host_links l.self)) l.rest Detector ≡ get_or (from_router_links l.self) l.i Detector
