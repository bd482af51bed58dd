use Rattle.std.proofs.Common.{◌≡◌, get_or}
use Rattle.tn_base.specs.Parts.{tile_links, tile_count, from_tile_links, from_router_links}
use Rattle.tn_base.specs.declared.part.Kind.TheVariants.{Detector}
use Rattle.tn_base.proofs.Listing.{rest_from}
use Rattle.tn_base.proofs.shape.Shape.from_tile_links.Given as goal

abbrev pub invariant-loop-tile : goal.invariant-loop-tile
invariant-loop-tile l =
    get_or (rest_from (tile_links l.self) l.tile (tile_count l.self) (from_router_links l.self)) l.rest Detector ≡ get_or (from_tile_links l.self) l.i Detector
