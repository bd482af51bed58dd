use Rattle.std.proofs.Common.{◌≡◌, ◌≤◌, ◌+◌, ◌*◌}
use Rattle.tn_base.specs.Parts.{board_tiles, tile_links}
use Rattle.tn_base.proofs.Listing.{length_from}
use Rattle.tn_base.proofs.TileLinks.{board_links}
use Rattle.tn_base.proofs.shape.Shape.board_links.Given as goal

abbrev pub invariant-loop-tile : goal.invariant-loop-tile
invariant-loop-tile l = record {
  counted : l.count + length_from (tile_links l.self) l.tile (board_tiles l.self) ≡ board_links l.self;
  few : l.count ≤ 5 * l.tile;
}
