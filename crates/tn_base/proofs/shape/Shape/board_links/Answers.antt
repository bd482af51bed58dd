use Rattle.std.proofs.Common.{◌≡◌, ◌<◌, arith}
use Rattle.tn_base.specs.Parts.{board_tiles, tile_links}
use Rattle.tn_base.proofs.Listing.{length_done, length_first, length_from}
use Rattle.tn_base.proofs.TileLinks.{some_board_links}
use Rattle.tn_base.proofs.shape.Shape.board_links.Goals as goal

pub loop-tile-preserved : goal.loop-tile-preserved
loop-tile-preserved c =
    let n = c.args.self.now in
    let h : c.loop-tile.tile < board_tiles n = omega arith in
    record {
      counted = omega (arith, length_first (tile_links n) c.loop-tile.tile (board_tiles n) h);
      few = omega arith;
    }

pub returns-clause-some : goal.returns-clause-some
returns-clause-some c =
    let n = c.args.self.now in
    let done : length_from (tile_links n) c.loop-tile.tile (board_tiles n) ≡ 0 = length_done (tile_links n) c.loop-tile.tile (board_tiles n) (omega arith) in
    omega (arith, done, some_board_links n (omega arith))
