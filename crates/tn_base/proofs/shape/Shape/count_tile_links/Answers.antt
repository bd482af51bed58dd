use Rattle.std.proofs.Common.{◌<◌, sym, arith}
use Rattle.tn_base.proofs.TileLinks.{all_tile_links_long, board_links, some_board_tiles}
use Rattle.tn_base.proofs.shape.Shape.count_tile_links.Goals as goal

pub returns-clause-value : goal.returns-clause-value
returns-clause-value c =
    let n = c.args.self.now in
    let some : 0 < board_links n = omega arith in
    rw (c.board_count.ensures.value, c.board_links.ensures.value) (sym (all_tile_links_long n (some_board_tiles n some)))
