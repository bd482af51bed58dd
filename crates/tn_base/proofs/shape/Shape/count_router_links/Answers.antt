use Rattle.std.proofs.Common.{◌<◌, arith}
use Rattle.tn_base.specs.Parts.{router_links, board_count}
use Rattle.tn_base.proofs.Listing.{length_first}
use Rattle.tn_base.proofs.shape.Shape.count_router_links.Goals as goal

pub loop-board-preserved : goal.loop-board-preserved
loop-board-preserved c =
    let n = c.args.self.now in
    let h : c.loop-board.board < board_count n = omega arith in
    record {
      counted = omega (arith, length_first (router_links n) c.loop-board.board (board_count n) h);
      few = omega arith;
    }
