use Rattle.std.proofs.Common.{◌<◌, ◌≤◌, ap, sym, ◌∙◌, arith}
use Rattle.tn_base.specs.Parts.{board_count, board_at, from_tile_links}
use Rattle.tn_base.specs.declared.part.Kind.TheVariants.{Router, Detector}
use Rattle.tn_base.proofs.Listing.{front_at, behind_at}
use Rattle.tn_base.proofs.shape.Shape.from_routers.Goals as goal

pub returns-then-i-count : goal.returns-then-i-count
returns-then-i-count c =
    let h : c.args.i < board_count c.args.self.now = omega arith in
    ap Router c.board_at.ensures ∙ sym (front_at (λ i. Router (board_at c.args.self.now i)) (board_count c.args.self.now) c.args.i (from_tile_links c.args.self.now) Detector h)

pub returns-else-i-count : goal.returns-else-i-count
returns-else-i-count c =
    let h : board_count c.args.self.now ≤ c.args.i = omega arith in
    rw c.board_count-count.ensures.value at c.from_tile_links.ensures
    ∙ sym (behind_at (λ i. Router (board_at c.args.self.now i)) (board_count c.args.self.now) c.args.i (from_tile_links c.args.self.now) Detector h)
