use Rattle.std.proofs.Common.{◌<◌, ◌≤◌, ◌-◌, ◌+◌, length, get_or, ap, sym, ◌∙◌, arith}
use Rattle.tn_base.specs.Parts.{router_links, board_count, from_host_links}
use Rattle.tn_base.specs.declared.part.Kind.TheVariants.{Detector}
use Rattle.tn_base.proofs.Listing.{rest_from, rest_here, rest_behind, rest_done}
use Rattle.tn_base.proofs.shape.Shape.from_router_links.Goals as goal

pub returns-then-rest-count : goal.returns-then-rest-count
returns-then-rest-count c =
    let n = c.args.self.now in
    let h : c.loop-board.board < board_count n = omega arith in
    let within : c.loop-board.rest < length (router_links n c.loop-board.board) = omega arith in
    c.get.ensures
    ∙ ap (λ links. get_or links c.loop-board.rest Detector) c.router_links.ensures
    ∙ sym (rest_here (router_links n) c.loop-board.board (board_count n) c.loop-board.rest (from_host_links n) Detector h within)
    ∙ c.loop-board.invariant

pub loop-board-preserved : goal.loop-board-preserved
loop-board-preserved c =
    let n = c.args.self.now in
    let h : c.loop-board.board < board_count n = omega arith in
    let past : length (router_links n c.loop-board.board) ≤ c.loop-board.rest = omega arith in
    ap (λ k. get_or (rest_from (router_links n) (c.loop-board.board + 1) (board_count n) (from_host_links n)) (c.loop-board.rest - k) Detector) c.count_links_of_router-count.ensures.value
    ∙ sym (rest_behind (router_links n) c.loop-board.board (board_count n) c.loop-board.rest (from_host_links n) Detector h past)
    ∙ c.loop-board.invariant

pub returns : goal.returns
returns c =
    let n = c.args.self.now in
    let h : board_count n ≤ c.loop-board.board = omega arith in
    c.from_host_links.ensures
    ∙ ap (λ links. get_or links c.loop-board.rest Detector) (sym (rest_done (router_links n) c.loop-board.board (board_count n) (from_host_links n) h))
    ∙ c.loop-board.invariant
