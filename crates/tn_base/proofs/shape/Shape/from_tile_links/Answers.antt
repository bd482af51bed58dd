use Rattle.std.proofs.Common.{◌<◌, ◌≤◌, ◌-◌, ◌+◌, ◌*◌, ◌/◌, length, get_or, ap, sym, ◌∙◌, arith}
use Rattle.std.proofs.Math.Nat.{div-mul-le_self, mul-le-mul_right}
use Rattle.tn_base.specs.Parts.{board_count, board_tiles, tile_links, tile_count, from_router_links}
use Rattle.tn_base.specs.declared.part.Kind.TheVariants.{Detector}
use Rattle.tn_base.proofs.Listing.{rest_from, rest_here, rest_behind, rest_done}
use Rattle.tn_base.proofs.TileLinks.{behind_boards, board_links}
use Rattle.tn_base.proofs.shape.Shape.from_tile_links.Goals as goal

pub loop-tile-init : goal.loop-tile-init
loop-tile-init c =
    let n = c.args.self.now in
    let some : 0 < board_tiles n = omega arith in
    let board : c.min-board.result ≤ board_count n = omega arith in
    let whole : c.args.i / board_links n * board_links n ≤ c.args.i = div-mul-le_self c.args.i (board_links n) in
    let few : c.min-board.result ≤ c.args.i / board_links n = rw (← c.board_links-board_links.ensures.value) (omega arith) in
    let less : c.min-board.result * board_links n ≤ c.args.i / board_links n * board_links n = mul-le-mul_right (board_links n) few in
    rw (c.board_links-board_links.ensures.value, c.board_tiles.ensures.value) (behind_boards n c.min-board.result c.args.i some board (omega arith))

pub returns-then-rest-count : goal.returns-then-rest-count
returns-then-rest-count c =
    let n = c.args.self.now in
    let h : c.loop-tile.tile < tile_count n = omega arith in
    let within : c.loop-tile.rest < length (tile_links n c.loop-tile.tile) = omega arith in
    c.get.ensures
    ∙ ap (λ links. get_or links c.loop-tile.rest Detector) c.tile_links.ensures
    ∙ sym (rest_here (tile_links n) c.loop-tile.tile (tile_count n) c.loop-tile.rest (from_router_links n) Detector h within)
    ∙ c.loop-tile.invariant

pub loop-tile-preserved : goal.loop-tile-preserved
loop-tile-preserved c =
    let n = c.args.self.now in
    let h : c.loop-tile.tile < tile_count n = omega arith in
    let past : length (tile_links n c.loop-tile.tile) ≤ c.loop-tile.rest = omega arith in
    ap (λ k. get_or (rest_from (tile_links n) (c.loop-tile.tile + 1) (tile_count n) (from_router_links n)) (c.loop-tile.rest - k) Detector) c.count_links_of_tile-count.ensures.value
    ∙ sym (rest_behind (tile_links n) c.loop-tile.tile (tile_count n) c.loop-tile.rest (from_router_links n) Detector h past)
    ∙ c.loop-tile.invariant

pub returns : goal.returns
returns c =
    let n = c.args.self.now in
    let h : tile_count n ≤ c.loop-tile.tile = omega arith in
    c.from_router_links.ensures
    ∙ ap (λ links. get_or links c.loop-tile.rest Detector) (sym (rest_done (tile_links n) c.loop-tile.tile (tile_count n) (from_router_links n) h))
    ∙ c.loop-tile.invariant
