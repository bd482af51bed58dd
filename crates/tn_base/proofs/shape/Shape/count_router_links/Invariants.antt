use Rattle.std.proofs.Common.{◌≡◌, ◌≤◌, ◌+◌, ◌*◌, length}
use Rattle.tn_base.specs.Parts.{router_links, board_count, all_router_links}
use Rattle.tn_base.proofs.Listing.{length_from}
use Rattle.tn_base.proofs.shape.Shape.count_router_links.Given as goal

abbrev pub invariant-loop-board : goal.invariant-loop-board
invariant-loop-board l = record {
  counted : l.count + length_from (router_links l.self) l.board (board_count l.self) ≡ length (all_router_links l.self);
  few : l.count ≤ 5 * l.board;
}
