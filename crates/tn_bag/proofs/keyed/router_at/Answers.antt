use Rattle.std.proofs.Common.{rules}
use Rattle.tn_bag.proofs.Copying.{found_read, past_read}
use Rattle.tn_bag.proofs.keyed.router_at.Goals as goal

pub returns-then-place-board_count : goal.returns-then-place-board_count
returns-then-place-board_count g c =
    past_read c.args.world.now c.args.board c.numbers-numbers.result c.shape-shape.result.now c.board_count.result c.shape-shape.ensures c.numbers-numbers.ensures.value c.board_count.ensures.value (search rules)

pub returns : goal.returns
returns g c =
    found_read c.args.world.now c.args.board c.numbers-numbers.result c.shape-shape.result.now c.visited.result c.board_count.result c.router_of.result c.shape-shape.ensures c.numbers-numbers.ensures.value c.visited.ensures.value c.board_count.ensures.value (search rules) (search rules)
