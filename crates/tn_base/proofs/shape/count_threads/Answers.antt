use Rattle.std.proofs.Common.{arith}
use Rattle.tn_base.proofs.Products.{four_sides, five_sides, six_sides}
use Rattle.tn_base.proofs.shape.count_threads.Goals as goal

pub overflow_mul-result-3 : goal.overflow_mul-result-3
overflow_mul-result-3 c =
    let r = c.requires in
    omega (arith, four_sides _ _ _ _ r.boards_x r.boards_y r.tiles_x r.tiles_y)

pub overflow_mul-result-4 : goal.overflow_mul-result-4
overflow_mul-result-4 c =
    let r = c.requires in
    omega (arith, five_sides _ _ _ _ _ r.boards_x r.boards_y r.tiles_x r.tiles_y r.cores)

pub overflow_mul-result-5 : goal.overflow_mul-result-5
overflow_mul-result-5 c =
    let r = c.requires in
    omega (arith, six_sides _ _ _ _ _ _ r.boards_x r.boards_y r.tiles_x r.tiles_y r.cores r.threads)

pub returns-clause-small : goal.returns-clause-small
returns-clause-small c =
    let r = c.requires in
    six_sides _ _ _ _ _ _ r.boards_x r.boards_y r.tiles_x r.tiles_y r.cores r.threads
