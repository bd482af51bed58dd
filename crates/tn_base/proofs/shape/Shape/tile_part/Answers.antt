use Rattle.std.proofs.Common.{arith, ◌/◌}
use Rattle.tn_base.proofs.TilePlaces.{small_place}
use Rattle.tn_base.proofs.shape.Shape.tile_part.Goals as goal

pub overflow_add-result : goal.overflow_add-result
overflow_add-result c =
    let l = c.numbers-n.ensures.limits in
    let t = c.args.tile.0 in
    rw c.numbers-n.ensures.value (omega (arith, small_place (t / 4096) (t / 1024) (t / 256) (t / 64) _ _ _ l.boards_x.1 l.tiles_y.1 l.tiles_x.1))

pub overflow_add-result-2 : goal.overflow_add-result-2
overflow_add-result-2 c =
    let l = c.numbers-n.ensures.limits in
    let t = c.args.tile.0 in
    rw c.numbers-n.ensures.value (omega (arith, small_place (t / 4096) (t / 1024) (t / 256) (t / 64) _ _ _ l.boards_x.1 l.tiles_y.1 l.tiles_x.1))
