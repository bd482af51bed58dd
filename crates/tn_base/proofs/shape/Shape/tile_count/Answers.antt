use Rattle.tn_base.proofs.Products.{four_sides}
use Rattle.tn_base.proofs.shape.Shape.tile_count.Goals as goal

pub returns-clause-few : goal.returns-clause-few
returns-clause-few c =
    let l = c.numbers-n.ensures.limits in
    rw c.numbers-n.ensures.value (four_sides _ _ _ _ l.boards_x.1 l.boards_y.1 l.tiles_x.1 l.tiles_y.1)
