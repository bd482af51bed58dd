use Rattle.tn_base.proofs.TilePlaces.{place_there}
use Rattle.tn_base.proofs.shape.Shape.thread_in_tile.Goals as goal

pub returns-clause-there : goal.returns-clause-there
returns-clause-there c =
    let l = c.numbers-n.ensures.limits in
    rw c.numbers-n.ensures.value (place_there c.args.self.now c.args.tile.0 c.args.place l c.requires.tile c.requires.place)
