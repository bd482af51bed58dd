use Rattle.tn_base.proofs.TilePlaces.{place_below}
use Rattle.tn_base.proofs.shape.Shape.place_in_tile.Goals as goal

pub returns-clause-below : goal.returns-clause-below
returns-clause-below c = rw c.numbers-n.ensures.value (place_below c.args.self.now c.args.t.0)
