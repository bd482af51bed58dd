use Rattle.tn_base.proofs.TilePlaces.{tile_found, tile_kind, tile_placed}
use Rattle.tn_base.proofs.laws.law_tile_parts.Goals as goal

pub returns-clause-kind : goal.returns-clause-kind
returns-clause-kind c = λ i h. tile_kind c.args.shape.now i h

pub returns-clause-below : goal.returns-clause-below
returns-clause-below c = λ a h. (tile_found c.args.shape.now a c.numbers-numbers.ensures.limits h).0

pub returns-clause-named : goal.returns-clause-named
returns-clause-named c = λ a h. (tile_found c.args.shape.now a c.numbers-numbers.ensures.limits h).1

pub returns-clause-placed : goal.returns-clause-placed
returns-clause-placed c = λ i h. tile_placed c.args.shape.now i c.numbers-numbers.ensures.limits h
