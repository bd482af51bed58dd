use Rattle.tn_base.proofs.TilePlaces.{place_back, place_below, place_named, place_there}
use Rattle.tn_base.proofs.laws.law_tile_threads.Goals as goal

pub returns-clause-below : goal.returns-clause-below
returns-clause-below c = λ a h. place_below c.args.shape.now a h

pub returns-clause-named : goal.returns-clause-named
returns-clause-named c = λ a h. place_named c.args.shape.now a h

pub returns-clause-there : goal.returns-clause-there
returns-clause-there c = λ tile k h j. place_there c.args.shape.now tile k c.numbers-numbers.ensures.limits h j

pub returns-clause-placed : goal.returns-clause-placed
returns-clause-placed c = λ tile k h j. place_back c.args.shape.now tile k c.numbers-numbers.ensures.limits h j
