use Rattle.polite_place.proofs.Rosters.{lists}
use Rattle.polite_place.proofs.Shares.{some_threads}
use Rattle.polite_place.proofs.laws.law_roster.Goals as goal

pub returns : goal.returns
returns c = λ outs a.
    lists c.args.shape.now outs (record { some = some_threads c.args.shape.now c.numbers-numbers.ensures.limits; listed = c.law_threads.ensures.listed; ascending = c.law_threads.ensures.ascending }) a
