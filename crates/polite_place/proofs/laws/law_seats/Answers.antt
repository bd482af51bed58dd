use Rattle.std.proofs.Common.{length}
use Rattle.polite_place.proofs.Devices.{devices_listed, numbered}
use Rattle.polite_place.proofs.Gathering.{joins, length_outs, outs_below}
use Rattle.polite_place.proofs.Firsts.{once_bfs}
use Rattle.polite_place.proofs.Rosters.{lists}
use Rattle.polite_place.proofs.Seating.{length_seats, seated}
use Rattle.polite_place.proofs.Shares.{some_threads}
use Rattle.polite_place.proofs.laws.law_seats.Goals as goal

pub returns-clause-once : goal.returns-clause-once
returns-clause-once c = λ outs a. once_bfs outs a

pub returns-clause-count : goal.returns-clause-count
returns-clause-count c = λ outs. length_seats c.args.shape.now outs

pub returns-clause-seated : goal.returns-clause-seated
returns-clause-seated c = λ outs per a room.
    seated c.args.shape.now outs per (record { some = some_threads c.args.shape.now c.numbers-numbers.ensures.limits; listed = c.law_threads.ensures.listed; ascending = c.law_threads.ensures.ascending }) a room

pub returns-clause-vertices : goal.returns-clause-vertices
returns-clause-vertices c = λ g. length_outs (length g.vertices) g.edges

pub returns-clause-edges : goal.returns-clause-edges
returns-clause-edges c = λ g h. outs_below (length g.vertices) g.edges (joins g h)

pub returns-clause-numbered : goal.returns-clause-numbered
returns-clause-numbered c = λ outs per a room.
    numbered c.args.shape.now outs per (record { some = some_threads c.args.shape.now c.numbers-numbers.ensures.limits; listed = c.law_threads.ensures.listed; ascending = c.law_threads.ensures.ascending }) a room

pub returns-clause-listed : goal.returns-clause-listed
returns-clause-listed c = λ outs i a h.
    devices_listed c.args.shape.now outs i (lists c.args.shape.now outs (record { some = some_threads c.args.shape.now c.numbers-numbers.ensures.limits; listed = c.law_threads.ensures.listed; ascending = c.law_threads.ensures.ascending }) a) h
