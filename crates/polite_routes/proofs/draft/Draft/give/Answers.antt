use Rattle.std.proofs.Common.{arith}
use Rattle.polite_routes.proofs.Fullness.{gives, kept_count, table_now}
use Rattle.polite_routes.proofs.draft.Draft.give.Goals as goal

pub returns-clause-gives : goal.returns-clause-gives
returns-clause-gives c = gives c.args.shape.now c.args.board c.args.records.now c.args.self.now c.self.inside.boards.items c.board_place-place.result c.index_mut.result.now c.give.new.self c.give.result c.self.view_is c.board_place-place.ensures.value
    (omega (arith, c.requires.boards, c.board_place-place.ensures.there))
    (table_now c.args.self.now c.self.inside.boards.items c.board_place-place.result c.index_mut.result.now c.self.view_is (omega (arith, c.requires.boards, c.board_place-place.ensures.there)) c.index_mut.ensures.value) c.requires.short c.give.ensures

pub returns-clause-count : goal.returns-clause-count
returns-clause-count c = kept_count c.args.self.now c.self.inside.boards.items c.board_place-place.result c.give.new.self c.give.result c.self.view_is
