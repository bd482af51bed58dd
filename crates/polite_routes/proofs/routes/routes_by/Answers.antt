use Rattle.std.proofs.Common.{ap, arith, length}
use Rattle.polite_routes.specs.declared.planting.Planting.{Planting}
use Rattle.polite_routes.proofs.Serving.{planted_is, tables_few}
use Rattle.polite_routes.proofs.routes.routes_by.Goals as goal

pub into_tables-requires-clause-boards : goal.into_tables-requires-clause-boards
into_tables-requires-clause-boards c =
    let p = ap (λ (q : Planting). length q.tables) (planted_is c.args.shape.now c.args.pins.now c.in_ok-planting.planting c.in_ok-planting.ensures) in
    let f = tables_few c.args.shape.now c.args.pins.now c.numbers-numbers.ensures.limits c.requires.there in
    omega arith
