use Rattle.std.proofs.Common.{◌-◌, subst, arith}
use Rattle.polite_routes.specs.Full.{Gives}
use Rattle.polite_routes.specs.Tree.{Planted}
use Rattle.polite_routes.proofs.Fullness.{stopped, stopped_count}
use Rattle.polite_routes.proofs.Growing.{column_full, column_is}
use Rattle.polite_routes.proofs.tree.+plant_column.Goals as goal

pub returns-in_err-key : goal.returns-in_err-key
returns-in_err-key t c = record {
  gives = stopped c.from_residual.result c.in_err-key.field-0.0 c.plant_column.new.draft c.plant_column.new.draft _ _ _ _ c.from_residual.ensures.1 c.in_err-key.ensures.gives
      (column_full c.args.shape.now c.args.spots.now c.args.dir c.args.most (c.args.most - 1) c.args.at c.neighbour-next.result c.in-Some.board c.args.draft.now (omega (arith, c.if-most-eq0.false)) c.in-Some.is c.neighbour-next.ensures.value);
  count = stopped_count c.from_residual.result c.in_err-key.field-0.0 c.plant_column.new.draft c.args.draft.now c.from_residual.ensures.1;
}

pub returns-clause-gives : goal.returns-clause-gives
returns-clause-gives t c =
    let whole = column_is c.args.shape.now c.args.spots.now c.args.dir c.args.most (c.args.most - 1) c.args.at c.neighbour-next.result c.in-Some.board c.args.draft.now c.plant_column.new.draft c.in_ok-key.key (omega (arith, c.if-most-eq0.false)) c.in-Some.is
    c.neighbour-next.ensures.value c.in_ok-key.ensures.gives.0 c.in_ok-key.ensures.gives.1 in
    subst (λ (p : Planted). Gives c.plant.result c.plant.new.draft p.tables p.key) whole c.plant.ensures.gives
