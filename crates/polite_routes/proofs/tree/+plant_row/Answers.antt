use Rattle.std.proofs.Common.{◌-◌, subst, arith}
use Rattle.polite_routes.specs.Full.{Gives}
use Rattle.polite_routes.specs.Tree.{Planted}
use Rattle.polite_routes.proofs.Fullness.{stopped, stopped_count}
use Rattle.polite_routes.proofs.Growing.{row_full_1, row_full_2, row_full_3, row_is}
use Rattle.polite_routes.proofs.tree.+plant_row.Goals as goal

pub returns-in_err-ahead : goal.returns-in_err-ahead
returns-in_err-ahead t c = record {
  gives = stopped c.from_residual.result c.in_err-ahead.field-0.0 c.plant_row.new.draft c.plant_row.new.draft _ _ _ _ c.from_residual.ensures.1 c.in_err-ahead.ensures.gives
      (row_full_1 c.args.shape.now c.args.spots.now c.args.dir c.args.most (c.args.most - 1) c.args.at c.neighbour-next.result c.in-Some.board c.args.draft.now (omega (arith, c.if-most-eq0.false)) c.in-Some.is c.neighbour-next.ensures.value);
  count = stopped_count c.from_residual.result c.in_err-ahead.field-0.0 c.plant_row.new.draft c.args.draft.now c.from_residual.ensures.1;
}

pub returns-in_err-below : goal.returns-in_err-below
returns-in_err-below t c = record {
  gives = stopped c.from_residual-in_err-below.result c.in_err-below.field-0.0 c.plant_column.new.draft c.plant_column.new.draft _ _ _ _ c.from_residual-in_err-below.ensures.1 (rw c.numbers-n.ensures.value at c.in_err-below.ensures.gives)
      (row_full_2 c.args.shape.now c.args.spots.now c.args.dir c.args.most (c.args.most - 1) c.args.at c.neighbour-next.result c.neighbour-south.result c.in-Some.board c.args.draft.now c.plant_row.new.draft (omega (arith, c.if-most-eq0.false)) c.in-Some.is c.neighbour-next.ensures.value c.neighbour-south.ensures.value c.in_ok-ahead.ensures.gives.1);
  count = stopped_count c.from_residual-in_err-below.result c.in_err-below.field-0.0 c.plant_column.new.draft c.args.draft.now c.from_residual-in_err-below.ensures.1;
}

pub returns-in_err-above : goal.returns-in_err-above
returns-in_err-above t c = record {
  gives = stopped c.from_residual-in_err-above.result c.in_err-above.field-0.0 c.plant_column-2.new.draft c.plant_column-2.new.draft _ _ _ _ c.from_residual-in_err-above.ensures.1 (rw c.numbers-n.ensures.value at c.in_err-above.ensures.gives)
      (row_full_3 c.args.shape.now c.args.spots.now c.args.dir c.args.most (c.args.most - 1) c.args.at c.neighbour-next.result c.neighbour-south.result c.neighbour-north.result c.in-Some.board c.args.draft.now c.plant_row.new.draft c.plant_column.new.draft (omega (arith, c.if-most-eq0.false)) c.in-Some.is c.neighbour-next.ensures.value c.neighbour-south.ensures.value c.neighbour-north.ensures.value c.in_ok-ahead.ensures.gives.1 (rw c.numbers-n.ensures.value at c.in_ok-below.ensures.gives.1));
  count = stopped_count c.from_residual-in_err-above.result c.in_err-above.field-0.0 c.plant_column-2.new.draft c.args.draft.now c.from_residual-in_err-above.ensures.1;
}

pub returns-clause-gives : goal.returns-clause-gives
returns-clause-gives t c =
    let whole = row_is c.args.shape.now c.args.spots.now c.args.dir c.args.most (c.args.most - 1) c.args.at c.neighbour-next.result c.neighbour-south.result c.neighbour-north.result c.in-Some.board c.args.draft.now c.plant_row.new.draft c.plant_column.new.draft c.plant_column-2.new.draft
    c.in_ok-ahead.ahead c.in_ok-below.below c.in_ok-above.above (omega (arith, c.if-most-eq0.false)) c.in-Some.is c.neighbour-next.ensures.value c.neighbour-south.ensures.value c.neighbour-north.ensures.value
    c.in_ok-ahead.ensures.gives.0 c.in_ok-ahead.ensures.gives.1 (rw c.numbers-n.ensures.value at c.in_ok-below.ensures.gives.0) (rw c.numbers-n.ensures.value at c.in_ok-below.ensures.gives.1) (rw c.numbers-n.ensures.value at c.in_ok-above.ensures.gives.0) (rw c.numbers-n.ensures.value at c.in_ok-above.ensures.gives.1) in
    subst (λ (p : Planted). Gives c.plant.result c.plant.new.draft p.tables p.key) whole c.plant.ensures.gives
