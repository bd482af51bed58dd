use Rattle.std.proofs.Common.{subst}
use Rattle.polite_routes.specs.Full.{Gives}
use Rattle.polite_routes.specs.Tree.{Planted}
use Rattle.polite_routes.proofs.Fullness.{stopped, stopped_count}
use Rattle.polite_routes.proofs.Growing.{tree_full_1, tree_full_2, tree_full_3, tree_full_4, tree_is}
use Rattle.polite_routes.proofs.tree.plant_tree.Goals as goal

pub returns-in_err-to_east : goal.returns-in_err-to_east
returns-in_err-to_east c = record {
  gives = stopped c.from_residual.result c.in_err-to_east.field-0.0 c.plant_row.new.draft c.plant_row.new.draft _ _ _ _ c.from_residual.ensures.1 (rw c.numbers-n.ensures.value at c.in_err-to_east.ensures.gives)
      (tree_full_1 c.args.shape.now c.args.spots.now c.neighbour-east.result c.args.board c.args.draft.now c.neighbour-east.ensures.value);
  count = stopped_count c.from_residual.result c.in_err-to_east.field-0.0 c.plant_row.new.draft c.args.draft.now c.from_residual.ensures.1;
}

pub returns-in_err-to_west : goal.returns-in_err-to_west
returns-in_err-to_west c = record {
  gives = stopped c.from_residual-in_err-to_west.result c.in_err-to_west.field-0.0 c.plant_row-2.new.draft c.plant_row-2.new.draft _ _ _ _ c.from_residual-in_err-to_west.ensures.1 (rw c.numbers-n.ensures.value at c.in_err-to_west.ensures.gives)
      (tree_full_2 c.args.shape.now c.args.spots.now c.neighbour-east.result c.neighbour-west.result c.args.board c.args.draft.now c.plant_row.new.draft c.neighbour-east.ensures.value c.neighbour-west.ensures.value (rw c.numbers-n.ensures.value at c.in_ok-to_east.ensures.gives.1));
  count = stopped_count c.from_residual-in_err-to_west.result c.in_err-to_west.field-0.0 c.plant_row-2.new.draft c.args.draft.now c.from_residual-in_err-to_west.ensures.1;
}

pub returns-in_err-below : goal.returns-in_err-below
returns-in_err-below c = record {
  gives = stopped c.from_residual-in_err-below.result c.in_err-below.field-0.0 c.plant_column.new.draft c.plant_column.new.draft _ _ _ _ c.from_residual-in_err-below.ensures.1 (rw c.numbers-n.ensures.value at c.in_err-below.ensures.gives)
      (tree_full_3 c.args.shape.now c.args.spots.now c.neighbour-east.result c.neighbour-west.result c.neighbour-south.result c.args.board c.args.draft.now c.plant_row.new.draft c.plant_row-2.new.draft c.neighbour-east.ensures.value c.neighbour-west.ensures.value c.neighbour-south.ensures.value (rw c.numbers-n.ensures.value at c.in_ok-to_east.ensures.gives.1) (rw c.numbers-n.ensures.value at c.in_ok-to_west.ensures.gives.1));
  count = stopped_count c.from_residual-in_err-below.result c.in_err-below.field-0.0 c.plant_column.new.draft c.args.draft.now c.from_residual-in_err-below.ensures.1;
}

pub returns-in_err-above : goal.returns-in_err-above
returns-in_err-above c = record {
  gives = stopped c.from_residual-in_err-above.result c.in_err-above.field-0.0 c.plant_column-2.new.draft c.plant_column-2.new.draft _ _ _ _ c.from_residual-in_err-above.ensures.1 (rw c.numbers-n.ensures.value at c.in_err-above.ensures.gives)
      (tree_full_4 c.args.shape.now c.args.spots.now c.neighbour-east.result c.neighbour-west.result c.neighbour-south.result c.neighbour-north.result c.args.board c.args.draft.now c.plant_row.new.draft c.plant_row-2.new.draft c.plant_column.new.draft c.neighbour-east.ensures.value c.neighbour-west.ensures.value c.neighbour-south.ensures.value c.neighbour-north.ensures.value (rw c.numbers-n.ensures.value at c.in_ok-to_east.ensures.gives.1) (rw c.numbers-n.ensures.value at c.in_ok-to_west.ensures.gives.1) (rw c.numbers-n.ensures.value at c.in_ok-below.ensures.gives.1));
  count = stopped_count c.from_residual-in_err-above.result c.in_err-above.field-0.0 c.plant_column-2.new.draft c.args.draft.now c.from_residual-in_err-above.ensures.1;
}

pub returns-clause-gives : goal.returns-clause-gives
returns-clause-gives c =
    let whole = tree_is c.args.shape.now c.args.spots.now c.neighbour-east.result c.neighbour-west.result c.neighbour-south.result c.neighbour-north.result c.args.board c.args.draft.now c.plant_row.new.draft c.plant_row-2.new.draft c.plant_column.new.draft c.plant_column-2.new.draft c.in_ok-to_east.to_east c.in_ok-to_west.to_west c.in_ok-below.below c.in_ok-above.above c.neighbour-east.ensures.value c.neighbour-west.ensures.value c.neighbour-south.ensures.value c.neighbour-north.ensures.value
    (rw c.numbers-n.ensures.value at c.in_ok-to_east.ensures.gives.0) (rw c.numbers-n.ensures.value at c.in_ok-to_east.ensures.gives.1) (rw c.numbers-n.ensures.value at c.in_ok-to_west.ensures.gives.0) (rw c.numbers-n.ensures.value at c.in_ok-to_west.ensures.gives.1) (rw c.numbers-n.ensures.value at c.in_ok-below.ensures.gives.0) (rw c.numbers-n.ensures.value at c.in_ok-below.ensures.gives.1) (rw c.numbers-n.ensures.value at c.in_ok-above.ensures.gives.0) (rw c.numbers-n.ensures.value at c.in_ok-above.ensures.gives.1) in
    subst (λ (p : Planted). Gives c.plant.result c.plant.new.draft p.tables p.key) whole c.plant.ensures.gives
