use Rattle.polite_routes.proofs.tree.+plant_column.Given as goal

abbrev pub decreases-plant_column : goal.decreases-plant_column
decreases-plant_column l = l.most
