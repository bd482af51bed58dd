use Rattle.polite_routes.proofs.tree.+plant_row.Given as goal

abbrev pub decreases-plant_row : goal.decreases-plant_row
decreases-plant_row l = l.most
