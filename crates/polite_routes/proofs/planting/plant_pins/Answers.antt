use Rattle.std.proofs.Common.{sym, ◌∙◌}
use Rattle.polite_routes.proofs.InTurn.{stop_is}
use Rattle.polite_routes.proofs.planting.plant_pins.Goals as goal

pub returns-in_err-plant_all : goal.returns-in_err-plant_all
returns-in_err-plant_all c =
    stop_is c.from_residual-in_err-plant_all.result c.in_err-plant_all.field-0.0 c.args.shape.now c.args.pins.now _ _ _ (sym c.in_ok-keys_full.ensures ∙ c.if-branch.false) c.from_residual-in_err-plant_all.ensures.1 c.in_err-plant_all.ensures
