use Rattle.polite_routes.specs.Targets.{count_in}
use Rattle.polite_routes.proofs.Bare.{gives_none, no_targets}
use Rattle.polite_routes.proofs.planting.plant_pin.Goals as goal

pub returns-then-is_empty-clause-gives : goal.returns-then-is_empty-clause-gives
returns-then-is_empty-clause-gives c =
    gives_none c.args.shape.now (count_in c.args.counts.now) c.args.pin.now.board c.args.draft.now c.args.pin.now.targets
    (no_targets c.args.pin.now.targets c.as_slice-targets.result.now c.is_empty.result c.if-is_empty.true c.is_empty.ensures c.as_slice-targets.ensures) c.requires.short
