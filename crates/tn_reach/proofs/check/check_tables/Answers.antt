use Rattle.std.proofs.Common.{◌≡◌, ◌∙◌, sym}
use Rattle.tn_reach.specs.Check.{table_stop}
use Rattle.std.specs.declared.option.Option.TheVariants.{None}
use Rattle.tn_reach.proofs.Stops.{accepted}
use Rattle.tn_reach.proofs.check.check_tables.Goals as goal

pub returns : goal.returns
returns c =
    let none : table_stop c.args.shape.now c.args.tables.now ≡ None = sym c.find_stop.ensures ∙ c.in-None.is in
    (none, accepted c.args.shape.now c.args.tables.now c.requires none)
