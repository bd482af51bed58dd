use Rattle.std.proofs.Common.{◌++◌, ◌∙◌, ap}
use Rattle.map_text.specs.Text.{row_text}
use Rattle.map_text.proofs.Ranges.{each_more}
use Rattle.map_text.proofs.print.push_tables.Goals as goal

pub loop-y-preserved : goal.loop-y-preserved
loop-y-preserved c =
    let f = row_text c.args.shape.now c.args.tables.now in
    c.in_ok-push_row.ensures ∙ ap (λ bs. bs ++ f c.loop-y.y) c.loop-y.invariant ∙ each_more f c.args.text.now.items c.loop-y.y
