use Rattle.std.proofs.Common.{◌++◌, ◌∙◌, ap}
use Rattle.map_text.specs.Text.{board_text}
use Rattle.map_text.proofs.Ranges.{each_more}
use Rattle.map_text.proofs.print.push_row.Goals as goal

pub loop-x-preserved : goal.loop-x-preserved
loop-x-preserved c =
    let f = board_text c.args.shape.now c.args.tables.now c.args.y in
    c.in_ok-push_board.ensures ∙ ap (λ bs. bs ++ f c.loop-x.x) c.loop-x.invariant ∙ each_more f c.args.text.now.items c.loop-x.x
