use Rattle.std.proofs.Common.{◌≤◌, arith, length}
use Rattle.tn_text.proofs.FirstLine.{line_count}
use Rattle.tn_text.specs.Lines.{lines_of}
use Rattle.tn_run.proofs.Behind.{fits_behind}
use Rattle.tn_run.proofs.checked.answer_trace.Goals as goal

pub answer_rest-requires : goal.answer_rest-requires
answer_rest-requires c = λ behind is.
    let few : length (lines_of c.args.input.now) ≤ 16777216 = omega (arith, line_count c.args.input.now, c.requires) in
    fits_behind (lines_of c.args.input.now) _ c.part-line.result.1 _ behind c.part-line.ensures.parts is few
