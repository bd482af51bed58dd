use Rattle.std.proofs.Common.{◌+◌, ◌<◌, ◌^◌, arith, length, refl}
use Rattle.tn_text.specs.Lines.{lines_of}
use Rattle.tn_run.proofs.checked.answer_rest.Goals as goal

pub overflow_add-line : goal.overflow_add-line
overflow_add-line c =
    let few : c.args.line + 1 + length (lines_of c.in-Some.text.now) < 2 ^ 32 = c.requires c.in-Some.text.now (rw c.in-Some.is refl) in
    omega (arith, few)
