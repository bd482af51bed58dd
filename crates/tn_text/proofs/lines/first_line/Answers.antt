use Rattle.std.proofs.Common.{arith}
use Rattle.std.proofs.lemmas.Grind.{common_steps}
use Rattle.tn_text.proofs.FirstLine.{starts_line}
use Rattle.tn_text.proofs.lines.first_line.Goals as goal

pub returns-then-end-text : goal.returns-then-end-text
returns-then-end-text c = starts_line _ _ _ (omega arith) (grind (arith, common_steps)) (grind (arith, common_steps))

pub returns : goal.returns
returns c = starts_line _ _ _ (grind (arith, common_steps)) (grind (arith, common_steps)) (grind (arith, common_steps))
