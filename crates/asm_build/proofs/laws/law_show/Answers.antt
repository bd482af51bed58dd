use Rattle.std.proofs.Common.{arith}
use Rattle.asm_build.proofs.ShownText.{show_back}
use Rattle.asm_build.proofs.laws.law_show.Goals as goal

pub returns : goal.returns
returns c = show_back c.args._number c.args._word (omega arith)
