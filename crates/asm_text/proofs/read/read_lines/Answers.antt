use Rattle.tn_text.specs.Lines.{lines_of}
use Rattle.asm_text.proofs.Misreads.{misread}
use Rattle.asm_text.proofs.read.read_lines.Goals as goal

pub returns-clause-kinds : goal.returns-clause-kinds
returns-clause-kinds c = misread c.read.result c.args.first (lines_of c.args.text.now) c.read.ensures
