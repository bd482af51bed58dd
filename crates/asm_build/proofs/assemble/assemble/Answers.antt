use Rattle.asm_build.proofs.Assembly.{gives_assembled}
use Rattle.asm_build.proofs.assemble.assemble.Goals as goal

pub returns-clause-assembled : goal.returns-clause-assembled
returns-clause-assembled c = gives_assembled c.assemble_lines.result c.args.lines.now c.assemble_lines.ensures.image
