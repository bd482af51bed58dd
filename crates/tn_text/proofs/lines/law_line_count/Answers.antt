use Rattle.tn_text.proofs.FirstLine.{line_count}
use Rattle.tn_text.proofs.lines.law_line_count.Goals as goal

pub returns : goal.returns
returns c = line_count c.args._text.now
