use Rattle.tn_text.specs.Lines.{lines_of}
use Rattle.job_text.proofs.Same.{same_job}
use Rattle.job_text.proofs.laws.law_contents.Goals as goal

pub returns : goal.returns
returns c = same_job (lines_of c.args._text.now) (lines_of c.args._other.now) c.requires
