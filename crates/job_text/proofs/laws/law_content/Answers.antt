use Rattle.job_text.proofs.Same.{bare_commented, bare_spaces}
use Rattle.job_text.proofs.laws.law_content.Goals as goal

pub returns-clause-spaces : goal.returns-clause-spaces
returns-clause-spaces c = bare_spaces c.args._front.now c.args._line.now c.args._back.now c.requires.front c.requires.back

pub returns-clause-comment : goal.returns-clause-comment
returns-clause-comment c = bare_commented c.args._front.now c.args._line.now c.args._back.now c.args._comment.now c.requires.front c.requires.back
