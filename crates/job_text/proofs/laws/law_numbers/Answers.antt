use Rattle.job_text.proofs.SaidNumbers.{settings_are_said}
use Rattle.job_text.proofs.laws.law_numbers.Goals as goal

pub returns : goal.returns
returns c = settings_are_said
