use Rattle.job_text.proofs.SaidSections.{sections_are_said}
use Rattle.job_text.proofs.laws.law_sections.Goals as goal

pub returns : goal.returns
returns c = sections_are_said
