use Rattle.job_faults.proofs.First.{first_section}
use Rattle.job_faults.proofs.laws.law_sections.Goals as goal

pub returns : goal.returns
returns c = first_section
