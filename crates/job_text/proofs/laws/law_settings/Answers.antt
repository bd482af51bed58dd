use Rattle.job_text.proofs.Exchanged.{settings_commute}
use Rattle.job_text.proofs.laws.law_settings.Goals as goal

pub returns : goal.returns
returns c = settings_commute
