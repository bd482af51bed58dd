use Rattle.job_faults.proofs.Fits.{fits}
use Rattle.job_faults.proofs.laws.law_fits.Goals as goal

pub returns : goal.returns
returns c = fits
