use Rattle.tn_thread.proofs.Fits.{resumed_fits}
use Rattle.tn_thread.proofs.thread.Thread.resume_asking.Goals as goal

pub returns-clause-fits : goal.returns-clause-fits
returns-clause-fits g c = rw c.wake.ensures (resumed_fits _ c.args.self.now c.requires.runnable c.requires.suspended)
