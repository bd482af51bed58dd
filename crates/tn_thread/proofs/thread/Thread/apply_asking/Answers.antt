use Rattle.tn_thread.proofs.Fits.{stepped_fits}
use Rattle.tn_thread.proofs.thread.Thread.apply_asking.Goals as goal

pub returns-clause-fits : goal.returns-clause-fits
returns-clause-fits g c = rw c.act.ensures.step (stepped_fits c.args.effect _ c.args.self.now)
