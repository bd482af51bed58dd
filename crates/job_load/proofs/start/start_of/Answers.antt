use Rattle.std.proofs.Common.{sym}
use Rattle.job_load.proofs.Fits.{fits_graph}
use Rattle.job_load.proofs.Starts.{world_made}
use Rattle.job_load.proofs.start.start_of.Goals as goal

pub of-requires-clause-fits : goal.of-requires-clause-fits
of-requires-clause-fits c = fits_graph c.args.job.now c.args.checked.read.mapped c.requires.faultless (sym c.requires.read.graph)

pub of-requires-2 : goal.of-requires-2
of-requires-2 c = world_made c.args.checked.shape c.args.job.now c.in_ok-parts.parts.items c.requires.shape c.in_ok-parts.ensures
