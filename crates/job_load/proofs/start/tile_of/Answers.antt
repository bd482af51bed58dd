use Rattle.std.proofs.Common.{refl}
use Rattle.job_faults.specs.Mapping.{graph_mapped}
use Rattle.job_faults.proofs.Faultless.{each_none}
use Rattle.job_load.proofs.Accepted.{starts_there}
use Rattle.job_load.proofs.Fits.{fits_graph}
use Rattle.job_load.proofs.Starts.{fills_within}
use Rattle.job_load.proofs.start.tile_of.Goals as goal

pub of-requires-clause-fills : goal.of-requires-clause-fills
of-requires-clause-fills c = rw c.requires.made.shape (fills_within c.args.job.now (each_none c.args.job.now c.requires.made.faultless).sections)

pub of-requires-clause-fits : goal.of-requires-clause-fits
of-requires-clause-fits c = fits_graph c.args.job.now (graph_mapped c.args.job.now) c.requires.made.faultless refl

pub of-requires-2-clause-threads : goal.of-requires-2-clause-threads
of-requires-2-clause-threads c = rw c.in_ok-threads.ensures.threads (starts_there c.args.job.now c.args.shape.now c.args.tile.0 c.requires.made.shape c.requires.made.faultless c.requires.tile)
