use Rattle.std.proofs.Common.{refl}
use Rattle.job_faults.specs.Mapping.{graph_mapped}
use Rattle.job_load.proofs.Fits.{fits_graph}
use Rattle.job_load.proofs.start.part_of.Goals as goal

pub table-requires-clause-fits : goal.table-requires-clause-fits
table-requires-clause-fits c = fits_graph c.args.job.now (graph_mapped c.args.job.now) c.requires.made.faultless refl
