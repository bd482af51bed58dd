use Rattle.tn_text.specs.Lines.{lines_of}
use Rattle.job_text.proofs.Sound.{gives_numbered, gives_well_formed}
use Rattle.job_text.proofs.read.read_job.Goals as goal

pub returns-clause-well_formed : goal.returns-clause-well_formed
returns-clause-well_formed c = gives_well_formed c.read.result (lines_of c.args.text.now) c.read.ensures

pub returns-clause-numbered : goal.returns-clause-numbered
returns-clause-numbered c = gives_numbered c.read.result (lines_of c.args.text.now) c.requires c.read.ensures
