use Rattle.job_faults.proofs.Maps.{text_read}
use Rattle.job_faults.proofs.mapping.text_graph.Goals as goal

pub returns-clause-read : goal.returns-clause-read
returns-clause-read c = text_read c.read_graph.result c.args.section.now (rw c.as_slice.ensures at c.read_graph.ensures.read)
