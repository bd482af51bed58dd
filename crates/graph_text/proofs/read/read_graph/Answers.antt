use Rattle.tn_text.specs.Lines.{lines_of}
use Rattle.graph_text.proofs.Flits.{gives_flits}
use Rattle.graph_text.proofs.Saying.{gives_said}
use Rattle.graph_text.proofs.Sound.{gives_fits}
use Rattle.graph_text.proofs.read.read_graph.Goals as goal

pub returns-clause-fits : goal.returns-clause-fits
returns-clause-fits c = gives_fits c.args.first (lines_of c.args.lines.now) c.read.result c.read.ensures

pub returns-clause-says : goal.returns-clause-says
returns-clause-says c = gives_said c.args.first (lines_of c.args.lines.now) c.read.result c.read.ensures

pub returns-clause-flits : goal.returns-clause-flits
returns-clause-flits c = gives_flits c.args.first (lines_of c.args.lines.now) c.read.result c.read.ensures
