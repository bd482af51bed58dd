use Rattle.polite_edges.proofs.Law.{every_edge_once, every_log_is_even, every_run_is_lawful}
use Rattle.polite_edges.proofs.laws.law_edges.Goals as goal

pub returns-clause-lawful : goal.returns-clause-lawful
returns-clause-lawful c = every_run_is_lawful

pub returns-clause-even : goal.returns-clause-even
returns-clause-even c = every_log_is_even

pub returns-clause-once : goal.returns-clause-once
returns-clause-once c = every_edge_once
