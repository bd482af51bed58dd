use Rattle.polite_edges.proofs.Machines.{every_history_is_even, every_history_is_lawful, every_history_once}
use Rattle.polite_edges.proofs.laws.law_histories.Goals as goal

pub returns-clause-lawful : goal.returns-clause-lawful
returns-clause-lawful c = every_history_is_lawful

pub returns-clause-even : goal.returns-clause-even
returns-clause-even c = every_history_is_even

pub returns-clause-once : goal.returns-clause-once
returns-clause-once c = every_history_once
