use Rattle.polite_switch.proofs.Dispatching.{dispatch_kept, row_kept, start_kept}
use Rattle.polite_switch.proofs.laws.law_kept.Goals as goal

pub returns-clause-start : goal.returns-clause-start
returns-clause-start c = start_kept

pub returns-clause-dispatch : goal.returns-clause-dispatch
returns-clause-dispatch c = dispatch_kept

pub returns-clause-rows : goal.returns-clause-rows
returns-clause-rows c = row_kept
