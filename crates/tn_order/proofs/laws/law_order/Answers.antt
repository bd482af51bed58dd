use Rattle.tn_order.proofs.Histories.{every_history_is_in_order}
use Rattle.tn_order.proofs.RunActs.{every_run_acts, every_run_is_in_order}
use Rattle.tn_order.proofs.laws.law_order.Goals as goal

pub returns-clause-histories : goal.returns-clause-histories
returns-clause-histories c = every_history_is_in_order

pub returns-clause-acts : goal.returns-clause-acts
returns-clause-acts c = every_run_acts

pub returns-clause-runs : goal.returns-clause-runs
returns-clause-runs c = every_run_is_in_order
