use Rattle.tn_order.proofs.Rises.{every_run_numbers_rise}
use Rattle.tn_order.proofs.laws.law_rising.Goals as goal

pub returns : goal.returns
returns c = every_run_numbers_rise
