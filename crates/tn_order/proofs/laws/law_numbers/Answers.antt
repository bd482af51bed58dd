use Rattle.tn_order.proofs.Counted.{every_walk_counts}
use Rattle.tn_order.proofs.laws.law_numbers.Goals as goal

pub returns : goal.returns
returns c = every_walk_counts
