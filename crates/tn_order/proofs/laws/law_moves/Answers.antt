use Rattle.tn_order.specs.Law.{net_by}
use Rattle.tn_order.proofs.Keeps.{earlier_is_gone, keeps}
use Rattle.tn_order.proofs.laws.law_moves.Goals as goal

pub returns-clause-keep : goal.returns-clause-keep
returns-clause-keep c start next change old new is o does = keeps (net_by start next) change old new is o does

pub returns-clause-gone : goal.returns-clause-gone
returns-clause-gone c start next w p m n rest is o out at i less = earlier_is_gone (net_by start next) w p m n rest is o out at i less
