use Rattle.tn_follow.proofs.Each.{new_in_each}
use Rattle.tn_follow.proofs.Others.{leaves_others}
use Rattle.tn_follow.proofs.Staying.{none_new}
use Rattle.tn_follow.proofs.laws.law_elsewhere.Goals as goal

pub returns-clause-parts : goal.returns-clause-parts
returns-clause-parts c = leaves_others

pub returns-clause-spots : goal.returns-clause-spots
returns-clause-spots c = none_new

pub returns-clause-each : goal.returns-clause-each
returns-clause-each c = new_in_each
