use Rattle.tn_letters.proofs.Conserved.{every_run_conserves, every_run_hands, every_run_hands_the_host}
use Rattle.tn_letters.proofs.laws.law_letters.Goals as goal

pub returns-clause-conserved : goal.returns-clause-conserved
returns-clause-conserved c = every_run_conserves

pub returns-clause-handed : goal.returns-clause-handed
returns-clause-handed c = every_run_hands

pub returns-clause-taken : goal.returns-clause-taken
returns-clause-taken c = every_run_hands_the_host
