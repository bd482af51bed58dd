use Rattle.std.proofs.Common.{refl}
use Rattle.tn_letters.proofs.Waiting.{answer_waits, idle_answered}
use Rattle.tn_letters.proofs.laws.law_answers.Goals as goal

pub returns-clause-waits : goal.returns-clause-waits
returns-clause-waits c = answer_waits

pub returns-clause-read : goal.returns-clause-read
returns-clause-read c = λ code sight value t. refl

pub returns-clause-machines : goal.returns-clause-machines
returns-clause-machines c = idle_answered
