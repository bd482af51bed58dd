use Rattle.tn_call.proofs.Complete.{completes}
use Rattle.tn_call.proofs.call.call.Goals as goal

pub returns-clause-complete : goal.returns-clause-complete
returns-clause-complete g c = λ command calm ne. completes _ _ _ _ _ _ _ command c.carry_out.ensures.cause calm ne
