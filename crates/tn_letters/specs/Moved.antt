-- The part of a bag state that the steps of threads read, after a step.
use Rattle.std.specs.Prelude.{unwrap_or}
use Rattle.tn_letters.specs.declared.steps.BagStep.{BagStep}
use Rattle.tn_letters.specs.declared.steps.BagStep.TheVariants as bag
use Rattle.tn_letters.specs.Machine.{announced, ended_by, freed, handed, own_step, with_own_step}
use Rattle.tn_letters.specs.State.{BagState, Program}

-- the threads, and the letters that they hold, after a step. What a thread sees and asks is read from nothing else, so the letters in
-- flight stay as they are
abbrev pub moved : Program → BagStep → BagState → BagState
moved m (bag.Private a seen) s = ended_by (own_step m a seen s).op a (with_own_step m a seen s)
moved m (bag.Send a seen) s = with_own_step m a seen s
moved m (bag.Hand a seen l) s = handed a (unwrap_or seen.first 0) l s.flight (with_own_step m a seen s)
moved m (bag.Free a seen slot) s = freed a slot (with_own_step m a seen s)
moved m (bag.Idle a seen vote) s = with_own_step m a seen s
moved m bag.Announce s = announced m.shape s
moved m (bag.HostSend l) s = s
moved m (bag.HostHand l) s = s
moved m (bag.Discard l) s = s
