use Rattle.tn_letters.proofs.SlotLaw.{event_keeps, walk_keeps}
use Rattle.tn_letters.proofs.SlotPuts.{put_is_of_packet}
use Rattle.tn_letters.proofs.SlotThreads.{thread_keeps}
use Rattle.tn_letters.proofs.laws.law_slots.Goals as goal

pub returns-clause-events : goal.returns-clause-events
returns-clause-events c = event_keeps

pub returns-clause-runs : goal.returns-clause-runs
returns-clause-runs c = λ start events end p s walk used. walk_keeps events start end p s walk used

pub returns-clause-threads : goal.returns-clause-threads
returns-clause-threads c = thread_keeps

pub returns-clause-puts : goal.returns-clause-puts
returns-clause-puts c = put_is_of_packet
