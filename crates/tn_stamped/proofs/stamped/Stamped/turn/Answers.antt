use Rattle.tn_stamped.proofs.Growing.{noted, replay_more}
use Rattle.tn_stamped.proofs.stamped.Stamped.turn.Goals as goal

pub invariant_of-self : goal.invariant_of-self
invariant_of-self g c = record {
  replays = replay_more _ _ _ _ _ _ c.append_single.ensures.entries c.self.invariant.replays (rw c.in-Moved.is at c.turn-last.ensures.turn).0;
  noted = noted _ _ _ _ _ _ _ _ _ c.append_single.ensures.entries c.self.invariant.replays (rw c.in-Moved.is at c.turn-last.ensures.turn).0 c.self.invariant.noted (rw c.in-Moved.is at c.turn-last.ensures.ends) (rw c.last-stamp.ensures at c.noted-self-inside.ensures);
}
