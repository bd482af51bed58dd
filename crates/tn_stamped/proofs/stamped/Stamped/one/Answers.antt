use Rattle.std.proofs.Common.{◌∙◌, ap, is_some}
use Rattle.std.specs.declared.option.Option.{Option}
use Rattle.tn_base.specs.declared.event.Outcome.{Outcome}
use Rattle.tn_stamped.proofs.Growing.{noted, replay_more, row_of}
use Rattle.tn_stamped.proofs.stamped.Stamped.one.Goals as goal

pub invariant_of-self : goal.invariant_of-self
invariant_of-self g c = record {
  replays = replay_more _ _ _ _ _ _ c.append_single.ensures.entries c.self.invariant.replays (row_of _ _ _ c.in-Moved.ensures);
  noted = noted _ _ _ _ _ _ _ _ _ c.append_single.ensures.entries c.self.invariant.replays (row_of _ _ _ c.in-Moved.ensures) c.self.invariant.noted (c.is_some-ends.ensures ∙ ap (λ (o : Option Outcome). is_some o) c.final_on.ensures) (rw c.last-stamp.ensures at c.noted-self-inside.ensures);
}
