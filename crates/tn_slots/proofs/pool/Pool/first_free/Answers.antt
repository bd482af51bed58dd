use Rattle.tn_slots.specs.Slot.{is_free}
use Rattle.tn_slots.proofs.Flags.{position_map}
use Rattle.tn_slots.proofs.pool.Pool.first_free.Goals as goal

pub returns-clause-first : goal.returns-clause-first
returns-clause-first c = rw (← c.self.view_is, c.first.ensures.first, c.self.invariant.flagged) (position_map is_free c.self.inside.slots.items)
