use Rattle.std.proofs.Common.{sym, arith, rules}
use Rattle.tn_slots.proofs.Marks.{absent, found, found_within}
use Rattle.tn_slots.proofs.free.FreeSlots.first.Goals as goal

pub returns-then-word-ne0-clause-first : goal.returns-then-word-ne0-clause-first
returns-then-word-ne0-clause-first c = rw (← c.self.view_is) (sym (found c.self.inside.words c.self.inside.count c.loop-w.w c.lowest_bit.result c.self.invariant c.loop-w.invariant c.lowest_bit.ensures.within c.lowest_bit.ensures.one c.lowest_bit.ensures.lowest))

pub returns-then-word-ne0-clause-within : goal.returns-then-word-ne0-clause-within
returns-then-word-ne0-clause-within c = rw (← c.self.view_is) (found_within c.self.inside.words c.self.inside.count _ (found c.self.inside.words c.self.inside.count c.loop-w.w c.lowest_bit.result c.self.invariant c.loop-w.invariant c.lowest_bit.ensures.within c.lowest_bit.ensures.one c.lowest_bit.ensures.lowest))

pub returns-clause-first : goal.returns-clause-first
returns-clause-first c = rw (← c.self.view_is) (sym (absent c.self.inside.words c.self.inside.count (search rules) (λ k h. c.loop-w.invariant k (omega arith))))
