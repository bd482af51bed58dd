use Rattle.std.proofs.Common.{arith, ◌-◌, ◌≡◌}
use Rattle.tn_slots.proofs.Marks.{fill_step, none_flagged}
use Rattle.tn_slots.proofs.free.FreeSlots.all.Goals as goal

pub loop-s-init : goal.loop-s-init
loop-s-init c = let e : c.args.count - 0 ≡ c.args.count = omega arith in rw e (none_flagged 8 c.args.count)

pub loop-s-preserved : goal.loop-s-preserved
loop-s-preserved c = rw (c.set.ensures, c.loop-s.invariant) (fill_step c.loop-s.s c.args.count (omega arith))
