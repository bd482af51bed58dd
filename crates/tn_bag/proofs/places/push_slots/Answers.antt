use Rattle.std.proofs.Common.{rules, ◌∙◌, ◌≤◌, ◌<◌, length}
use Rattle.tn_letters.specs.Standing.{owed_standing}
use Rattle.tn_bag.proofs.Loops.{at_end, one_more}
use Rattle.tn_bag.proofs.places.push_slots.Goals as goal

pub loop-slot-preserved : goal.loop-slot-preserved
loop-slot-preserved c =
    let h : c.loop-slot.slot < length c.args.tile.now.now.pool.slots = search rules in
    one_more (owed_standing c.args.tile.now) c.loop-slot.slot (length c.args.tile.now.now.pool.slots) c.loop-slot.all.items c.push_owed.new.all.items h (search rules) ∙ c.loop-slot.invariant

pub returns : goal.returns
returns c =
    let h : length c.args.tile.now.now.pool.slots ≤ c.loop-slot.slot = search rules in
    at_end (owed_standing c.args.tile.now) c.loop-slot.slot (length c.args.tile.now.now.pool.slots) c.loop-slot.all.items _ h c.loop-slot.invariant
