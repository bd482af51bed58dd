use Rattle.std.proofs.Common.{rules, sym, arith, length-set, ◌∙◌}
use Rattle.std.proofs.lemmas.List.Edits.{map_over_more}
use Rattle.std.proofs.lemmas.List.{length-map, map-set}
use Rattle.tn_slots.specs.Slot.{is_free, left_slot}
use Rattle.tn_slots.proofs.pool.leave_each.Goals as goal

pub loop-i-preserved : goal.loop-i-preserved
loop-i-preserved c = record {
  slots = rw (c.without-slot-in-loop-i.ensures, c.without-slot.ensures) (map_over_more (left_slot c.args.t) c.args.slots.now.items c.loop-i.slots.items c.loop-i.i c.index_mut-slot.result.now (search rules) c.loop-i.invariant.slots c.index_mut-slot.ensures.value);
  long = length-set c.loop-i.slots.items c.loop-i.i _ ∙ c.loop-i.invariant.long;
  free = rw (c.set.ensures, c.is_free-is_free.ensures, c.loop-i.invariant.free) (sym (map-set is_free c.loop-i.slots.items c.loop-i.i _));
}

pub set-requires : goal.set-requires
set-requires c = rw (c.loop-i.invariant.free, length-map) (let l = c.loop-i.invariant.long in omega arith)
