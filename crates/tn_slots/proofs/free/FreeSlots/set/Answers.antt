use Rattle.std.proofs.Common.{◌<◌, ◌/◌, arith, length}
use Rattle.tn_slots.proofs.Marks.{fit_set, flags_set, length-flags}
use Rattle.tn_slots.proofs.free.FreeSlots.set.Goals as goal

pub bounds-self-inside-s : goal.bounds-self-inside-s
bounds-self-inside-s c =
    let h = rw (← c.self.view_is, length-flags) at c.requires in
    let few = c.self.invariant.few in
    omega arith

pub bounds-self-inside-s-2 : goal.bounds-self-inside-s-2
bounds-self-inside-s-2 c =
    let h = rw (← c.self.view_is, length-flags) at c.requires in
    let few = c.self.invariant.few in
    omega arith

pub invariant_of-self : goal.invariant_of-self
invariant_of-self c =
    let h : c.args.s < c.self.inside.count = rw (← c.self.view_is, length-flags) at c.requires in
    let few = c.self.invariant.few in
    let there : c.args.s / 64 < length c.self.inside.words = omega arith in
    fit_set c.self.inside.words c.self.inside.count c.args.s c.write_bit.result h there c.write_bit.ensures.others c.self.invariant

pub returns : goal.returns
returns c =
    let h : c.args.s < c.self.inside.count = rw (← c.self.view_is, length-flags) at c.requires in
    let few = c.self.invariant.few in
    let there : c.args.s / 64 < length c.self.inside.words = omega arith in
    rw (← c.self.view_is) (flags_set c.self.inside.words c.self.inside.count c.args.s c.write_bit.result c.args.free h there c.write_bit.ensures.written c.write_bit.ensures.others)
