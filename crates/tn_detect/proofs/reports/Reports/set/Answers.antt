use Rattle.std.proofs.Common.{◌≡◌, ap, arith, refl, ◌∙◌}
use Rattle.std.proofs.lemmas.Int.{ints}
use Rattle.std.proofs.lemmas.List.{get_or_read_under}
use Rattle.tn_detect.specs.Reports.{number_of}
use Rattle.tn_detect.specs.Told.{missing_in, shown, told_by, untold}
use Rattle.tn_detect.proofs.Summed.{bounded, missing_le, sets, shown-set, summed-set, within}
use Rattle.tn_detect.proofs.reports.Reports.set.Goals as goal

pub overflow_add-self : goal.overflow_add-self
overflow_add-self c =
    let b = bounded c.self.inside.told.items c.self.inside.round c.self.invariant.until in
    let few = b.few in let short = c.self.invariant.until.few in let m = c.self.invariant.missing in
    omega (arith, c.missing_in.ensures, missing_le c.args.report)

pub overflow_sub-self : goal.overflow_sub-self
overflow_sub-self c =
    let l = within c.self.inside.round c.self.inside.told.items c.args.self.now c.args.i c.self.view_is c.requires in
    let at : c.index_mut-place.result.now ≡ told_by c.self.inside.told.items c.args.i = get_or_read_under c.self.inside.told.items c.args.i _ _ untold c.index_mut-place.ensures.value l refl in
    let old = c.missing_in-2.ensures ∙ (ap missing_in c.shown-old.ensures ∙ ap (λ t. missing_in (shown c.self.inside.round t)) at) in
    let s = sets c.self.inside.told.items c.self.inside.round c.args.i c.args.report c.self.invariant.begun l in
    let m = s.missing in let n = c.self.invariant.missing in
    omega (arith, c.missing_in.ensures)

pub overflow_add-self-2 : goal.overflow_add-self-2
overflow_add-self-2 c =
    let b = bounded c.self.inside.told.items c.self.inside.round c.self.invariant.until in
    let low = b.low in let high = b.high in let short = c.self.invariant.until.few in let s = c.self.invariant.sum in
    let f = c.from.ensures in let n = c.number_of.type_inv in
    omega (arith, ints)

pub overflow_sub-self-2 : goal.overflow_sub-self-2
overflow_sub-self-2 c =
    let b = bounded c.self.inside.told.items c.self.inside.round c.self.invariant.until in
    let low = b.low in let high = b.high in let short = c.self.invariant.until.few in let s = c.self.invariant.sum in
    let f = c.from.ensures in let n = c.number_of.type_inv in
    let g = c.from-2.ensures in let o = c.number_of-2.type_inv in
    omega (arith, ints)

pub invariant_of-self : goal.invariant_of-self
invariant_of-self c =
    let l = within c.self.inside.round c.self.inside.told.items c.args.self.now c.args.i c.self.view_is c.requires in
    let at : c.index_mut-place.result.now ≡ told_by c.self.inside.told.items c.args.i = get_or_read_under c.self.inside.told.items c.args.i _ _ untold c.index_mut-place.ensures.value l refl in
    let old = c.shown-old.ensures ∙ ap (shown c.self.inside.round) at in
    let missing = c.missing_in-2.ensures ∙ ap missing_in old in
    let number = c.number_of-2.ensures ∙ ap number_of old in
    let b = bounded c.self.inside.told.items c.self.inside.round c.self.invariant.until in
    let low = b.low in let high = b.high in let short = c.self.invariant.until.few in let s = c.self.invariant.sum in
    let f = c.from.ensures in let n = c.number_of.type_inv in let e = c.number_of.ensures in
    let g = c.from-2.ensures in let o = c.number_of-2.type_inv in
    let w = sets c.self.inside.told.items c.self.inside.round c.args.i c.args.report c.self.invariant.begun l in
    let m = w.missing in let k = c.self.invariant.missing in let x = c.missing_in.ensures in
    rw c.of-told.ensures (summed-set c.self.inside.told.items c.self.inside.round c.self.inside.missing c.args.i _ c.self.inside.sum _ c.args.report c.self.invariant l (omega (arith, ints)) (omega (arith, ints)) (omega arith) (omega (arith, ints)))

pub returns : goal.returns
returns c = rw (c.of-told.ensures, ← c.self.view_is) (shown-set c.self.inside.round c.self.inside.told.items c.args.i c.args.report c.self.invariant.begun)
