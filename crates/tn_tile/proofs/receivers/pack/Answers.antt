use Rattle.std.proofs.Common.{ap, arith, refl, ◌∙◌}
use Rattle.tn_base.specs.declared.shape.ShapeNumbers.{ShapeNumbers}
use Rattle.tn_tile.specs.Receivers.{core_bits}
use Rattle.tn_tile.proofs.Packed.{packed_below, sums}
use Rattle.tn_tile.proofs.receivers.pack.Goals as goal

pub overflow_add-core_bits_of-2 : goal.overflow_add-core_bits_of-2
overflow_add-core_bits_of-2 c =
    let n = c.args.shape.now in
    let t = ap (λ (x : ShapeNumbers). x.threads) c.numbers-threads.ensures.value in
    let small = (sums n c.args.mask c.core_bits_of.result c.core_bits_of-2.result c.core_bits_of-3.result (core_bits c.args.mask 3) c.numbers-threads.result.threads c.numbers-threads.ensures.limits c.requires c.core_bits_of.ensures.value c.core_bits_of-2.ensures.value c.core_bits_of-3.ensures.value refl t).three in
    omega arith

pub overflow_add-core_bits_of-3 : goal.overflow_add-core_bits_of-3
overflow_add-core_bits_of-3 c =
    let n = c.args.shape.now in
    let t = ap (λ (x : ShapeNumbers). x.threads) c.numbers-threads.ensures.value in
    let small = (sums n c.args.mask c.core_bits_of.result c.core_bits_of-2.result c.core_bits_of-3.result c.core_bits_of-4.result c.numbers-threads.result.threads c.numbers-threads.ensures.limits c.requires c.core_bits_of.ensures.value c.core_bits_of-2.ensures.value c.core_bits_of-3.ensures.value c.core_bits_of-4.ensures.value t).all in
    omega arith

pub returns-clause-value : goal.returns-clause-value
returns-clause-value c =
    let n = c.args.shape.now in
    let t = ap (λ (x : ShapeNumbers). x.threads) c.numbers-threads.ensures.value in
    c.of.ensures ∙ (sums n c.args.mask c.core_bits_of.result c.core_bits_of-2.result c.core_bits_of-3.result c.core_bits_of-4.result c.numbers-threads.result.threads c.numbers-threads.ensures.limits c.requires c.core_bits_of.ensures.value c.core_bits_of-2.ensures.value c.core_bits_of-3.ensures.value c.core_bits_of-4.ensures.value t).value

pub returns-clause-below : goal.returns-clause-below
returns-clause-below c =
    let n = c.args.shape.now in
    let t = ap (λ (x : ShapeNumbers). x.threads) c.numbers-threads.ensures.value in
    let value = c.of.ensures ∙ (sums n c.args.mask c.core_bits_of.result c.core_bits_of-2.result c.core_bits_of-3.result c.core_bits_of-4.result c.numbers-threads.result.threads c.numbers-threads.ensures.limits c.requires c.core_bits_of.ensures.value c.core_bits_of-2.ensures.value c.core_bits_of-3.ensures.value c.core_bits_of-4.ensures.value t).value in
    rw value (packed_below n c.args.mask c.numbers-threads.ensures.limits c.requires)
