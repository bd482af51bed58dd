use Rattle.std.proofs.Common.{◌≡◌, ◌^◌, true, ap, arith, ◌∙◌, sym}
use Rattle.tn_base.specs.Address.{has_thread}
use Rattle.tn_tile.specs.Receivers.{receivers}
use Rattle.tn_tile.proofs.Packed.{few_places, one_place}
use Rattle.tn_tile.proofs.receivers.receivers_of.Goals as goal

pub overflow_shl-place_in_tile : goal.overflow_shl-place_in_tile
overflow_shl-place_in_tile c =
    let n = c.args.shape.now in
    let named : has_thread n c.in-Thread.t.0 ≡ true = rw c.in-Thread.is at c.requires in
    let here = c.place_in_tile.ensures.below named in
    let few = few_places n c.numbers-numbers.ensures.limits in
    omega arith

pub returns-in-Thread-clause-value : goal.returns-in-Thread-clause-value
returns-in-Thread-clause-value c =
    let n = c.args.shape.now in
    let named : has_thread n c.in-Thread.t.0 ≡ true = rw c.in-Thread.is at c.requires in
    let bit = one_place n c.place_in_tile.result c.numbers-numbers.ensures.limits (c.place_in_tile.ensures.below named) in
    c.of.ensures ∙ bit.0 ∙ ap (λ k. 2 ^ k) c.place_in_tile.ensures.value ∙ sym (ap (receivers n) c.in-Thread.is)

pub returns-in-Thread-clause-below : goal.returns-in-Thread-clause-below
returns-in-Thread-clause-below c =
    let n = c.args.shape.now in
    let named : has_thread n c.in-Thread.t.0 ≡ true = rw c.in-Thread.is at c.requires in
    let bit = one_place n c.place_in_tile.result c.numbers-numbers.ensures.limits (c.place_in_tile.ensures.below named) in
    rw (c.of.ensures, bit.0) bit.1
