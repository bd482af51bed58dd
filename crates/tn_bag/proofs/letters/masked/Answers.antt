use Rattle.std.proofs.Common.{rules, ◌∙◌, ◌++◌, ◌∷◌, [], ◌%◌, ◌==◌, ℕ, List, ap, sym, refl}
use Rattle.std.specs.Int.{bit_at}
use Rattle.tn_base.specs.declared.message.Letter.{Letter}
use Rattle.tn_base.specs.Address.{in_tile, tile_threads}
use Rattle.tn_keys.specs.Copies.{only_if}
use Rattle.tn_letters.specs.Letters.{letter}
use Rattle.tn_bag.proofs.Loops.{bit_is, bit_not, more_no, more_yes}
use Rattle.tn_bag.proofs.letters.masked.Goals as goal
use Rattle.tn_bag.proofs.letters.masked.Goals.{then-has+in_ok-push, else-has}

pub loop-place-preserved : goal.loop-place-preserved
loop-place-preserved c =
    let at = c.thread_in_tile-thread.ensures.address in
    let place = in_tile c.args.shape.now c.args.tile.0 c.loop-place.place in
    let gives : ℕ → List Letter = λ k. only_if (bit_at c.args.mask (in_tile c.args.shape.now c.args.tile.0 k % 64) == 1) (letter c.args.packet.now.origin c.args.packet.now.number (in_tile c.args.shape.now c.args.tile.0 k) c.args.packet.now.bytes) in
    let this : Letter = letter c.args.packet.now.origin c.args.packet.now.number place c.args.packet.now.bytes in
    elim c.if-has.branch [
      | then-has+in_ok-push w ↦
          more_yes gives c.loop-place.place (tile_threads c.args.shape.now) c.loop-place.all.items c.if-has.all.items (bit_at c.args.mask (place % 64) == 1) this (search rules)
          (ap (λ v. v.items) w.all-is ∙ (w.in_ok-push.ensures.items ∙ ap (λ x. c.loop-place.all.items ++ x ∷ []) (w.letter_for.ensures ∙ ap (λ a. letter c.args.packet.now.origin c.args.packet.now.number a c.args.packet.now.bytes) at)))
          refl (ap (λ a. bit_at c.args.mask (a % 64) == 1) (sym at) ∙ bit_is c.has.result (bit_at c.args.mask (c.thread_in_tile-thread.result.0 % 64)) c.has.ensures w.if-has.true)
          ∙ c.loop-place.invariant
      | else-has w ↦
          more_no gives c.loop-place.place (tile_threads c.args.shape.now) c.loop-place.all.items c.if-has.all.items (bit_at c.args.mask (place % 64) == 1) this (search rules)
          (ap (λ v. v.items) w.all-is)
          refl (ap (λ a. bit_at c.args.mask (a % 64) == 1) (sym at) ∙ bit_not c.has.result (bit_at c.args.mask (c.thread_in_tile-thread.result.0 % 64)) c.has.ensures w.if-has.false)
          ∙ c.loop-place.invariant
    ]
