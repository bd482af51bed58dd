use Rattle.std.proofs.Common.{rules, ◌∙◌, ◌++◌, ◌∷◌, ◌+◌, ◌==◌, [], ℕ, List, ap, sym, refl}
use Rattle.std.specs.Int.{bit_at}
use Rattle.tn_base.specs.declared.message.Letter.{Letter}
use Rattle.tn_base.specs.Bytes.{fronted}
use Rattle.tn_letters.specs.Letters.{letter}
use Rattle.tn_bag.proofs.Copying.{masked_at, masked_letters_are}
use Rattle.tn_bag.proofs.Loops.{bit_is, bit_not, more_no, more_yes}
use Rattle.tn_bag.proofs.keyed.push_masked.Goals as goal
use Rattle.tn_bag.proofs.keyed.push_masked.Goals.{then-has+in_ok-push, else-has}

pub loop-bit-init : goal.loop-bit-init
loop-bit-init c = ap (λ xs. c.args.all.now.items ++ xs) (sym (masked_letters_are c.args.packet.now.origin c.args.packet.now.number c.args.tile c.args.mask (fronted c.args.front.now c.args.packet.now.bytes)))

pub loop-bit-preserved : goal.loop-bit-preserved
loop-bit-preserved c =
    let bytes = fronted c.args.front.now c.args.packet.now.bytes in
    let gives : ℕ → List Letter = masked_at c.args.packet.now.origin c.args.packet.now.number c.args.tile c.args.mask bytes in
    let this : Letter = letter c.args.packet.now.origin c.args.packet.now.number (c.args.tile + c.loop-bit.bit) bytes in
    elim c.if-has.branch [
      | then-has+in_ok-push w ↦
          more_yes gives c.loop-bit.bit 64 c.loop-bit.all.items c.if-has.all.items (bit_at c.args.mask c.loop-bit.bit == 1) this (search rules)
          (ap (λ v. v.items) w.all-is ∙ (w.in_ok-push.ensures.items ∙ ap (λ x. c.loop-bit.all.items ++ x ∷ []) w.copy_for.ensures))
          refl (bit_is c.has.result (bit_at c.args.mask c.loop-bit.bit) c.has.ensures w.if-has.true)
          ∙ c.loop-bit.invariant
      | else-has w ↦
          more_no gives c.loop-bit.bit 64 c.loop-bit.all.items c.if-has.all.items (bit_at c.args.mask c.loop-bit.bit == 1) this (search rules)
          (ap (λ v. v.items) w.all-is)
          refl (bit_not c.has.result (bit_at c.args.mask c.loop-bit.bit) c.has.ensures w.if-has.false)
          ∙ c.loop-bit.invariant
    ]
