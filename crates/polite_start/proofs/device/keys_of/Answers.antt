use Rattle.std.proofs.Common.{◌∷◌, ◌++◌, [], ◌∙◌, ap, arith, sym}
use Rattle.std.proofs.lemmas.List.FromFn.{map-range_with_len_more}
use Rattle.polite_routes.specs.Answer.{pin_key}
use Rattle.polite_start.proofs.device.keys_of.Goals as goal

pub loop-pin-preserved : goal.loop-pin-preserved
loop-pin-preserved c =
    let f = pin_key c.args.keys.now c.args.vertex in
    c.in_ok-push.ensures.items ∙ ap (λ x. c.loop-pin.list.items ++ x ∷ []) c.key.ensures
    ∙ ap (λ xs. xs ++ f c.loop-pin.pin ∷ []) c.loop-pin.invariant
    ∙ sym (map-range_with_len_more f 0 c.loop-pin.pin c.loop-pin.pin (omega arith))
