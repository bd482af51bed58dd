use Rattle.std.proofs.Common.{◌<◌, ◌+◌, ◌*◌, ◌∷◌, ◌++◌, [], ◌∙◌, None, ap, arith, length, sym}
use Rattle.std.proofs.lemmas.List.{get_or_default}
use Rattle.std.proofs.lemmas.List.FromFn.{map-range_with_len_more}
use Rattle.polite_routes.specs.Answer.{listed_key}
use Rattle.polite_routes.proofs.routes.pin_keys.Goals as goal

pub loop-pin-preserved : goal.loop-pin-preserved
loop-pin-preserved c =
    let keys = c.args.keys.now in
    let place = c.args.vertex * 4 + c.loop-pin.pin in
    let there : place < length keys = omega (arith, c.requires.there, c.requires.few, c.loop-pin-test.true) in
    c.in_ok-push.ensures.items ∙ ap (λ x. c.loop-pin.list.items ++ x ∷ []) (get_or_default keys place _ None there)
    ∙ ap (λ xs. xs ++ listed_key keys c.args.vertex c.loop-pin.pin ∷ []) c.loop-pin.invariant
    ∙ sym (map-range_with_len_more (listed_key keys c.args.vertex) 0 c.loop-pin.pin c.loop-pin.pin (omega arith))
