use Rattle.std.proofs.Common.{◌<◌, ◌≡◌, ◌∷◌, ◌++◌, [], ◌∙◌, ap, arith, length, map, sym}
use Rattle.std.proofs.lemmas.List.FromFn.{length-map-range_with_len, map-range_with_len_more}
use Rattle.std.specs.List.{range_with_len}
use Rattle.polite_routes.specs.Answer.{listed_key, vertex_keys}
use Rattle.polite_routes.specs.Routes.{key_at}
use Rattle.polite_routes.proofs.Serving.{keys_are, keys_listed}
use Rattle.polite_routes.proofs.PinRows.{few_pins}
use Rattle.polite_routes.proofs.routes.keys_of.Goals as goal

pub pin_keys-requires-clause-there : goal.pin_keys-requires-clause-there
pin_keys-requires-clause-there c =
    let l = ap length c.requires.keys ∙ length-map-range_with_len (key_at c.args.shape.now c.args.pins.now) 0 (length c.args.pins.now) in
    omega (arith, c.requires.pins, c.loop-vertex-test.true, c.len-count.ensures)

pub loop-vertex-preserved : goal.loop-vertex-preserved
loop-vertex-preserved c =
    let n = c.args.shape.now in
    let g = c.args.graph.now in
    let ps = c.args.pins.now in
    let v = c.loop-vertex.vertex in
    let room : v < length g.vertices = omega (arith, c.loop-vertex-test.true, c.len-count.ensures) in
    let key : c.in_ok-pin_keys.field-0 ≡ vertex_keys n g ps v =
    c.in_ok-pin_keys.ensures ∙ ap (λ k. map (listed_key c.args.keys.now v) (range_with_len 0 k)) c.pins_at-few.ensures ∙ keys_listed n g ps c.args.keys.now v c.requires.keys c.requires.pins room (few_pins g v c.requires.graph) in
    c.in_ok-push.ensures.items ∙ ap (λ x. c.loop-vertex.vertices.items ++ x ∷ []) key ∙ ap (λ xs. xs ++ vertex_keys n g ps v ∷ []) c.loop-vertex.invariant
    ∙ sym (map-range_with_len_more (vertex_keys n g ps) 0 v v (omega arith))

pub returns : goal.returns
returns c =
    let e : c.loop-vertex.vertex ≡ length c.args.graph.now.vertices = omega (arith, c.loop-vertex-test.false, c.loop-vertex.auto.vertex-end, c.len-count.ensures) in
    c.loop-vertex.invariant ∙ ap (λ k. map (vertex_keys c.args.shape.now c.args.graph.now c.args.pins.now) (range_with_len 0 k)) e ∙ keys_are c.args.shape.now c.args.graph.now c.args.pins.now
