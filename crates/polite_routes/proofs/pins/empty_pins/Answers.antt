use Rattle.std.proofs.Common.{[], ◌≡◌, ◌*◌, ◌∷◌, ◌++◌, ◌∙◌, List, ap, arith, length, map, sym}
use Rattle.std.proofs.lemmas.List.FromFn.{map-range_with_len_more}
use Rattle.std.specs.List.{range_with_len}
use Rattle.tn_base.specs.declared.ids.Board.{Board}
use Rattle.polite_routes.specs.declared.target.Pin.{Pin}
use Rattle.polite_routes.specs.declared.target.Target.{Target}
use Rattle.polite_routes.specs.Pins.{board_of}
use Rattle.polite_routes.proofs.PinRows.{bare_pin, bare_pins}
use Rattle.polite_routes.proofs.pins.empty_pins.Goals as goal

pub loop-place-preserved : goal.loop-place-preserved
loop-place-preserved c =
    let p = c.args.placement.now in
    let k = c.loop-place.place in
    let board : c.board_of.result ≡ (bare_pin p k).board = c.board_of.ensures ∙ ap (λ t. board_of t.0) c.thread-thread.ensures in
    c.in_ok-push.ensures.items
    ∙ ap (λ (ts : List Target). let q : Pin = record { board = c.board_of.result; targets = ts } in c.loop-place.pins.items ++ q ∷ []) c.new.ensures
    ∙ ap (λ (b : Board). let q : Pin = record { board = b; targets = [] } in c.loop-place.pins.items ++ q ∷ []) board
    ∙ ap (λ xs. xs ++ bare_pin p k ∷ []) c.loop-place.invariant
    ∙ sym (map-range_with_len_more (bare_pin p) 0 k k (omega arith))

pub returns : goal.returns
returns c =
    let n : c.loop-place.place ≡ length c.args.graph.now.vertices * 4 = omega (arith, c.loop-place-test.false, c.loop-place.auto.place-end, c.len-count.ensures) in
    c.loop-place.invariant ∙ ap (λ k. map (bare_pin c.args.placement.now) (range_with_len 0 k)) n ∙ bare_pins (length c.args.graph.now.vertices) c.args.graph.now.edges c.args.placement.now
