use Rattle.std.proofs.Common.{◌∙◌, ◌≡◌, ◌+◌, ℕ, ap, arith, false, get_or, length, nat_lt, sym}
use Rattle.polite_place.specs.Seats.{seat_of}
use Rattle.job_faults.specs.Room.{lacks_room, states_on}
use Rattle.job_faults.proofs.Ranges.{any_behind}
use Rattle.job_faults.proofs.Rooms.{all_lack, bytes_small, no_less, sum_small}
use Rattle.job_faults.proofs.room.any_lacks.Goals as goal

pub loop-vertex-init : goal.loop-vertex-init
loop-vertex-init c = all_lack c.args.mem c.args.graph.now c.args.placement.now

pub overflow_add-sums : goal.overflow_add-sums
overflow_add-sums c =
    let low = c.requires.low c.loop-vertex.vertex (omega (arith, c.loop-vertex-test.true, c.len-vertex-end.ensures, c.requires.seats)) in
    let named = ap (λ t. t.0) c.thread-address.ensures in
    let here = c.requires.sums c.thread-address.result.0 (omega (arith, low, named)) in
    let small = sum_small c.args.graph.now c.args.placement.now c.thread-address.result.0 (length c.args.graph.now.vertices) (λ i l. bytes_small c.args.graph.now i c.requires.graph) in
    omega (arith, here, small, c.requires.graph.vertices_fit)

pub loop-vertex-preserved : goal.loop-vertex-preserved
loop-vertex-preserved c =
    let g = c.args.graph.now in
    let seats = c.args.placement.now in
    let v = c.loop-vertex.vertex in
    let s = c.thread-address.result.0 in
    let sums = c.args.sums.now in
    let low = c.requires.low v (omega (arith, c.loop-vertex-test.true, c.len-vertex-end.ensures, c.requires.seats)) in
    let named : s ≡ (seat_of seats v).thread.0 = ap (λ t. t.0) c.thread-address.ensures in
    let here : get_or sums s 0 ≡ states_on g seats s = c.requires.sums s (omega (arith, low, named)) in
    let lacks : lacks_room c.args.mem g seats v ≡ false =
    ap (λ (a : ℕ). nat_lt c.args.mem (states_on g seats a + 256)) (sym named)
    ∙ ap (λ (x : ℕ). nat_lt c.args.mem (x + 256)) (sym here)
    ∙ ap (λ (m : ℕ). nat_lt m (get_or sums s 0 + 256)) (sym c.from.ensures)
    ∙ no_less c.from.result (get_or sums s 0 + 256) c.if-sums-address.false in
    any_behind (lacks_room c.args.mem g seats) v (length g.vertices) (omega (arith, c.loop-vertex-test.true, c.len-vertex-end.ensures)) lacks ∙ c.loop-vertex.invariant
