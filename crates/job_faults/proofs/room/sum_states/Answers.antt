use Rattle.std.proofs.Common.{◌≡◌, ◌∙◌, ◌+◌, ℕ, ap, arith, get_or, length, length-set, set, subst, sym}
use Rattle.std.proofs.lemmas.List.{length-replicate}
use Rattle.job_faults.specs.Room.{Summed, state_bytes}
use Rattle.job_faults.proofs.Rooms.{bytes_small, none_summed, one_more, sum_small}
use Rattle.job_faults.proofs.room.sum_states.Goals as goal

pub loop-vertex-init : goal.loop-vertex-init
loop-vertex-init c = let e = c.in_ok-sums.ensures.items_if_clones_equal (λ y h. h) in record {
  long = ap length e ∙ length-replicate {A = ℕ} 16384 0;
  each = none_summed c.args.graph.now c.args.placement.now c.in_ok-sums.sums.items e;
}

pub add_bytes-requires-clause-fits : goal.add_bytes-requires-clause-fits
add_bytes-requires-clause-fits c =
    let low = c.requires.low c.loop-vertex.vertex (omega (arith, c.loop-vertex-test.true, c.len-vertex-end.ensures, c.requires.seats)) in
    let here = c.loop-vertex.invariant.each c.thread-address.result.0 (omega (arith, low, ap (λ t. t.0) c.thread-address.ensures)) in
    let small = sum_small c.args.graph.now c.args.placement.now c.thread-address.result.0 c.loop-vertex.vertex (λ i l. bytes_small c.args.graph.now i c.requires.graph) in
    omega (arith, here, small, c.state_bytes.ensures.small, c.loop-vertex-test.true, c.len-vertex-end.ensures, c.requires.graph.vertices_fit)

pub loop-vertex-preserved : goal.loop-vertex-preserved
loop-vertex-preserved c =
    let g = c.args.graph.now in
    let seats = c.args.placement.now in
    let sums = c.loop-vertex.sums.items in
    let s = c.thread-address.result.0 in
    let low = c.requires.low c.loop-vertex.vertex (omega (arith, c.loop-vertex-test.true, c.len-vertex-end.ensures, c.requires.seats)) in
    let named = ap (λ t. t.0) c.thread-address.ensures in
    let new = c.add_bytes.ensures ∙ ap (λ b. set sums s (get_or sums s 0 + b)) c.state_bytes.ensures.value in
    record {
      long = ap length new ∙ length-set sums s (get_or sums s 0 + state_bytes g c.loop-vertex.vertex) ∙ c.loop-vertex.invariant.long;
      each = subst (Summed g seats (c.loop-vertex.vertex + 1)) (sym new) (one_more g seats c.loop-vertex.vertex sums s c.loop-vertex.invariant.long named (omega (arith, low, named)) c.loop-vertex.invariant.each);
    }

pub returns-clause-sums : goal.returns-clause-sums
returns-clause-sums c =
    let all : c.loop-vertex.vertex ≡ length c.args.graph.now.vertices = omega (arith, c.loop-vertex-test.false, c.loop-vertex.auto.vertex-end, c.len-vertex-end.ensures) in
    subst (λ n. Summed c.args.graph.now c.args.placement.now n c.loop-vertex.sums.items) all c.loop-vertex.invariant.each
