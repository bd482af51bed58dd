use Rattle.std.proofs.Common.{◌∙◌, arith, length-set, subst, sym}
use Rattle.tn_base.specs.Address.{thread_at}
use Rattle.polite_routes.specs.InEdges.{Located}
use Rattle.polite_routes.proofs.Each.{parts}
use Rattle.polite_routes.proofs.Entries.{given_back, place_set}
use Rattle.polite_routes.proofs.in_edges.places_of.Goals as goal

pub bounds-places-thread_at : goal.bounds-places-thread_at
bounds-places-thread_at c =
    let p = (parts c.args.shape.now (thread_at c.args.shape.now c.loop-thread.thread) (c.law_threads.ensures.listed c.loop-thread.thread (omega (arith, c.loop-thread-test.true, c.thread_count-thread-end.ensures.value)))).small in
    omega (arith, c.thread_at.ensures, c.loop-thread.invariant.all)

pub loop-thread-preserved : goal.loop-thread-preserved
loop-thread-preserved c =
    let n = c.args.shape.now in
    let t = c.loop-thread.thread in
    let p = (parts n (thread_at n t) (c.law_threads.ensures.listed t (omega (arith, c.loop-thread-test.true, c.thread_count-thread-end.ensures.value)))).small in
    record {
      all = length-set c.loop-thread.places c.thread_at.result.0 t ∙ c.loop-thread.invariant.all;
      each = λ i h. place_set n c.loop-thread.places t c.thread_at.result.0 i c.loop-thread.invariant.all c.thread_at.ensures (omega (arith, c.thread_at.ensures))
          (λ d. c.law_threads.ensures.ascending i t d (omega (arith, c.loop-thread-test.true, c.thread_count-thread-end.ensures.value))) (c.loop-thread.invariant.each i) h;
    }

pub returns : goal.returns
returns c =
    let w = given_back c.loop-thread.places c.in_ok-list.list.items c.in_ok-list.list.len (omega arith) (omega (arith, c.loop-thread.auto.places, c.as_mut_slice-places.ensures.len)) in
    subst (Located c.args.shape.now) (sym w) (record {
      all = c.loop-thread.invariant.all;
      each = λ i h. c.loop-thread.invariant.each i (omega (arith, c.loop-thread-test.false, c.thread_count-thread-end.ensures.value));
    })
