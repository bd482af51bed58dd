use Rattle.std.proofs.Common.{◌∙◌, [], length, ap, arith}
use Rattle.std.proofs.lemmas.Iterator.Adapters.{YieldsList-from_vec}
use Rattle.std.proofs.lemmas.Iterator.Consumers.{YieldsList-turn}
use Rattle.polite_place.specs.Outs.{outs_of}
use Rattle.job_load.specs.Graph.{seated}
use Rattle.job_load.proofs.Seating.{count_is, more_seated, next_of, seat_made, vertices_are}
use Rattle.job_load.proofs.graph.seat_threads.Goals as goal

pub overflow_cast-len : goal.overflow_cast-len
overflow_cast-len c =
    let xs = c.args.in_edges in
    let items = c.into_threads-lists-items.ensures in
    let gives = c.into_iter-lists-iterator.ensures.into_iter_gives in
    let runs = YieldsList-from_vec {s = c.into_iter-lists-iterator.result} xs (gives.0 ∙ items) (gives.1 ∙ c.into_threads-lists-items.result.ok.0 ∙ ap length items) in
    let turn = YieldsList-turn runs c.loop-lists.yielded c.loop-lists.lists-iterator c.loop-lists.yielded_by c.next.result c.next.new.self c.in-Some.lists c.in-Some.is c.next.ensures.steps in
    let f = seated c.args.shape.now c.args.graph.now c.args.keys.now c.args.entries.now c.args.in_edges in
    let count = count_is f c.loop-lists.all.items c.len.result (length c.loop-lists.yielded) c.loop-lists.invariant (c.len.ensures ∙ c.loop-lists.all.ok.0) in
    let whole = c.requires.count in
    omega (arith, turn.0, count, whole, c.thread_count.ensures.small, c.thread_count.ensures.value)

pub start_thread-requires-clause-there : goal.start_thread-requires-clause-there
start_thread-requires-clause-there c =
    let xs = c.args.in_edges in
    let items = c.into_threads-lists-items.ensures in
    let gives = c.into_iter-lists-iterator.ensures.into_iter_gives in
    let runs = YieldsList-from_vec {s = c.into_iter-lists-iterator.result} xs (gives.0 ∙ items) (gives.1 ∙ c.into_threads-lists-items.result.ok.0 ∙ ap length items) in
    let turn = YieldsList-turn runs c.loop-lists.yielded c.loop-lists.lists-iterator c.loop-lists.yielded_by c.next.result c.next.new.self c.in-Some.lists c.in-Some.is c.next.ensures.steps in
    let f = seated c.args.shape.now c.args.graph.now c.args.keys.now c.args.entries.now c.args.in_edges in
    let count = count_is f c.loop-lists.all.items c.len.result (length c.loop-lists.yielded) c.loop-lists.invariant (c.len.ensures ∙ c.loop-lists.all.ok.0) in
    let vertices = vertices_are c.args.shape.now (outs_of c.args.graph.now) c.in_ok-roster.roster c.len.result (length c.loop-lists.yielded) c.vertices-vertices.result.now c.vertices-vertices.ensures c.in_ok-roster.ensures count in
    let whole = c.requires.count in
    rw vertices (c.requires.there (length c.loop-lists.yielded) (omega (arith, turn.0)))

pub start_thread-requires-clause-few : goal.start_thread-requires-clause-few
start_thread-requires-clause-few c =
    let xs = c.args.in_edges in
    let items = c.into_threads-lists-items.ensures in
    let gives = c.into_iter-lists-iterator.ensures.into_iter_gives in
    let runs = YieldsList-from_vec {s = c.into_iter-lists-iterator.result} xs (gives.0 ∙ items) (gives.1 ∙ c.into_threads-lists-items.result.ok.0 ∙ ap length items) in
    let turn = YieldsList-turn runs c.loop-lists.yielded c.loop-lists.lists-iterator c.loop-lists.yielded_by c.next.result c.next.new.self c.in-Some.lists c.in-Some.is c.next.ensures.steps in
    let f = seated c.args.shape.now c.args.graph.now c.args.keys.now c.args.entries.now c.args.in_edges in
    let count = count_is f c.loop-lists.all.items c.len.result (length c.loop-lists.yielded) c.loop-lists.invariant (c.len.ensures ∙ c.loop-lists.all.ok.0) in
    let vertices = vertices_are c.args.shape.now (outs_of c.args.graph.now) c.in_ok-roster.roster c.len.result (length c.loop-lists.yielded) c.vertices-vertices.result.now c.vertices-vertices.ensures c.in_ok-roster.ensures count in
    let whole = c.requires.count in
    rw vertices (c.requires.few (length c.loop-lists.yielded) (omega (arith, turn.0)))

pub start_thread-requires-clause-named : goal.start_thread-requires-clause-named
start_thread-requires-clause-named c =
    let xs = c.args.in_edges in
    let items = c.into_threads-lists-items.ensures in
    let gives = c.into_iter-lists-iterator.ensures.into_iter_gives in
    let runs = YieldsList-from_vec {s = c.into_iter-lists-iterator.result} xs (gives.0 ∙ items) (gives.1 ∙ c.into_threads-lists-items.result.ok.0 ∙ ap length items) in
    let turn = YieldsList-turn runs c.loop-lists.yielded c.loop-lists.lists-iterator c.loop-lists.yielded_by c.next.result c.next.new.self c.in-Some.lists c.in-Some.is c.next.ensures.steps in
    let f = seated c.args.shape.now c.args.graph.now c.args.keys.now c.args.entries.now c.args.in_edges in
    let count = count_is f c.loop-lists.all.items c.len.result (length c.loop-lists.yielded) c.loop-lists.invariant (c.len.ensures ∙ c.loop-lists.all.ok.0) in
    let vertices = vertices_are c.args.shape.now (outs_of c.args.graph.now) c.in_ok-roster.roster c.len.result (length c.loop-lists.yielded) c.vertices-vertices.result.now c.vertices-vertices.ensures c.in_ok-roster.ensures count in
    let next = next_of xs (length c.loop-lists.yielded) [] c.in-Some.lists turn in
    let whole = c.requires.count in
    rw (vertices, ← next.item) (c.requires.named (length c.loop-lists.yielded) (omega (arith, turn.0)))

pub loop-lists-preserved : goal.loop-lists-preserved
loop-lists-preserved c =
    let xs = c.args.in_edges in
    let items = c.into_threads-lists-items.ensures in
    let gives = c.into_iter-lists-iterator.ensures.into_iter_gives in
    let runs = YieldsList-from_vec {s = c.into_iter-lists-iterator.result} xs (gives.0 ∙ items) (gives.1 ∙ c.into_threads-lists-items.result.ok.0 ∙ ap length items) in
    let turn = YieldsList-turn runs c.loop-lists.yielded c.loop-lists.lists-iterator c.loop-lists.yielded_by c.next.result c.next.new.self c.in-Some.lists c.in-Some.is c.next.ensures.steps in
    let f = seated c.args.shape.now c.args.graph.now c.args.keys.now c.args.entries.now c.args.in_edges in
    let count = count_is f c.loop-lists.all.items c.len.result (length c.loop-lists.yielded) c.loop-lists.invariant (c.len.ensures ∙ c.loop-lists.all.ok.0) in
    let vertices = vertices_are c.args.shape.now (outs_of c.args.graph.now) c.in_ok-roster.roster c.len.result (length c.loop-lists.yielded) c.vertices-vertices.result.now c.vertices-vertices.ensures c.in_ok-roster.ensures count in
    let next = next_of xs (length c.loop-lists.yielded) [] c.in-Some.lists turn in
    let made = seat_made c.args.shape.now c.args.graph.now c.args.keys.now c.args.entries.now xs (length c.loop-lists.yielded)
    c.vertices-vertices.result.now c.in-Some.lists c.in_ok-start.start.image.items c.in_ok-start.start.switch vertices next.item c.in_ok-start.ensures.image c.in_ok-start.ensures.switch in
    more_seated f c.loop-lists.all.items c.push.new.self.items _ c.loop-lists.yielded c.in-Some.lists c.loop-lists.invariant made c.in_ok-push.ensures.items
