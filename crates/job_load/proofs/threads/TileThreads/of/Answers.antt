use Rattle.std.proofs.Common.{◌∙◌, List, map, ap, subst}
use Rattle.std.specs.List.{range_with_len}
use Rattle.tn_base.specs.Address.{tile_threads}
use Rattle.job_load.specs.Graph.{bare_thread, seats_on}
use Rattle.job_load.specs.Origin.{ComesFrom}
use Rattle.job_load.specs.SeatedModel.{SeatedModel}
use Rattle.job_load.specs.Start.{by_address, filled_thread}
use Rattle.job_load.proofs.Starts.{threads_same}
use Rattle.job_load.proofs.Tiles.{as_many, seated_tile}
use Rattle.job_load.proofs.threads.TileThreads.of.Goals as goal

pub seats_on-seats-requires-clause-seats : goal.seats_on-seats-requires-clause-seats
seats_on-seats-requires-clause-seats c =
    let comes = subst (ComesFrom c.args.job.now) c.in-Graph.is c.requires.origin in
    let tile = seated_tile c.args.job.now c.args.shape.now c.in-Graph.flits c.in-Graph.threads.items c.in-Graph.tables c.args.tile.0 c.requires.shape c.numbers-numbers.ensures.limits c.requires.tile comes c.requires.fits in
    rw c.as_slice-in-Graph.ensures.value tile.whole

pub seated_threads-requires-clause-seats : goal.seated_threads-requires-clause-seats
seated_threads-requires-clause-seats c =
    let comes = subst (ComesFrom c.args.job.now) c.in-Graph.is c.requires.origin in
    let tile = seated_tile c.args.job.now c.args.shape.now c.in-Graph.flits c.in-Graph.threads.items c.in-Graph.tables c.args.tile.0 c.requires.shape c.numbers-numbers.ensures.limits c.requires.tile comes c.requires.fits in
    rw (c.seats_on-seats.ensures, c.as_slice-in-Graph.ensures.value) tile.count

pub seated_threads-requires-clause-room : goal.seated_threads-requires-clause-room
seated_threads-requires-clause-room c =
    let comes = subst (ComesFrom c.args.job.now) c.in-Graph.is c.requires.origin in
    let tile = seated_tile c.args.job.now c.args.shape.now c.in-Graph.flits c.in-Graph.threads.items c.in-Graph.tables c.args.tile.0 c.requires.shape c.numbers-numbers.ensures.limits c.requires.tile comes c.requires.fits in
    rw (c.seats_on-seats.ensures, c.as_slice-in-Graph.ensures.value) tile.room

pub returns-in_ok-filled_threads-in-Sections-clause-threads : goal.returns-in_ok-filled_threads-in-Sections-clause-threads
returns-in_ok-filled_threads-in-Sections-clause-threads c =
    let comes = subst (ComesFrom c.args.job.now) c.in-Sections.is c.requires.origin in
    let threads = c.in_ok-filled_threads-in-Sections.ensures ∙ ap (λ fills. by_address (filled_thread c.args.shape.now fills) c.args.shape.now c.args.tile.0) c.as_slice.ensures in
    rw c.new.ensures.items (threads ∙ threads_same c.args.shape.now c.args.job.now c.args.tile.0 c.requires.shape comes.0)

pub returns-in_ok-switches_of-in-Graph-clause-threads : goal.returns-in_ok-switches_of-in-Graph-clause-threads
returns-in_ok-switches_of-in-Graph-clause-threads c =
    let comes = subst (ComesFrom c.args.job.now) c.in-Graph.is c.requires.origin in
    let tile = seated_tile c.args.job.now c.args.shape.now c.in-Graph.flits c.in-Graph.threads.items c.in-Graph.tables c.args.tile.0 c.requires.shape c.numbers-numbers.ensures.limits c.requires.tile comes c.requires.fits in
    let seats = c.seats_on-seats.ensures ∙ ap (λ (ss : List SeatedModel). seats_on c.args.shape.now ss c.args.tile.0) c.as_slice-in-Graph.ensures.value in
    let threads = c.in_ok-seated_threads-in-Graph.ensures ∙ ap (λ (ss : List SeatedModel). map (bare_thread c.args.shape.now c.in-Graph.flits ss c.args.tile.0) (range_with_len 0 (tile_threads c.args.shape.now))) seats in
    let switches = c.in_ok-switches_of-in-Graph.ensures ∙ ap (λ (ss : List SeatedModel). map (λ (s : SeatedModel). s.switch) ss) seats in
    rw (threads, switches) tile.threads

pub returns-in_ok-switches_of-in-Graph-clause-few : goal.returns-in_ok-switches_of-in-Graph-clause-few
returns-in_ok-switches_of-in-Graph-clause-few c =
    let comes = subst (ComesFrom c.args.job.now) c.in-Graph.is c.requires.origin in
    let tile = seated_tile c.args.job.now c.args.shape.now c.in-Graph.flits c.in-Graph.threads.items c.in-Graph.tables c.args.tile.0 c.requires.shape c.numbers-numbers.ensures.limits c.requires.tile comes c.requires.fits in
    let seats = c.seats_on-seats.ensures ∙ ap (λ (ss : List SeatedModel). seats_on c.args.shape.now ss c.args.tile.0) c.as_slice-in-Graph.ensures.value in
    let threads = c.in_ok-seated_threads-in-Graph.ensures ∙ ap (λ (ss : List SeatedModel). map (bare_thread c.args.shape.now c.in-Graph.flits ss c.args.tile.0) (range_with_len 0 (tile_threads c.args.shape.now))) seats in
    let switches = c.in_ok-switches_of-in-Graph.ensures ∙ ap (λ (ss : List SeatedModel). map (λ (s : SeatedModel). s.switch) ss) seats in
    as_many c.args.job.now c.args.shape.now c.in-Graph.flits c.in-Graph.threads.items c.args.tile.0 c.in_ok-seated_threads-in-Graph.field-0.items c.in_ok-switches_of-in-Graph.field-0.items tile threads switches
