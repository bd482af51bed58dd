use Rattle.std.proofs.Common.{◌∙◌, arith}
use Rattle.tn_base.specs.Address.{tile_threads}
use Rattle.job_load.specs.Graph.{bare_thread}
use Rattle.job_faults.proofs.Ranges.{more_mapped}
use Rattle.job_load.proofs.Seats.{bare_made}
use Rattle.job_load.proofs.threads.seated_threads.Goals as goal

pub loop-place-preserved : goal.loop-place-preserved
loop-place-preserved c =
    let made = bare_made c.args.shape.now c.args.flits c.args.seats.now c.args.tile.0 c.loop-place.place c.thread_in_tile-id.result c.image-image.result.now
    c.index-seats-place.result c.in_ok-thread.thread c.thread_in_tile-id.ensures.address c.image-image.ensures c.index-seats-place.is (omega (arith, c.requires.seats)) c.in_ok-thread.ensures in
    let more = more_mapped (bare_thread c.args.shape.now c.args.flits c.args.seats.now c.args.tile.0) c.loop-place.place
    (tile_threads c.args.shape.now) c.loop-place.threads.items c.in_ok-thread.thread (omega arith) made in
    rw c.in_ok-push.ensures.items (more ∙ c.loop-place.invariant)
