use Rattle.std.proofs.Common.{◌∙◌, arith}
use Rattle.tn_base.specs.Address.{in_tile, tile_threads}
use Rattle.job_load.specs.Groups.{fills_at}
use Rattle.job_load.specs.Images.{IsImage}
use Rattle.job_load.specs.Start.{filled_thread}
use Rattle.job_faults.proofs.Ranges.{more_mapped}
use Rattle.job_load.proofs.Starts.{thread_made}
use Rattle.job_load.proofs.threads.filled_threads.Goals as goal

pub loop-place-preserved : goal.loop-place-preserved
loop-place-preserved c =
    let is : IsImage c.numbers-mem.result.mem (fills_at c.args.fills.now c.places.result.now) c.as_slice.result.now = rw c.as_slice.ensures c.in_ok-lay.ensures in
    let made = thread_made c.args.shape.now c.numbers-mem.result c.args.fills.now c.args.groups.now c.thread_in_tile-id.result (in_tile c.args.shape.now c.args.tile.0 c.loop-place.place)
    c.places.result.now c.as_slice.result.now c.in_ok-thread.thread c.numbers-mem.ensures.value c.requires.groups c.thread_in_tile-id.ensures.address c.places.ensures is c.in_ok-thread.ensures in
    let more = more_mapped (λ k. filled_thread c.args.shape.now c.args.fills.now (in_tile c.args.shape.now c.args.tile.0 k)) c.loop-place.place
    (tile_threads c.args.shape.now) c.loop-place.threads.items c.in_ok-thread.thread (omega arith) made in
    rw c.in_ok-push.ensures.items (more ∙ c.loop-place.invariant)
