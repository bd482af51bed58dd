use Rattle.std.proofs.Common.{◌≡◌}
use Rattle.job_load.specs.Images.{image_with}
use Rattle.job_load.proofs.Images.{leads_more}
use Rattle.job_load.proofs.image.Image.lay.Goals as goal

pub loop-place-preserved : goal.loop-place-preserved
loop-place-preserved c =
    let f = c.index-fills-place.result in
    let put : c.put.new.self ≡ image_with c.loop-place.self f.address f.bytes = rw c.as_slice.ensures at c.in_ok-put.ensures in
    leads_more c.args._size c.args.fills.now c.args.places.now c.loop-place.place-index f c.loop-place.self c.put.new.self
    c.loop-place-test.true c.requires.places c.requires.within c.index-fills-place.is c.loop-place.invariant put
