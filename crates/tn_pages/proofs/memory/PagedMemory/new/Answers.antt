use Rattle.std.proofs.Common.{◌<◌, ◌≡◌, ◌==◌, ◌∙◌, arith, get_or, if◌then◌else◌, refl}
use Rattle.tn_pages.specs.Paged.{stored_in}
use Rattle.tn_pages.proofs.Start.{started_next}
use Rattle.tn_pages.proofs.memory.PagedMemory.new.Goals as goal

pub loop-at-preserved : goal.loop-at-preserved
loop-at-preserved c =
    let at = c.loop-at.at in
    let x = get_or c.args.image.now at 0 in
    let fits = c.type_inv.image at in
    let small : x < 256 = omega arith in
    let put : c.put.new.self ≡ (if x == 0 then c.loop-at.memory else stored_in c.loop-at.memory at 1 x) = c.in_ok-put.ensures in
    put ∙ rw c.loop-at.invariant (started_next c.args.size at x c.args.image.now c.requires c.loop-at-test.true small refl)
