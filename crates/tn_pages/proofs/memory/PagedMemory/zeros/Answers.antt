use Rattle.std.proofs.Common.{◌≡◌, arith}
use Rattle.tn_pages.specs.Paged.{pages_for}
use Rattle.tn_pages.proofs.Start.{none_made}
use Rattle.tn_pages.proofs.memory.PagedMemory.zeros.Goals as goal

pub returns : goal.returns
returns c =
    let p : c.loop-p._p ≡ pages_for c.args.size = omega arith in
    rw (c.loop-p.invariant, p) (none_made c.args.size)
