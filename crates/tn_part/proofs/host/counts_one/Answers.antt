use Rattle.std.specs.Int.{w64}
use Rattle.std.specs.Int.RustNames.{FitsSigned}
use Rattle.std.proofs.Common.{rules}
use Rattle.tn_part.proofs.Crossings.{counts_at}
use Rattle.tn_part.proofs.host.counts_one.Goals as goal

pub returns : goal.returns
returns c =
    let fits : FitsSigned w64 c.counter.result = search rules in
    counts_at c.args.host.now.now c.counter.result c.counter.ensures fits
