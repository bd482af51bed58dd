use Rattle.std.specs.Int.{w64}
use Rattle.std.specs.Int.RustNames.{FitsSigned}
use Rattle.std.proofs.Common.{◌∙◌, rules, sym}
use Rattle.tn_part.proofs.Crossings.{takes}
use Rattle.tn_part.proofs.links.can_take.Goals as goal

pub returns-then-counter-gtminus9223372036854775808 : goal.returns-then-counter-gtminus9223372036854775808
returns-then-counter-gtminus9223372036854775808 c =
    let fits : FitsSigned w64 c.counter.result = search rules in
    takes c.args.tile.now.plan c.args.tile.now.now c.args.packet.now c.counter.result c.accepts.result (sym c.counts.ensures ∙ c.if-not-counts.false) c.counter.ensures fits c.if-counter-gtminus9223372036854775808.true c.accepts.ensures
