use Rattle.std.proofs.Common.{arith}
use Rattle.polite_routes.proofs.InTurn.{full_is}
use Rattle.polite_routes.proofs.planting.keys_full.Goals as goal

pub returns : goal.returns
returns c = full_is c.args.pins.now c.count_all.new.counts c.has_full.result c.has_full.ensures (omega (arith, c.count_all.auto.counts, c.as_mut_slice-counts.ensures.len, c.in_ok-list.ensures.len)) c.in_ok-count_all.ensures
