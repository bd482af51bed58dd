use Rattle.std.proofs.Common.{◌/◌}
use Rattle.tn_pages.proofs.Counts.{one_more}
use Rattle.tn_pages.proofs.laws.law_written.Goals as goal

pub returns : goal.returns
returns c = one_more c.args.memory.now.made (c.args.at / 256)
