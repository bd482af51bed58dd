use Rattle.std.proofs.Common.{arith}
use Rattle.tn_base.proofs.PartCount.{part_count_is}
use Rattle.tn_base.proofs.shape.Shape.part_count.Goals as goal

pub returns : goal.returns
returns c = omega (arith, part_count_is c.args.self.now)
