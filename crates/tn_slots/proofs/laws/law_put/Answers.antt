use Rattle.std.proofs.Common.{refl}
use Rattle.tn_slots.specs.Pool.{first_free}
use Rattle.tn_slots.proofs.Unused.{first_unused}
use Rattle.tn_slots.proofs.laws.law_put.Goals as goal

pub returns : goal.returns
returns c = first_unused c.args.pool.now (first_free c.args.pool.now) c.kept.ensures refl
