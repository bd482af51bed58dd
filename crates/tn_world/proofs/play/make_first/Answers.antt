use Rattle.tn_rows.specs.Listed.{listed}
use Rattle.tn_world.proofs.Calm.{first_made}
use Rattle.tn_world.proofs.play.make_first.Goals as goal

pub returns : goal.returns
returns g c = first_made c.make.result c.args.world.now c.make.new.world (listed c.args.world.now.shape) c.in-Some.event c.in-Some.ensures c.make.ensures
