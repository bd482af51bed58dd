use Rattle.polite_log.proofs.Waiting.{handed}
use Rattle.polite_log.proofs.summary.make_and_count.Goals as goal

pub overflow_sub-result : goal.overflow_sub-result
overflow_sub-result g c =
    (handed c.args.event.now c.args.world.now c.make.new.world c.in_ok-before.before c.in_ok-after.after c.in_ok-make.ensures c.in_ok-before.ensures c.in_ok-after.ensures).0

pub returns-clause-hands : goal.returns-clause-hands
returns-clause-hands g c =
    (handed c.args.event.now c.args.world.now c.make.new.world c.in_ok-before.before c.in_ok-after.after c.in_ok-make.ensures c.in_ok-before.ensures c.in_ok-after.ensures).1
