use Rattle.std.proofs.Common.{length}
use Rattle.machine_tests.proofs.machines.+replay.Given as goal

abbrev pub decreases-replay : goal.decreases-replay
decreases-replay l = length l.events.now
