use Rattle.polite_start.proofs.Devices.{aligned, long}
use Rattle.polite_start.proofs.thread.start_thread.Goals as goal

pub of-requires-clause-few : goal.of-requires-clause-few
of-requires-clause-few c = rw (c.in_ok-states.ensures.devices, long c.args.graph.now c.args.keys.now c.args.entries.now 0 c.args.vertices.now) c.requires.few

pub of-requires-clause-aligned : goal.of-requires-clause-aligned
of-requires-clause-aligned c = rw c.in_ok-states.ensures.devices (aligned c.args.graph.now c.args.keys.now c.args.entries.now c.args.vertices.now c.requires.aligned)

pub of-requires-clause-named : goal.of-requires-clause-named
of-requires-clause-named c = rw (c.in_ok-states.ensures.devices, long c.args.graph.now c.args.keys.now c.args.entries.now 0 c.args.vertices.now, c.into_lists.ensures) c.requires.named
