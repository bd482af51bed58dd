use Rattle.std.proofs.Common.{◌≡◌, take}
use Rattle.std.specs.List.{filter_map}
use Rattle.tn_follow.specs.Follow.{letter_dropped, receivers}
use Rattle.tn_follow.proofs.ends.receivers_dropped.Given as goal

abbrev pub invariant-loop-step : goal.invariant-loop-step
invariant-loop-step l = l.all.items ≡ receivers l.origin l.number (filter_map letter_dropped (take l.step-index l.steps))
