use Rattle.std.proofs.Common.{◌≡◌, take}
use Rattle.std.specs.List.{filter_map}
use Rattle.tn_follow.specs.Follow.{letter_handed, receivers}
use Rattle.tn_follow.proofs.ends.receivers_handed.Given as goal

abbrev pub invariant-loop-step : goal.invariant-loop-step
invariant-loop-step l = l.all.items ≡ receivers l.origin l.number (filter_map letter_handed (take l.step-index l.steps))
