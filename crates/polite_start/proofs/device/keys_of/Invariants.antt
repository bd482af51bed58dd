use Rattle.std.proofs.Common.{◌≡◌, map}
use Rattle.std.specs.List.{range_with_len}
use Rattle.polite_routes.specs.Answer.{pin_key}
use Rattle.polite_start.proofs.device.keys_of.Given as goal

abbrev pub invariant-loop-pin : goal.invariant-loop-pin
invariant-loop-pin l = l.list.items ≡ map (pin_key l.keys l.vertex) (range_with_len 0 l.pin)
