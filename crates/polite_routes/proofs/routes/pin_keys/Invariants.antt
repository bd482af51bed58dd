use Rattle.std.proofs.Common.{◌≡◌, map}
use Rattle.std.specs.List.{range_with_len}
use Rattle.polite_routes.specs.Answer.{listed_key}
use Rattle.polite_routes.proofs.routes.pin_keys.Given as goal

abbrev pub invariant-loop-pin : goal.invariant-loop-pin
invariant-loop-pin l = l.list.items ≡ map (listed_key l.keys l.vertex) (range_with_len 0 l.pin)
