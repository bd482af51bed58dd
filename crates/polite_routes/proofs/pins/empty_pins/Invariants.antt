use Rattle.std.proofs.Common.{◌≡◌, map}
use Rattle.std.specs.List.{range_with_len}
use Rattle.polite_routes.proofs.PinRows.{bare_pin}
use Rattle.polite_routes.proofs.pins.empty_pins.Given as goal

abbrev pub invariant-loop-place : goal.invariant-loop-place
invariant-loop-place l = l.pins.items ≡ map (bare_pin l.placement) (range_with_len 0 l.place)
