use Rattle.std.proofs.Common.{◌≡◌, map, drop}
use Rattle.std.specs.List.{position_from}
use Rattle.std.specs.Str.{bytes_eq}
use Rattle.asm_text.specs.Places.{place_in}
use Rattle.asm_text.proofs.places.find_place.Given as goal

abbrev pub invariant-loop-place : goal.invariant-loop-place
invariant-loop-place l = position_from (λ name. bytes_eq name l.text) l.place (map (λ name. name.now) (drop l.place l.names)) ≡ place_in l.text (map (λ name. name.now) l.names)
