use Rattle.std.proofs.Common.{◌≡◌, [], drop}
use Rattle.asm_build.specs.Image.{places_after}
use Rattle.asm_build.proofs.assemble.place_labels.Given as goal

abbrev pub invariant-loop-line : goal.invariant-loop-line
invariant-loop-line l = places_after l.known l.labels l.here (drop l.line-index l.lines) ≡ places_after l.known [] 0 l.lines
