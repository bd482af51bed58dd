use Rattle.std.proofs.Common.{◌≡◌, [], drop}
use Rattle.asm_build.specs.Image.{known_after}
use Rattle.asm_build.proofs.assemble.name_labels.Given as goal

abbrev pub invariant-loop-line : goal.invariant-loop-line
invariant-loop-line l = known_after l.labels (drop l.line-index l.lines) ≡ known_after [] l.lines
