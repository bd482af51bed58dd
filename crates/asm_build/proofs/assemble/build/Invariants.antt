use Rattle.std.proofs.Common.{◌≡◌, ◌≤◌, drop, length}
use Rattle.asm_build.specs.Image.{image_after, empty_image}
use Rattle.asm_build.proofs.assemble.build.Given as goal

abbrev pub invariant-loop-line : goal.invariant-loop-line
invariant-loop-line l = record {
  image : image_after l.places l.image (drop l.line-index l.lines) ≡ image_after l.places empty_image l.lines;
  limit : length l.image.words ≤ 16384;
}
