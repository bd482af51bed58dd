use Rattle.std.proofs.Common.{◌≡◌, length}
use Rattle.tn_text.specs.Cut.{parts_at}
use Rattle.asm_text.specs.Arguments.{args_of}
use Rattle.asm_text.specs.Reading.{joined}
use Rattle.asm_text.proofs.arguments.read_parts.Given as goal

abbrev pub invariant-loop-part : goal.invariant-loop-part
invariant-loop-part l = joined l.reading.args l.reading.too_large (args_of (parts_at 44 l.rest)) ≡ args_of (parts_at 44 l.text)

abbrev pub decreases-loop-part : goal.decreases-loop-part
decreases-loop-part l = length l.rest
