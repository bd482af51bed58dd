use Rattle.std.proofs.Common.{◌≡◌, ◌++◌, take, flat_map}
use Rattle.job_text.specs.Printed.{asm_text}
use Rattle.job_text.proofs.print.push_asms.Given as goal

abbrev pub invariant-loop-section : goal.invariant-loop-section
invariant-loop-section l = l.text.items ≡ l.initial.text.items ++ flat_map asm_text (take l.section-index l.asms)
