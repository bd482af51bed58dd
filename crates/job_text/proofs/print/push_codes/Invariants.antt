use Rattle.std.proofs.Common.{◌≡◌, ◌++◌, take, flat_map}
use Rattle.job_text.specs.Printed.{code_text}
use Rattle.job_text.proofs.print.push_codes.Given as goal

abbrev pub invariant-loop-section : goal.invariant-loop-section
invariant-loop-section l = l.text.items ≡ l.initial.text.items ++ flat_map code_text (take l.section-index l.codes)
