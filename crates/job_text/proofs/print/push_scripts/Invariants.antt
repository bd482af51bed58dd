use Rattle.std.proofs.Common.{◌≡◌, ◌++◌, take, flat_map}
use Rattle.job_text.specs.Printed.{script_text}
use Rattle.job_text.proofs.print.push_scripts.Given as goal

abbrev pub invariant-loop-line : goal.invariant-loop-line
invariant-loop-line l = l.text.items ≡ l.initial.text.items ++ flat_map script_text (take l.line-index l.script)
