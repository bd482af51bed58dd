use Rattle.std.proofs.Common.{◌≡◌, ◌++◌, take, flat_map}
use Rattle.job_text.specs.Printed.{fill_text}
use Rattle.job_text.proofs.print.push_fills.Given as goal

abbrev pub invariant-loop-fill : goal.invariant-loop-fill
invariant-loop-fill l = l.text.items ≡ l.initial.text.items ++ flat_map fill_text (take l.fill-index l.fills)
