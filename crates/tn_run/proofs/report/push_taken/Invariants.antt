use Rattle.std.proofs.Common.{◌≡◌, ◌++◌, drop}
use Rattle.tn_run.specs.Report.{taken_text}
use Rattle.tn_run.proofs.report.push_taken.Given as goal

abbrev pub invariant-loop-part : goal.invariant-loop-part
invariant-loop-part l = l.text.items ++ taken_text (drop l.part-index l.parts) ≡ l.initial.text.items ++ taken_text l.parts
