use Rattle.std.proofs.Common.{◌≡◌, ◌++◌, drop}
use Rattle.tn_run.specs.Report.{exits_text}
use Rattle.tn_run.proofs.report.push_exits.Given as goal

abbrev pub invariant-loop-part : goal.invariant-loop-part
invariant-loop-part l = l.text.items ++ exits_text (drop l.part-index l.parts) ≡ l.initial.text.items ++ exits_text l.parts
