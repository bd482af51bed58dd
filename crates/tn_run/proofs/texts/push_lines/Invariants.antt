use Rattle.std.proofs.Common.{◌≡◌, ◌+◌, length}
use Rattle.tn_text.specs.Lines.{lines_of}
use Rattle.tn_run.specs.Texts.{onto, shown_lines}
use Rattle.tn_run.proofs.texts.push_lines.Given as goal

abbrev pub invariant-loop-front : goal.invariant-loop-front
invariant-loop-front l = record {
  count : l.number + length (lines_of l.rest) ≡ 1 + length (lines_of l.input);
  made : onto l.text.items (shown_lines l.number (lines_of l.rest)) ≡ onto l.initial.text.items (shown_lines 1 (lines_of l.input));
}

abbrev pub decreases-loop-front : goal.decreases-loop-front
decreases-loop-front l = length l.rest
