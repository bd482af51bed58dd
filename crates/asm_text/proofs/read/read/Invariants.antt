use Rattle.std.proofs.Common.{◌≡◌, ◌+◌, length}
use Rattle.tn_text.specs.Lines.{lines_of}
use Rattle.tn_text.proofs.ReadFrom.{onto}
use Rattle.asm_text.specs.Text.{lines_from}
use Rattle.asm_text.proofs.read.read.Given as goal

abbrev pub invariant-loop-line : goal.invariant-loop-line
invariant-loop-line l = record {
  count : l.number + length (lines_of l.rest) ≡ l.first + length (lines_of l.text);
  read : onto l.lines (lines_from l.number (lines_of l.rest)) ≡ lines_from l.first (lines_of l.text);
}

abbrev pub decreases-loop-line : goal.decreases-loop-line
decreases-loop-line l = length l.rest
