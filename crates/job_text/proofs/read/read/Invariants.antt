use Rattle.std.proofs.Common.{◌≡◌, ◌+◌, length}
use Rattle.tn_text.specs.Lines.{lines_of}
use Rattle.job_text.specs.Text.{drafted, start}
use Rattle.job_text.proofs.read.read.Given as goal

abbrev pub invariant-loop-front : goal.invariant-loop-front
invariant-loop-front l = record {
  lines : l.line + length (lines_of l.rest) ≡ length (lines_of l.text);
  read : drafted (l.line + 1) (lines_of l.rest) l.draft ≡ drafted 1 (lines_of l.text) start;
}

abbrev pub decreases-loop-front : goal.decreases-loop-front
decreases-loop-front l = length l.rest
