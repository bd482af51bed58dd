use Rattle.std.proofs.Common.{◌≡◌, ◌+◌, length}
use Rattle.tn_text.specs.Lines.{lines_of}
use Rattle.tn_text.specs.Reading.{built_from, line_says}
use Rattle.graph_text.specs.declared.graph.GraphKind.TheVariants.{BadLine}
use Rattle.graph_text.specs.Line.{content_line}
use Rattle.graph_text.specs.Text.{graph_of, line_added, whole_of}
use Rattle.graph_text.proofs.read.read.Given as goal

abbrev pub invariant-loop-line : goal.invariant-loop-line
invariant-loop-line l = record {
  count : l.number + 1 + length (lines_of l.rest) ≡ l.first + length (lines_of l.lines);
  read : whole_of l.first (built_from (line_says BadLine content_line) line_added (l.number + 1) (lines_of l.rest) l.draft) ≡ graph_of l.first (lines_of l.lines);
}

abbrev pub decreases-loop-line : goal.decreases-loop-line
decreases-loop-line l = length l.rest
