use Rattle.std.proofs.Common.{◌≡◌, ◌∙◌, ◌+◌, ap, length, arith}
use Rattle.tn_text.specs.Lines.{lines_of}
use Rattle.tn_text.specs.Reading.{said_before}
use Rattle.tn_text.proofs.ReadFrom.{onto, onto_line}
use Rattle.asm_text.specs.Statement.{line_of}
use Rattle.asm_text.specs.Text.{lines_from}
use Rattle.asm_text.proofs.read.read.Goals as goal

pub loop-line-preserved : goal.loop-line-preserved
loop-line-preserved c =
    let number = c.loop-line.number in
    let said = line_of number c.in-Some.line.now in
    let more = lines_from (number + 1) (lines_of c.in-Some.after.now) in
    let here : onto c.loop-line.lines (said_before number said more) ≡ lines_from c.args.first (lines_of c.args.text.now) =
    rw c.in-Some.ensures.lines at c.loop-line.invariant.read in
    record {
      count = omega (arith, ap length c.in-Some.ensures.lines, c.loop-line.invariant.count);
      read = onto_line number c.loop-line.lines c.take_line.new.lines said more c.in_default-take_line.ensures ∙ here;
    }
