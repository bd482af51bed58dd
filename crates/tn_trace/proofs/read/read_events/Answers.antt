use Rattle.std.proofs.Common.{◌≡◌, ◌∙◌, ◌+◌, ap, length, arith}
use Rattle.tn_text.specs.Lines.{lines_of}
use Rattle.tn_text.specs.Reading.{said_before}
use Rattle.tn_text.proofs.ReadFrom.{onto, onto_line}
use Rattle.tn_trace.specs.Reading.{events_of, text_line}
use Rattle.tn_trace.proofs.read.read_events.Goals as goal

pub loop-line-preserved : goal.loop-line-preserved
loop-line-preserved c =
    let number = c.loop-line.number in
    let said = text_line number c.in-Some.line.now in
    let more = events_of (number + 1) (lines_of c.in-Some.after.now) in
    let here : onto c.loop-line.events (said_before number said more) ≡ events_of c.args.first (lines_of c.args.text.now) =
    rw c.in-Some.ensures.lines at c.loop-line.invariant.read in
    record {
      count = omega (arith, ap length c.in-Some.ensures.lines, c.loop-line.invariant.count);
      read = onto_line number c.loop-line.events c.take_line.new.events said more c.in_default-take_line.ensures ∙ here;
    }
