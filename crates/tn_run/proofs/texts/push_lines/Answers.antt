use Rattle.std.proofs.Common.{◌≡◌, ◌∙◌, ◌+◌, ap, length, arith}
use Rattle.tn_text.specs.Lines.{lines_of}
use Rattle.tn_run.specs.Texts.{before, onto, shown_line, shown_lines}
use Rattle.tn_run.proofs.Plainly.{onto_before}
use Rattle.tn_run.proofs.texts.push_lines.Goals as goal

pub loop-front-preserved : goal.loop-front-preserved
loop-front-preserved c =
    let line = shown_line c.loop-front.number c.in-Some.front.now in
    let more = shown_lines (c.loop-front.number + 1) (lines_of c.in-Some.after.now) in
    let here : onto c.loop-front.text.items (before line more) ≡ onto c.args.text.now.items (shown_lines 1 (lines_of c.args.input.now)) =
    rw c.in-Some.ensures.lines at c.loop-front.invariant.made in
    record {
      count = omega (arith, ap length c.in-Some.ensures.lines, c.loop-front.invariant.count);
      made = onto_before c.loop-front.text.items c.push_line.new.text.items line more c.in_ok-push_line.ensures ∙ here;
    }
