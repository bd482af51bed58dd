use Rattle.tn_run.proofs.drawn.run_drawn.Goals as goal

pub returns-clause-answers : goal.returns-clause-answers
returns-clause-answers g c = record {
  end = c.in_ok-run.run'.end;
  outcome = c.in_ok-run.run'.outcome;
  kept_run = rw c.in_ok-run.ensures.start at c.answered.ensures.run;
  text_is =
      rw (c.answered.ensures.text, c.answered.ensures.history, ← c.in_ok-run.ensures.start)
      (rw c.deref.ensures.value at (rw c.count-count.ensures.number at c.in_ok-text.ensures));
}
