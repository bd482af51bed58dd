use Rattle.std.proofs.Common.{refl}
use Rattle.tn_run.specs.Drawn.{figures_text}
use Rattle.tn_run.proofs.drawn.figures_text.Goals as goal

pub returns : goal.returns
unfolding figures_text
returns c = rw (c.in_ok-push_outcome.ensures, c.in_ok-push_summary.ensures, c.new-text.ensures.items, c.in_ok-summary.ensures) refl
