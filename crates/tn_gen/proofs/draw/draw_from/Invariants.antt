use Rattle.std.proofs.Common.{◌≡◌, ◌-◌, ◌++◌}
use Rattle.tn_gen.specs.Drawn.{next_words}
use Rattle.tn_gen.proofs.draw.draw_from.Given as goal

abbrev pub invariant-loop-place : goal.invariant-loop-place
invariant-loop-place g l = l.words.items ++ next_words (l.count - l.place) (g.R.Rng.stream l.rng) ≡ next_words l.count (g.R.Rng.stream l.initial.rng)
