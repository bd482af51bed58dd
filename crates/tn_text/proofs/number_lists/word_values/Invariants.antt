use Rattle.std.proofs.Common.{◌≡◌, length}
use Rattle.tn_text.specs.Words.{words_of}
use Rattle.tn_text.specs.NumberLists.{word_values_of}
use Rattle.tn_text.proofs.Joined.{joined}
use Rattle.tn_text.proofs.number_lists.word_values.Given as goal

abbrev pub invariant-loop-word : goal.invariant-loop-word
invariant-loop-word l = joined l.values l.too_large (word_values_of (words_of l.rest)) ≡ word_values_of (words_of l.line)

abbrev pub decreases-loop-word : goal.decreases-loop-word
decreases-loop-word l = length l.rest
