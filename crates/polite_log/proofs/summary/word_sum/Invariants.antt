use Rattle.std.proofs.Common.{◌≡◌, ◌+◌, ◌%◌, ◌^◌, drop}
use Rattle.std.specs.Prelude.{sum_by}
use Rattle.tn_base.specs.declared.message.Letter.{Letter}
use Rattle.polite_log.specs.Summary.{second_word, word_sum}
use Rattle.polite_log.proofs.summary.word_sum.Given as goal

abbrev pub invariant-loop-letter : goal.invariant-loop-letter
invariant-loop-letter l = (l.sum + sum_by (λ (m : Letter). second_word m.bytes) (drop l.letter-index l.letters)) % 2 ^ 32 ≡ word_sum l.letters
