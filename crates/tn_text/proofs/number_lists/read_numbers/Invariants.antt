use Rattle.std.proofs.Common.{◌≡◌, ◌+◌, length, take}
use Rattle.tn_text.specs.Words.{words_of}
use Rattle.tn_text.specs.NumberLists.{numbers_of}
use Rattle.tn_text.proofs.Joined.{joined}
use Rattle.tn_text.proofs.number_lists.read_numbers.Given as goal

abbrev pub invariant-loop-value : goal.invariant-loop-value
invariant-loop-value l = record {
  words : length (words_of l.rest) + l.value-index ≡ length (words_of l.line);
  read : joined (take l.value-index l.values) l.too_large (numbers_of (words_of l.rest)) ≡ numbers_of (words_of l.line);
}
