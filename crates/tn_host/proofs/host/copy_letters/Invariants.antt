use Rattle.std.proofs.Common.{◌≡◌, take}
use Rattle.tn_host.proofs.host.copy_letters.Given as goal

abbrev pub invariant-loop-letter : goal.invariant-loop-letter
invariant-loop-letter l = l.all.items ≡ take l.letter-index l.letters.items
