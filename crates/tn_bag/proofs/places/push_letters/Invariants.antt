use Rattle.std.proofs.Common.{◌≡◌, ◌++◌, map, drop}
use Rattle.tn_bag.proofs.places.push_letters.Given as goal

abbrev pub invariant-loop-letter : goal.invariant-loop-letter
invariant-loop-letter l = l.all.items ++ map (λ x. (l.place, x)) (drop l.letter-index l.letters) ≡ l.initial.all.items ++ map (λ x. (l.place, x)) l.letters
