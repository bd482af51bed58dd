use Rattle.std.proofs.Common.{◌≡◌, ◌++◌, map, drop}
use Rattle.std.specs.List.{filter}
use Rattle.tn_letters.specs.declared.steps.BagStep.TheVariants as bag
use Rattle.tn_letters.specs.Steps.{is_for_dead}
use Rattle.tn_bag.proofs.spell.push_dead.Given as goal

abbrev pub invariant-loop-letter : goal.invariant-loop-letter
invariant-loop-letter l = l.all.items ++ map bag.Discard (filter (is_for_dead l.tile) (drop l.letter-index l.letters)) ≡ l.initial.all.items ++ map bag.Discard (filter (is_for_dead l.tile) l.letters)
