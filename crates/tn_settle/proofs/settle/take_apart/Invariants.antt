use Rattle.std.proofs.Common.{◌≡◌, length, map, take}
use Rattle.tn_settle.proofs.settle.take_apart.Given as goal

abbrev pub invariant-loop-part : goal.invariant-loop-part
invariant-loop-part g l = record {
  starts : l.starts.items ≡ map (λ p. p.stamped.start) (take (length l.yielded) l.fn.parts.items);
  journals : map (λ j. j.entries) l.journals.items ≡ map (λ p. p.stamped.entries) (take (length l.yielded) l.fn.parts.items);
  presents : l.presents.items ≡ map (λ p. p.stamped.present) (take (length l.yielded) l.fn.parts.items);
}
