use Rattle.std.proofs.Common.{◌≡◌, take}
use Rattle.tn_pages.specs.Paged.{started}
use Rattle.tn_pages.proofs.memory.PagedMemory.new.Given as goal

abbrev pub invariant-loop-at : goal.invariant-loop-at
invariant-loop-at l = l.memory ≡ started l.fn.size (take l.at l.image)
