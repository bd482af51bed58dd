use Rattle.std.proofs.Common.{ℕ, ◌≡◌, List, [], replicate}
use Rattle.tn_pages.proofs.memory.PagedMemory.zeros.Given as goal

abbrev pub invariant-loop-p : goal.invariant-loop-p
invariant-loop-p l = l.pages.items ≡ replicate l._p (let none : List ℕ = [] in none)
