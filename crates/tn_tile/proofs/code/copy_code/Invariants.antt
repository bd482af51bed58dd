use Rattle.std.proofs.Common.{◌≡◌, take}
use Rattle.tn_tile.proofs.code.copy_code.Given as goal

abbrev pub invariant-loop-instr : goal.invariant-loop-instr
invariant-loop-instr l = l.all.items ≡ take l.instr-index l.code.items
