use Rattle.std.proofs.Common.{◌≡◌, drop, find}
use Rattle.std.specs.Str.{bytes_eq}
use Rattle.asm_build.specs.Spelling.{name_of}
use Rattle.asm_build.proofs.spelling.named_among.Given as goal

abbrev pub invariant-loop-op : goal.invariant-loop-op
invariant-loop-op l = find (λ op. bytes_eq (name_of op) l.name) (drop l.op-index l.ops) ≡ find (λ op. bytes_eq (name_of op) l.name) l.ops
