use Rattle.std.proofs.Common.{◌≡◌, ◌+◌, ◌*◌, length, take}
use Rattle.tn_keys.specs.Written.{bytes_with}
use Rattle.tn_keys.proofs.write.write_chunks.Given as goal

abbrev pub invariant-loop-i : goal.invariant-loop-i
invariant-loop-i l = record {
  long : length l.bytes ≡ 32;
  so_far : take (2 + 6 * l.i) l.bytes ≡ bytes_with l.used (take l.i l.chunks);
}
