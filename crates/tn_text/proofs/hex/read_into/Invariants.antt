use Rattle.std.proofs.Common.{◌≡◌, ◌*◌, take, drop}
use Rattle.tn_text.specs.Hex.{hex_bytes_of}
use Rattle.tn_text.proofs.Digits.{behind}
use Rattle.tn_text.proofs.hex.read_into.Given as goal

abbrev pub invariant-loop-k : goal.invariant-loop-k
invariant-loop-k l = behind (take l.k l.bytes) (hex_bytes_of (drop (2 * l.k) l.text)) ≡ hex_bytes_of l.text
