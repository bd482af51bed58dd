use Rattle.std.proofs.Common.{◌≡◌, ◌++◌, take}
use Rattle.tn_text.specs.Hex.{hex_text}
use Rattle.tn_text.proofs.print.push_hex.Given as goal

abbrev pub invariant-loop-byte : goal.invariant-loop-byte
invariant-loop-byte l = l.text.items ≡ l.initial.text.items ++ hex_text (take l.byte-index l.bytes)
