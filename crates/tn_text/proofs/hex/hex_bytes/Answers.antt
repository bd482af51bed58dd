use Rattle.std.proofs.Common.{sym, arith}
use Rattle.tn_text.proofs.Digits.{hex_bytes_of-odd}
use Rattle.tn_text.proofs.hex.hex_bytes.Goals as goal

pub returns-then-text-ne0 : goal.returns-then-text-ne0
returns-then-text-ne0 c = sym (hex_bytes_of-odd c.args.text.now (omega arith))
