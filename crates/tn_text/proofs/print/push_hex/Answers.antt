use Rattle.tn_text.proofs.Printed.{hex_read_back}
use Rattle.tn_text.proofs.print.push_hex.Goals as goal

pub returns-then-is_err-clause-read_back : goal.returns-then-is_err-clause-read_back
returns-then-is_err-clause-read_back c = hex_read_back c.args.bytes.now c.type_inv.bytes

pub returns-clause-read_back : goal.returns-clause-read_back
returns-clause-read_back c = hex_read_back c.args.bytes.now c.type_inv.bytes
