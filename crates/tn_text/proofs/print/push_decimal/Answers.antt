use Rattle.std.proofs.Common.{arith}
use Rattle.tn_text.proofs.Printed.{decimal_read_back}
use Rattle.tn_text.proofs.print.push_decimal.Goals as goal

pub returns-in_err-digits-clause-read_back : goal.returns-in_err-digits-clause-read_back
returns-in_err-digits-clause-read_back c = decimal_read_back c.args.number (omega arith)

pub returns-clause-read_back : goal.returns-clause-read_back
returns-clause-read_back c = decimal_read_back c.args.number (omega arith)
