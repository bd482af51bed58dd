use Rattle.std.proofs.Common.{arith}
use Rattle.tn_text.proofs.Printed.{hex_word_read_back}
use Rattle.tn_text.proofs.print.push_hex_word.Goals as goal

pub returns-clause-read_back : goal.returns-clause-read_back
returns-clause-read_back c = hex_word_read_back c.args.word (omega arith)
