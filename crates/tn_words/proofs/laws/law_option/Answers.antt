use Rattle.tn_words.proofs.Places.{apart, joined, left_out, lone}
use Rattle.tn_words.proofs.laws.law_option.Goals as goal

pub returns-clause-apart : goal.returns-clause-apart
returns-clause-apart c = apart

pub returns-clause-joined : goal.returns-clause-joined
returns-clause-joined c = joined

pub returns-clause-absent : goal.returns-clause-absent
returns-clause-absent c = left_out

pub returns-clause-lone : goal.returns-clause-lone
returns-clause-lone c = lone
