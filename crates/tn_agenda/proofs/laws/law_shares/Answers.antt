use Rattle.tn_agenda.proofs.Shares.{starts_first, starts_last, starts_rise}
use Rattle.tn_agenda.proofs.laws.law_shares.Goals as goal

pub returns : goal.returns
returns c = record { begins = starts_first; ends = starts_last; rises = starts_rise }
