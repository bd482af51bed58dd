use Rattle.tn_turns.proofs.Numbers.{in_words}
use Rattle.tn_turns.proofs.laws.law_seats.Goals as goal

pub returns : goal.returns
returns g c = λ shown s r. in_words shown s r
