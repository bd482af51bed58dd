use Rattle.tn_stamp.proofs.Merged.{own_at, shared}
use Rattle.tn_stamp.proofs.laws.law_pairs.Goals as goal

pub returns : goal.returns
returns c = record {
  both = λ js p i e q h is. shared js p i e q h is;
  no_other = λ js p i e q h is. (rw is at (own_at js p i e h)).2;
}
