-- The labels of kinds.
use Rattle.std.proofs.Common.{◌≡◌, ℕ, List, Option, codes, refl}
use Rattle.job_faults.specs.Assembly.{LabelList}
use Rattle.job_faults.specs.Labels.{all_given, entries_of, entry_of}

pub five_entries : (labels : LabelList) (kind : List ℕ) (a b c d e : Option ℕ) → a ≡ entry_of labels kind (codes "_init") → b ≡ entry_of labels kind (codes "_send") →
    c ≡ entry_of labels kind (codes "_recv") → d ≡ entry_of labels kind (codes "_step") → e ≡ entry_of labels kind (codes "_finish") →
    all_given a b c d e ≡ entries_of labels kind
unfolding entries_of
five_entries labels kind a b c d e p q r s t = rw (p, q, r, s, t) refl
