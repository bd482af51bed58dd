-- How a detector keeps its reports: what each part told is a report in the round in which the part told it.
use Rattle.std.specs.Prelude.{ℕ, ◌≡◌, ◌<◌, ◌≤◌, ◌==◌, ◌^◌, ℤ, pos, neg_ℤ, ◌≤ℤ◌, List, Option, Some, None, is_none, length, map, sum_by, slice_index_or, if◌then◌else◌}
use Rattle.tn_detect.specs.declared.reports.Told.{Told}
use Rattle.tn_detect.specs.Reports.{total}

abbrev pub untold : Told
untold = record { round = 0; counter = pos 0 }

-- the report in a round of what a part told; and the reports of all parts
abbrev pub shown : ℕ → Told → Option ℤ
shown round t = if t.round == round then Some t.counter else None

abbrev pub shown_in : ℕ → List Told → List (Option ℤ)
shown_in round told = map (shown round) told

abbrev pub told_by : List Told → ℕ → Told
told_by told i = slice_index_or told i untold

-- what a part told that has this report in a round, or none
abbrev pub told_in : ℕ → Option ℤ → Told
told_in round None = untold
told_in round (Some counter) = record { round = round; counter = counter }

-- how many reports are missing of one part
abbrev pub missing_in : Option ℤ → ℕ
missing_in report = if is_none report then 1 else 0

-- each part told its counter in a round up to this one, and the counter is one of 64 bits
pub record IsToldUntil (round : ℕ) (told : List Told) : Type 0 where
  pub few : length told < 2 ^ 32
  pub rounds : (i : ℕ) → i < length told → (told_by told i).round ≤ round
  pub low : (i : ℕ) → i < length told → neg_ℤ (pos (2 ^ 63)) ≤ℤ (told_by told i).counter
  pub high : (i : ℕ) → i < length told → (told_by told i).counter ≤ℤ pos (2 ^ 63)

-- how many reports are missing and what the reports sum to, in a round that is not over
pub record IsSummed (told : List Told) (round lacking : ℕ) (all : ℤ) : Type 0 where
  pub begun : 0 < round
  pub until : IsToldUntil round told
  pub missing : lacking ≡ sum_by missing_in (shown_in round told)
  pub sum : all ≡ total (shown_in round told)
