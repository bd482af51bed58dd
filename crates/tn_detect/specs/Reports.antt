-- The reports of a detector: for each part its counter when it reported, or none.
use Rattle.std.specs.Prelude.{ℕ, zero, suc, ◌&&◌, Bool, ℤ, pos, ◌+ℤ◌, List, Option, Some, None, is_some, length, slice_index_or}
use Rattle.std.specs.List.{list_all}
use Rattle.std.specs.Ordering.{int_eq}

-- g 0 + .. + g (n - 1)
abbrev pub sum_int : (ℕ → ℤ) → ℕ → ℤ
sum_int g zero = pos 0
sum_int g (suc n) = sum_int g n +ℤ g n

-- the report of part i
abbrev pub report_at : List (Option ℤ) → ℕ → Option ℤ
report_at reports i = slice_index_or reports i None

-- the number that a part reported; a part without a report counts 0
abbrev pub number_of : Option ℤ → ℤ
number_of None = pos 0
number_of (Some counter) = counter

-- what the reports sum to
abbrev pub total : List (Option ℤ) → ℤ
total reports = sum_int (λ i. number_of (report_at reports i)) (length reports)

-- all parts have reports, and these sum to 0
abbrev pub are_balanced : List (Option ℤ) → Bool
are_balanced reports = list_all is_some reports && int_eq (total reports) (pos 0)
