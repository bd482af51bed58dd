-- Paged memory as its callers see it.
use Rattle.std.specs.Prelude.{ℕ, zero, suc, ◌+◌, ◌-◌, ◌*◌, ◌/◌, ◌==◌, ◌||◌, Bool, true, false, not, List, ◌++◌, length, map, replicate, slice_index, slice_set}
use Rattle.std.specs.List.{count_by, range_with_len}
use Rattle.tn_pages.specs.Numbers.{written}

-- the bytes of a memory, and for each of its pages, in order, whether it is made
pub record Paged : Type 0 where
  pub bytes : List ℕ
  pub made : List Bool

-- how many pages it takes to hold so many bytes
abbrev pub pages_for : ℕ → ℕ
pages_for size = (size + 255) / 256

-- one of n bytes from a place on is not 0; bytes past the end are 0
unfoldable pub has_in : List ℕ → ℕ → ℕ → Bool
has_in bytes at zero = false
has_in bytes at (suc n) = not (slice_index bytes at == 0) || has_in bytes (at + 1) n

-- a byte of page p is not 0
abbrev pub has_value : List ℕ → ℕ → Bool
has_value bytes p = has_in bytes (256 * p) 256

-- so many bytes: those of the image, and zeros behind them
abbrev pub filled : ℕ → List ℕ → List ℕ
filled size image = image ++ replicate (size - length image) 0

-- the memory of these bytes at its start: the pages are made that have a byte other than 0
abbrev pub started_with : ℕ → List ℕ → Paged
started_with size bytes = record {
  bytes = bytes;
  made = map (has_value bytes) (range_with_len 0 (pages_for size));
}

abbrev pub started : ℕ → List ℕ → Paged
started size image = started_with size (filled size image)

-- a memory after the low `width` bytes of a value are written at a place: the page of that place is made
abbrev pub stored_in : Paged → ℕ → ℕ → ℕ → Paged
stored_in m at width value = record {
  bytes = written m.bytes at width value;
  made = slice_set m.made (at / 256) true;
}

-- how many pages of a memory are made
abbrev pub pages_made : Paged → ℕ
pages_made m = count_by (λ made. made) m.made
