-- Numbers of one, two or four bytes in memory, the lowest byte first.
use Rattle.std.specs.Prelude.{ℕ, ◌+◌, ◌*◌, ◌/◌, ◌%◌, ◌==◌, List, slice_index, slice_set, if◌then◌else◌}

-- the number of `width` bytes at a place; bytes past the end are 0
abbrev pub value_at : List ℕ → ℕ → ℕ → ℕ
value_at bytes at width =
    if width == 1 then slice_index bytes at
    else if width == 2 then slice_index bytes at + 256 * slice_index bytes (at + 1)
    else slice_index bytes at + 256 * slice_index bytes (at + 1) + 65536 * slice_index bytes (at + 2) + 16777216 * slice_index bytes (at + 3)

-- the bytes after the low `width` bytes of a value are written at a place
abbrev pub written : List ℕ → ℕ → ℕ → ℕ → List ℕ
written bytes at width value =
    if width == 1 then slice_set bytes at (value % 256)
    else if width == 2 then slice_set (slice_set bytes at (value % 256)) (at + 1) (value / 256 % 256)
    else slice_set (slice_set (slice_set (slice_set bytes at (value % 256)) (at + 1) (value / 256 % 256)) (at + 2) (value / 65536 % 256)) (at + 3) (value / 16777216)
