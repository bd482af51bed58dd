-- The free slots of a pool, as words of 64 bits.
use Rattle.std.specs.Prelude.{ℕ, ◌/◌, ◌%◌, ◌≤◌, ◌≡◌, ◌==◌, Bool, false, List, map, slice_index}
use Rattle.std.specs.List.{range_with_len}
use Rattle.std.specs.Int.{bit_at}

-- the bit of slot s, in the word of its 64 slots, is one
abbrev pub is_marked : List ℕ → ℕ → Bool
is_marked words s = bit_at (slice_index words (s / 64)) (s % 64) == 1

-- for each slot, in order, whether it is free
abbrev pub flags : List ℕ → ℕ → List Bool
flags words count = map (is_marked words) (range_with_len 0 count)

-- the words have a bit for each slot, and no bit past the last slot is one
pub record WordsFit (words : List ℕ) (count : ℕ) : Type 0 where
  pub few : count ≤ 512
  pub none_past : (s : ℕ) → count ≤ s → is_marked words s ≡ false
