-- Keys: the first beat in bits 8 to 31, the number of beats in bits 0 to 7.
use Rattle.std.specs.Prelude.{ℕ, ◌/◌, ◌%◌}

abbrev pub key_first : ℕ → ℕ
key_first key = key / 256

abbrev pub key_count : ℕ → ℕ
key_count key = key % 256
