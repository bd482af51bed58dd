-- Numbers in two's complement.
use Rattle.std.specs.Prelude.{ℕ, ℤ, pos, negsuc, suc, ◌-◌, ◌%◌, ◌^◌}

-- the two's complement of a number in 32 bits: the number modulo 2^32
abbrev pub word_number : ℤ → ℕ
word_number (pos n) = n % 2 ^ 32
word_number (negsuc n) = 2 ^ 32 - suc (n % 2 ^ 32)
