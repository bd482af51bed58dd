-- Sets of the 64 threads that a tile may have, as the number whose bit t says whether thread t is in the set.
use Rattle.std.specs.Prelude.{ℕ, ◌*◌, ◌/◌, ◌%◌, ◌^◌, ◌&&◌, Bool, nat_lt, bit_and, bit_or, if◌then◌else◌}
use Rattle.std.specs.Int.{bit_not, w64}
use Rattle.tn_base.specs.declared.shape.ShapeNumbers.{ShapeNumbers}

-- the set with thread t added
unfoldable pub with_bit : ℕ → ℕ → ℕ
with_bit m t = bit_or m (1 * 2 ^ t % 2 ^ 64)

-- the set with thread t taken out
unfoldable pub without_bit : ℕ → ℕ → ℕ
without_bit m t = bit_and m (bit_not w64 (1 * 2 ^ t % 2 ^ 64))

-- the sixteen bits of a core's threads name only threads that the machine has there
abbrev pub names_core : ShapeNumbers → ℕ → ℕ → Bool
names_core n m core = nat_lt (m / 2 ^ (16 * core) % 65536) (if nat_lt core n.cores then 2 ^ n.threads else 1)

-- each bit of the mask, core * 16 + thread, is a thread that the machine has on each tile
abbrev pub names_threads : ShapeNumbers → ℕ → Bool
names_threads n m = names_core n m 0 && names_core n m 1 && names_core n m 2 && names_core n m 3
