-- A mask without one of its threads.
use Rattle.std.proofs.Common.{ℕ, ◌*◌, ◌<◌, ◌≤◌, ◌^◌, ◌%◌, arith}
use Rattle.std.specs.Int.{bit_not, w64}
use Rattle.std.proofs.lemmas.Nat.{and_le_l}
use Rattle.tn_base.specs.Mask.{without_bit}

pub without_le : (m t : ℕ) → without_bit m t ≤ m
unfolding without_bit
without_le m t = and_le_l m (bit_not w64 (1 * 2 ^ t % 2 ^ 64))

pub without_below : (m t n : ℕ) → m < 2 ^ n → without_bit m t < 2 ^ n
without_below m t n h = let e = without_le m t in omega arith
