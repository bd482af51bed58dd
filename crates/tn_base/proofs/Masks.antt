-- What `with_bit` and `without_bit` leave, bit by bit, and which threads a mask names.
use Rattle.std.proofs.Common.{ℕ, ◌≡◌, ◌<◌, ◌≢◌, w64}
use Rattle.std.specs.Int.{bit_at}
use Rattle.std.proofs.lemmas.Nat.Bits.{bit_at_set_same, bit_at_set_other, bit_at_clear_same, bit_at_clear_other}
use Rattle.tn_base.specs.Mask.{with_bit, without_bit}

pub with_same : (m t : ℕ) → t < 64 → bit_at (with_bit m t) t ≡ 1
unfolding with_bit
with_same m t h = bit_at_set_same w64 m t h

pub with_other : (m t i : ℕ) → t < 64 → i ≢ t → bit_at (with_bit m t) i ≡ bit_at m i
unfolding with_bit
with_other m t i h ne = bit_at_set_other w64 m t h i ne

pub without_same : (m t : ℕ) → t < 64 → bit_at (without_bit m t) t ≡ 0
unfolding without_bit
without_same m t h = bit_at_clear_same w64 m t h

pub without_other : (m t i : ℕ) → t < 64 → i < 64 → i ≢ t → bit_at (without_bit m t) i ≡ bit_at m i
unfolding without_bit
without_other m t i h hi ne = bit_at_clear_other w64 m t h i hi ne
