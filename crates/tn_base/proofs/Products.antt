-- Products of small numbers.
use Rattle.std.proofs.Common.{ℕ, ◌*◌, ◌≤◌}
use Rattle.std.proofs.lemmas.Nat.{mul-le}

pub four_sides : (a b c d : ℕ) → a ≤ 4 → b ≤ 4 → c ≤ 4 → d ≤ 4 → a * b * c * d ≤ 256
four_sides a b c d p q r s = mul-le (a * b * c) d 64 4 (mul-le (a * b) c 16 4 (mul-le a b 4 4 p q) r) s

pub five_sides : (a b c d e : ℕ) → a ≤ 4 → b ≤ 4 → c ≤ 4 → d ≤ 4 → e ≤ 4 → a * b * c * d * e ≤ 1024
five_sides a b c d e p q r s t = mul-le (a * b * c * d) e 256 4 (four_sides a b c d p q r s) t

pub six_sides : (a b c d e f : ℕ) → a ≤ 4 → b ≤ 4 → c ≤ 4 → d ≤ 4 → e ≤ 4 → f ≤ 16 → a * b * c * d * e * f ≤ 16384
six_sides a b c d e f p q r s t u = mul-le (a * b * c * d * e) f 1024 16 (five_sides a b c d e p q r s t) u
