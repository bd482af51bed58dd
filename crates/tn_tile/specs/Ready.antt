-- The first place that passes a test, and words of which each bit says whether a place passes it.
use Rattle.std.specs.Prelude.{ℕ, ◌≡◌, ◌≤◌, ◌<◌, ◌==◌, Bool, true, false, Option, Some, None}
use Rattle.std.specs.Int.{bit_at}

-- k is the first place from `low` on, of those below `count`, that passes the test
pub record IsFirstAt (test : ℕ → Bool) (low count k : ℕ) : Type 0 where
  pub from : low ≤ k
  pub within : k < count
  pub passes : test k ≡ true
  pub first : (j : ℕ) → low ≤ j → j < k → test j ≡ false

-- the first place, if a place from `low` on passes
abbrev pub IsFirst : (ℕ → Bool) → ℕ → ℕ → Option ℕ → Type 0
IsFirst test low count None = (k : ℕ) → low ≤ k → k < count → test k ≡ false
IsFirst test low count (Some k) = IsFirstAt test low count k

-- each bit of the word says whether its place passes
pub record Marks (test : ℕ → Bool) (word : ℕ) : Type 0 where
  pub each : (k : ℕ) → k < 64 → (bit_at word k == 1) ≡ test k

-- after a look at these places their bits are right, and all other bits are as they were
pub record LooksAt (before after places : ℕ) (test : ℕ → Bool) : Type 0 where
  pub seen : (k : ℕ) → k < 64 → bit_at places k ≡ 1 → (bit_at after k == 1) ≡ test k
  pub kept : (k : ℕ) → k < 64 → bit_at places k ≡ 0 → bit_at after k ≡ bit_at before k
