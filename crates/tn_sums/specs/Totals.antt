-- Sums over numbers below a bound, and over lists.
use Rattle.std.specs.Prelude.{ℕ, suc, zero, ◌+◌, List, [], ◌∷◌}

-- f 0 + f 1 + .. + f (n - 1)
unfoldable pub total : (ℕ → ℕ) → ℕ → ℕ
total f zero = 0
total f (suc n) = total f n + f n

-- the sum over the items of a list, from the front
abbrev pub weigh : {X : Type 0} → (X → ℕ) → List X → ℕ
weigh f [] = 0
weigh f (x ∷ xs) = f x + weigh f xs
