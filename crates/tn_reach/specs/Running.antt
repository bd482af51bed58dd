-- Numbers that are kept as the sums of the first of them: of none, of one, and so on.
use Rattle.std.specs.Prelude.{ℕ, ◌≤◌, ◌-◌, List, [], ◌∷◌}

-- what each sum adds to the one before
abbrev pub steps : List ℕ → List ℕ
steps [] = []
steps (a ∷ []) = []
steps (a ∷ b ∷ sums) = (b - a) ∷ steps (b ∷ sums)

-- no sum is below the one before
abbrev pub Rising : List ℕ → Type 0
Rising [] = Unit {0}
Rising (a ∷ []) = Unit {0}
Rising (a ∷ b ∷ sums) = (a ≤ b) × Rising (b ∷ sums)
