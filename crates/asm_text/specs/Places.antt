-- Tables of names.
use Rattle.std.specs.Prelude.{ℕ, List, Option, bytes_eq}
use Rattle.std.specs.List.{position_from}

-- the place of a text in a table of names
abbrev pub place_in : List ℕ → List (List ℕ) → Option ℕ
place_in text names = position_from (λ name. bytes_eq name text) 0 names
