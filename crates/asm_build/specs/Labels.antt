-- Labels and their addresses.
use Rattle.std.specs.Prelude.{ℕ, Bool, false, List, [], ◌∷◌, ◌++◌, if◌then◌else◌, Option, Some, None, is_some, bytes_eq}
use Rattle.std.specs.Map.{lookup}

-- the address of a label
abbrev pub address_of : List ℕ → List (List ℕ × ℕ) → Option ℕ
address_of name labels = lookup (bytes_eq name) labels

-- one more label. One that is there keeps its address
abbrev pub with_label : List ℕ → ℕ → List (List ℕ × ℕ) → List (List ℕ × ℕ)
with_label name address labels = if is_some (address_of name labels) then labels else labels ++ (name, address) ∷ []

-- the label of a line is among these
abbrev pub stood : Option (List ℕ) → List (List ℕ × ℕ) → Bool
stood None labels = false
stood (Some name) labels = is_some (address_of name labels)

-- with the label of a line, if it has one
abbrev pub labelled : Option (List ℕ) → ℕ → List (List ℕ × ℕ) → List (List ℕ × ℕ)
labelled None address labels = labels
labelled (Some name) address labels = with_label name address labels
