-- A text in two parts.
use Rattle.std.specs.Prelude.{◌≡◌, ℕ, ◌<◌, ◌==◌, nat_lt, not, Bool, true, List, [], ◌∷◌, ◌++◌, length, if◌then◌else◌, Option, Some, None}
use Rattle.std.specs.List.{before_first, after_first, list_all, position_or_len, slice_split}

abbrev pub is_byte : ℕ → ℕ → Bool
is_byte byte b = b == byte

-- no byte of a text is this one
abbrev pub lacks : ℕ → List ℕ → Bool
lacks byte text = list_all (λ b. not (b == byte)) text

-- the bytes before the first such byte and the bytes after it, if the text has one
abbrev pub cut_at : ℕ → List ℕ → Option (List ℕ × List ℕ)
cut_at byte text =
    if nat_lt (position_or_len (is_byte byte) text) (length text)
    then Some (before_first (is_byte byte) text, after_first (is_byte byte) text) else None

-- the parts between such bytes
abbrev pub parts_at : ℕ → List ℕ → List (List ℕ)
parts_at byte text = slice_split (is_byte byte) text

-- the text has no such byte, and so is its one part
pub record IsUncut (byte : ℕ) (text : List ℕ) : Type 0 where
  pub lacks : lacks byte text ≡ true
  pub parts : parts_at byte text ≡ text ∷ []

-- the text is the front, the first such byte and the rest. The front is its first part, and the rest has the other parts
pub record CutsAt (byte : ℕ) (text front rest : List ℕ) : Type 0 where
  pub whole : text ≡ front ++ byte ∷ rest
  pub first : lacks byte front ≡ true
  pub parts : parts_at byte text ≡ front ∷ parts_at byte rest
  pub shorter : length rest < length text
