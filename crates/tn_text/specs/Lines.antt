-- A text and its lines.
use Rattle.std.specs.Prelude.{◌≡◌, ℕ, ◌<◌, ◌==◌, Bool, List, [], ◌∷◌, length, if◌then◌else◌}
use Rattle.std.specs.List.{before_first, after_first}

-- a line feed
abbrev pub is_feed : ℕ → Bool
is_feed b = b == 10

-- a line feed, with which a printed line ends
abbrev pub feed : List ℕ
feed = 10 ∷ []

-- a byte before a line feed goes onto the first line
abbrev pub onto_line : ℕ → List (List ℕ) → List (List ℕ)
onto_line b [] = (b ∷ []) ∷ []
onto_line b (l ∷ ls) = (b ∷ l) ∷ ls

-- each line ends with a line feed, the last also with the end of the text
abbrev pub lines_of : List ℕ → List (List ℕ)
lines_of [] = []
lines_of (b ∷ bs) = if is_feed b then [] ∷ lines_of bs else onto_line b (lines_of bs)

-- the line is what stands before the first line feed of the text, and the rest what stands behind it
pub record StartsLine (text line rest : List ℕ) : Type 0 where
  pub line_is : line ≡ before_first is_feed text
  pub rest_is : rest ≡ after_first is_feed text
  pub lines : lines_of text ≡ line ∷ lines_of rest
  pub shorter : length rest < length text
