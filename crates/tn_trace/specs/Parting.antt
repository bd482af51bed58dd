-- A text in two: what comes before its first line `%%`, and what comes behind it.
use Rattle.std.specs.Prelude.{ℕ, zero, suc, ◌≡◌, ◌+◌, Bool, List, [], ◌∷◌, length, Option, Some, None, codes, bytes_eq, if◌then◌else◌, option_map}
use Rattle.std.specs.List.{after_first, before_first, list_any}
use Rattle.tn_text.specs.Content.{content_of}
use Rattle.tn_text.specs.Lines.{lines_of}

-- a line `%%`; comments and the spaces at its ends count for nothing
abbrev pub is_parting : List ℕ → Bool
is_parting line = bytes_eq (content_of line) (codes "%%")

-- the lines behind the first line `%%`, if there is such a line
abbrev pub lines_behind : List (List ℕ) → Option (List (List ℕ))
lines_behind lines = if list_any is_parting lines then Some (after_first is_parting lines) else None

-- the number of the line `%%`; without such a line that of the last line
abbrev pub parting_line : List (List ℕ) → ℕ
parting_line lines = if list_any is_parting lines then length (before_first is_parting lines) + 1 else length lines

-- the front has the lines before the first line `%%`, and the rest has those behind it
pub record Parts (lines : List (List ℕ)) (front : List ℕ) (line : ℕ) (rest : Option (List ℕ)) : Type 0 where
  pub front_is : lines_of front ≡ before_first is_parting lines
  pub line_is : line ≡ parting_line lines
  pub rest_is : option_map lines_of rest ≡ lines_behind lines

-- the number of a line that says something, before those of the lines behind it
abbrev pub numbered : ℕ → List ℕ → List ℕ → List ℕ
numbered number [] more = more
numbered number (b ∷ bs) more = number ∷ more

-- the numbers of the lines that say something, in order, the first line having this number
abbrev pub said_on : ℕ → List (List ℕ) → List ℕ
said_on first [] = []
said_on first (l ∷ ls) = numbered first (content_of l) (said_on (first + 1) ls)

-- how many lines that say something are left to pass behind a line with this content; none if the line itself is looked for
abbrev pub left_behind : List ℕ → ℕ → Option ℕ
left_behind [] left = Some left
left_behind (b ∷ bs) zero = None
left_behind (b ∷ bs) (suc left) = Some left
