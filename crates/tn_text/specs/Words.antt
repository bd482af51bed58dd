-- The words of a line.
use Rattle.std.specs.Prelude.{◌≡◌, ℕ, ◌<◌, Bool, true, false, List, [], ◌∷◌, length, drop, filter, Option, Some, None}
use Rattle.std.specs.List.{before_first, slice_split}
use Rattle.tn_text.specs.Content.{is_space, without_front_spaces}

abbrev pub is_some_text : List ℕ → Bool
is_some_text [] = false
is_some_text (b ∷ bs) = true

-- what stands between spaces
abbrev pub words_of : List ℕ → List (List ℕ)
words_of line = filter is_some_text (slice_split is_space line)

-- a word after another, as texts are printed
abbrev pub spaced : List ℕ → List ℕ
spaced word = 32 ∷ word

-- the word goes up to the first space behind the spaces at the front, and the rest begins there
pub record StartsWord (line word rest : List ℕ) : Type 0 where
  pub word_is : word ≡ before_first is_space (without_front_spaces line)
  pub rest_is : rest ≡ drop (length word) (without_front_spaces line)
  pub words : words_of line ≡ word ∷ words_of rest
  pub shorter : length rest < length line

-- the words, where there are exactly so many

abbrev pub one_of : List (List ℕ) → Option (List ℕ)
one_of (a ∷ []) = Some a
one_of _ = None

abbrev pub two_of : List (List ℕ) → Option (List ℕ × List ℕ)
two_of (a ∷ b ∷ []) = Some (a, b)
two_of _ = None

abbrev pub three_of : List (List ℕ) → Option (List ℕ × List ℕ × List ℕ)
three_of (a ∷ b ∷ c ∷ []) = Some (a, b, c)
three_of _ = None
