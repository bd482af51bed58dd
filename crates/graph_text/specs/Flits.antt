-- The flits that a text's first line gives, whatever else the text says.
use Rattle.std.specs.Prelude.{ℕ, List, [], ◌∷◌, slice_index}
use Rattle.tn_text.specs.declared.numbers.Numeral.{Numeral}
use Rattle.tn_text.specs.declared.numbers.Numeral.TheVariants.{Value, TooLarge, NoNumber}
use Rattle.tn_text.specs.Content.{content_of}
use Rattle.tn_text.specs.NumberLists.{numbers_in}
use Rattle.tn_text.specs.Words.{words_of}

-- the first of two numbers
abbrev pub first_number : Numeral (List ℕ) → ℕ
first_number (Value ns) = slice_index ns 0
first_number TooLarge = 0
first_number NoNumber = 0

abbrev pub words_flits : List (List ℕ) → ℕ
words_flits [] = 0
words_flits (w ∷ ws) = first_number (numbers_in 2 ws)

-- the flits that the first of these lines gives, that of the graph
abbrev pub lines_flits : List (List ℕ) → ℕ
lines_flits [] = 0
lines_flits (l ∷ ls) = words_flits (words_of (content_of l))
