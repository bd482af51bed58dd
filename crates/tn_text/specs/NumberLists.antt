-- Several numbers, one a word.
use Rattle.std.specs.Prelude.{◌≡◌, ℕ, ◌==◌, Bool, true, List, [], ◌∷◌, length, if◌then◌else◌, Option, Some, None}
use Rattle.tn_text.specs.declared.numbers.Numeral.{Numeral}
use Rattle.tn_text.specs.declared.numbers.Numeral.TheVariants.{Value, TooLarge, NoNumber}
use Rattle.tn_text.specs.Numbers.{number_of, word_value_of}

-- no number is worse than a number that is too large, whichever word it is
abbrev pub number_before : Numeral ℕ → Numeral (List ℕ) → Numeral (List ℕ)
number_before NoNumber more = NoNumber
number_before (Value n) (Value ns) = Value (n ∷ ns)
number_before (Value n) TooLarge = TooLarge
number_before (Value n) NoNumber = NoNumber
number_before TooLarge (Value ns) = TooLarge
number_before TooLarge TooLarge = TooLarge
number_before TooLarge NoNumber = NoNumber

-- each word read in this way
abbrev pub numbers_by : (List ℕ → Numeral ℕ) → List (List ℕ) → Numeral (List ℕ)
numbers_by read [] = Value []
numbers_by read (w ∷ ws) = number_before (read w) (numbers_by read ws)

abbrev pub numbers_of : List (List ℕ) → Numeral (List ℕ)
numbers_of words = numbers_by number_of words

abbrev pub word_values_of : List (List ℕ) → Numeral (List ℕ)
word_values_of words = numbers_by word_value_of words

-- so many words, each of them a number
abbrev pub numbers_in : ℕ → List (List ℕ) → Numeral (List ℕ)
numbers_in n words = if length words == n then numbers_of words else NoNumber

-- the value of one more number, and whether one so far was too large
abbrev pub taken_of : Bool → Numeral ℕ → Option (ℕ × Bool)
taken_of large NoNumber = None
taken_of large (Value n) = Some (n, large)
taken_of large TooLarge = Some (0, true)

-- the values are the numbers that were read, if all have at most 32 bits
abbrev pub Reads : Numeral Unit → List ℕ → Numeral (List ℕ) → Type 0
Reads (Value done) values read = read ≡ Value values
Reads TooLarge values read = read ≡ TooLarge
Reads NoNumber values read = read ≡ NoNumber
