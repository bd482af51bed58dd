-- Bytes and words in hexadecimal digits.
use Rattle.std.specs.Prelude.{ℕ, ◌+◌, ◌++◌, ◌*◌, ◌/◌, ◌%◌, ◌^◌, ◌==◌, ◌&&◌, Bool, List, [], ◌∷◌, length, if◌then◌else◌, Option, Some, None, flat_map}
use Rattle.std.specs.List.{list_all}
use Rattle.std.specs.Char.{is_digit, digit_value, digit_char}
use Rattle.std.specs.Str.Parse.{digits_value}
use Rattle.tn_text.specs.Lines.{feed}

abbrev pub is_hex_digit : ℕ → Bool
is_hex_digit b = is_digit b 16

-- two digits, the high one first
abbrev pub hex_byte_of : ℕ → ℕ → Option ℕ
hex_byte_of a b = if is_hex_digit a && is_hex_digit b then Some (digit_value a * 16 + digit_value b) else None

abbrev pub byte_before : Option ℕ → Option (List ℕ) → Option (List ℕ)
byte_before (Some x) (Some xs) = Some (x ∷ xs)
byte_before (Some x) None = None
byte_before None more = None

-- two digits for each byte
abbrev pub hex_bytes_of : List ℕ → Option (List ℕ)
hex_bytes_of [] = Some []
hex_bytes_of (a ∷ []) = None
hex_bytes_of (a ∷ b ∷ rest) = byte_before (hex_byte_of a b) (hex_bytes_of rest)

-- the same of exactly so many bytes
abbrev pub hex_array_of : ℕ → List ℕ → Option (List ℕ)
hex_array_of n text = if length text == 2 * n then hex_bytes_of text else None

-- eight digits as a number
abbrev pub hex_word_of : List ℕ → Option ℕ
hex_word_of text = if length text == 8 && list_all is_hex_digit text then Some (digits_value 16 text) else None

-- a byte in two digits, in lower case
abbrev pub byte_text : ℕ → List ℕ
byte_text b = digit_char (b / 16) ∷ digit_char (b % 16) ∷ []

abbrev pub hex_text : List ℕ → List ℕ
hex_text bytes = flat_map byte_text bytes

-- a number below 2 ^ 32 in eight digits
abbrev pub hex_word_text : ℕ → List ℕ
hex_word_text n = hex_text (n / 2 ^ 24 ∷ n / 2 ^ 16 % 256 ∷ n / 2 ^ 8 % 256 ∷ n % 256 ∷ [])

-- the line of a word: its eight digits
abbrev pub word_text : ℕ → List ℕ
word_text word = hex_word_text word ++ feed

-- the lines of words, in order
abbrev pub words_text : List ℕ → List ℕ
words_text words = flat_map word_text words
