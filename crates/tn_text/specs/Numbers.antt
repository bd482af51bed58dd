-- The numbers of texts.
use Rattle.std.specs.Prelude.{ℕ, ◌^◌, ◌-◌, ◌%◌, ◌==◌, ◌&&◌, nat_lt, nat_le, Bool, List, [], ◌∷◌, length, take, drop, if◌then◌else◌, codes, ℤ, pos, neg_ℤ, bytes_eq}
use Rattle.std.specs.List.{list_all}
use Rattle.std.specs.Char.{is_digit}
use Rattle.std.specs.Str.Parse.{digits_value}
use Rattle.tn_text.specs.declared.numbers.Numeral.{Numeral}
use Rattle.tn_text.specs.declared.numbers.Numeral.TheVariants.{Value, TooLarge, NoNumber}

-- one digit or more, and nothing else
abbrev pub is_numeral : ℕ → List ℕ → Bool
is_numeral radix text = nat_lt 0 (length text) && list_all (λ b. is_digit b radix) text

abbrev pub in_32_bits : ℕ → Numeral ℕ
in_32_bits n = if nat_lt n (2 ^ 32) then Value n else TooLarge

-- digits in this radix
abbrev pub numeral_of : ℕ → List ℕ → Numeral ℕ
numeral_of radix text = if is_numeral radix text then in_32_bits (digits_value radix text) else NoNumber

abbrev pub decimal_of : List ℕ → Numeral ℕ
decimal_of text = numeral_of 10 text

-- decimal digits, or `0x` and hexadecimal digits
abbrev pub number_of : List ℕ → Numeral ℕ
number_of text = if bytes_eq (take 2 text) (codes "0x") then numeral_of 16 (drop 2 text) else decimal_of text

abbrev pub positive : Numeral ℕ → Numeral ℤ
positive (Value n) = Value (pos n)
positive TooLarge = TooLarge
positive NoNumber = NoNumber

-- behind a minus, where a number below -2147483648 counts as too large
abbrev pub negative : Numeral ℕ → Numeral ℤ
negative (Value n) = if nat_le n (2 ^ 31) then Value (neg_ℤ (pos n)) else TooLarge
negative TooLarge = TooLarge
negative NoNumber = NoNumber

-- a reading with or without a leading `-`
abbrev pub signed_by : (List ℕ → Numeral ℕ) → List ℕ → Numeral ℤ
signed_by read [] = positive (read [])
signed_by read (b ∷ bs) = if b == 45 then negative (read bs) else positive (read (b ∷ bs))

abbrev pub signed_number_of : List ℕ → Numeral ℤ
signed_number_of text = signed_by number_of text

abbrev pub signed_decimal_of : List ℕ → Numeral ℤ
signed_decimal_of text = signed_by decimal_of text

-- after a minus, in two's complement of 32 bits
abbrev pub minus : Numeral ℕ → Numeral ℕ
minus (Value n) = if nat_le n (2 ^ 31) then Value ((2 ^ 32 - n) % 2 ^ 32) else TooLarge
minus TooLarge = TooLarge
minus NoNumber = NoNumber

-- a number, or a decimal number after a `-`, as a word of 32 bits
abbrev pub word_value_of : List ℕ → Numeral ℕ
word_value_of [] = number_of []
word_value_of (b ∷ bs) = if b == 45 then minus (decimal_of bs) else number_of (b ∷ bs)
