-- Numbers and bytes as words of a line, as they are printed.
use Rattle.std.proofs.Common.{◌≡◌, ℕ, ◌/◌, ◌%◌, ◌^◌, ◌<◌, suc, true, List, [], ◌∷◌, length, get_or, refl, ⊎_elim, Fits, w8, arith}
use Rattle.std.specs.Char.{digit_value, digit_char}
use Rattle.std.specs.Fmt.{decimal}
use Rattle.std.specs.List.{list_all}
use Rattle.std.specs.Str.Parse.{AllDigits}
use Rattle.std.proofs.lemmas.Bool.{and_from, cases_lt, lt-ltb}
use Rattle.std.proofs.lemmas.Bool.Decides.{nat_tests}
use Rattle.std.proofs.lemmas.Fmt.{decimal_is_IsNumeral}
use Rattle.tn_text.specs.Words.{is_some_text}
use Rattle.tn_text.specs.Hex.{hex_text}
use Rattle.tn_text.specs.Numbers.{decimal_of}
use Rattle.tn_text.specs.declared.numbers.Numeral.TheVariants.{Value}
use Rattle.tn_text.proofs.Clean.{clean, IsWord}
use Rattle.tn_text.proofs.Printed.{digits_pass}

digit_clean : (b : ℕ) → digit_value b < 10 → clean b ≡ true
digit_clean b h = grind (arith, nat_tests)

digits_clean : (ds : List ℕ) → AllDigits 10 ds → list_all clean ds ≡ true
digits_clean [] h = refl
digits_clean (d ∷ ds) h = and_from (clean d) (list_all clean ds) (digit_clean d h.0) (digits_clean ds h.1)

pub some_from : (w : List ℕ) → 0 < length w → is_some_text w ≡ true
some_from [] h = absurd (omega arith)
some_from (b ∷ bs) h = refl

pub decimal_word : (n : ℕ) → n < 2 ^ 32 → IsWord (decimal n)
decimal_word n h =
    let own = decimal_is_IsNumeral n (omega arith) in
    record { bytes = digits_clean (decimal n) own.0.1; some = some_from (decimal n) own.0.0 }

-- a decimal number is read back also where a line takes no other numbers
pub decimal_of_decimal : (n : ℕ) → n < 2 ^ 32 → decimal_of (decimal n) ≡ Value n
decimal_of_decimal n h =
    let own = decimal_is_IsNumeral n (omega arith) in
    let digits = digits_pass 10 (decimal n) own.0.1 in
    let some = lt-ltb 0 (length (decimal n)) own.0.0 in
    let fits = lt-ltb n (2 ^ 32) h in
    rw (some, digits, own.1, fits) refl

char_clean : (d : ℕ) → d < 16 → clean (digit_char d) ≡ true
char_clean d h = ⊎_elim (λ low. grind (arith, nat_tests)) (λ high. grind (arith, nat_tests)) (cases_lt d 10)

hex_clean : (bytes : List ℕ) → ((k : ℕ) → Fits w8 (get_or bytes k 0)) → list_all clean (hex_text bytes) ≡ true
hex_clean [] h = refl
hex_clean (b ∷ bs) h =
    let small : b < 256 = omega (arith, h 0) in
    let high = char_clean (b / 16) (omega arith) in
    let low = char_clean (b % 16) (omega arith) in
    let more = hex_clean bs (λ k. h (suc k)) in
    rw (high, low, more) refl

pub hex_word : (bytes : List ℕ) → ((k : ℕ) → Fits w8 (get_or bytes k 0)) → 0 < length bytes → IsWord (hex_text bytes)
hex_word [] h some = absurd (omega arith)
hex_word (b ∷ bs) h some = record { bytes = hex_clean (b ∷ bs) h; some = refl }
