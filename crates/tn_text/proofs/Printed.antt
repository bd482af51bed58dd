-- What was printed reads back.
use Rattle.std.proofs.Common.{◌≡◌, ℕ, ◌+◌, ◌*◌, ◌/◌, ◌%◌, ◌^◌, ◌<◌, suc, true, false, eqb, List, [], ◌∷◌, Some, map, length, take, get_or, refl, ap, ◌∙◌, ⊎_elim, Fits, w8, codes, arith}
use Rattle.std.specs.Char.{is_digit, digit_value, digit_char}
use Rattle.std.specs.Fmt.{decimal}
use Rattle.std.specs.List.{list_all}
use Rattle.std.specs.Str.{bytes_eq}
use Rattle.std.specs.Str.Parse.{digits_value, AllDigits}
use Rattle.std.specs.Int.Digits.{number_from_digits, AllBelowBase}
use Rattle.std.proofs.lemmas.Bool.{cases_lt, and_from, lt-ltb}
use Rattle.std.proofs.lemmas.Bool.Decides.{nat_tests}
use Rattle.std.proofs.lemmas.Fmt.{decimal_is_IsNumeral}
use Rattle.std.proofs.lemmas.Int.Digits.{digits_value_is}
use Rattle.tn_text.specs.declared.numbers.Numeral.TheVariants.{Value}
use Rattle.tn_text.specs.Numbers.{number_of}
use Rattle.tn_text.specs.Hex.{is_hex_digit, hex_byte_of, hex_bytes_of, hex_word_of, hex_text, hex_word_text}

pub digits_pass : (radix : ℕ) (text : List ℕ) → AllDigits radix text → list_all (λ b. is_digit b radix) text ≡ true
digits_pass radix [] h = refl
digits_pass radix (b ∷ bs) h = and_from (is_digit b radix) (list_all (λ c. is_digit c radix) bs) (lt-ltb (digit_value b) radix h.0) (digits_pass radix bs h.1)

pub not_x : (b : ℕ) → digit_value b < 10 → eqb b 120 ≡ false
not_x b h = grind (arith, nat_tests)

-- decimal digits do not begin with `0x`
no_prefix : (text : List ℕ) → AllDigits 10 text → bytes_eq (take 2 text) (codes "0x") ≡ false
no_prefix [] h = refl
no_prefix (a ∷ []) h = grind (arith, nat_tests)
no_prefix (a ∷ b ∷ rest) h = let e = not_x b h.1.0 in grind (arith, nat_tests)

pub decimal_read_back : (n : ℕ) → n < 2 ^ 32 → number_of (decimal n) ≡ Value n
decimal_read_back n h =
    let own = decimal_is_IsNumeral n (omega arith) in
    let plain = no_prefix (decimal n) own.0.1 in
    let digits = digits_pass 10 (decimal n) own.0.1 in
    let some = lt-ltb 0 (length (decimal n)) own.0.0 in
    let fits = lt-ltb n (2 ^ 32) h in
    rw (plain, some, digits, own.1, fits) refl

pub digit_back : (d : ℕ) → d < 16 → digit_value (digit_char d) ≡ d
digit_back d h = ⊎_elim (λ low. grind (arith, nat_tests)) (λ high. grind (arith, nat_tests)) (cases_lt d 10)

hex_digit_back : (d : ℕ) → d < 16 → is_hex_digit (digit_char d) ≡ true
hex_digit_back d h = let e = digit_back d h in lt-ltb (digit_value (digit_char d)) 16 (omega arith)

byte_of : (a b high low : ℕ) → is_hex_digit a ≡ true → is_hex_digit b ≡ true → digit_value a ≡ high → digit_value b ≡ low → hex_byte_of a b ≡ Some (high * 16 + low)
byte_of a b high low e f g h = rw (e, f, g, h) refl

byte_back : (b : ℕ) → b < 256 → hex_byte_of (digit_char (b / 16)) (digit_char (b % 16)) ≡ Some b
byte_back b h =
    let high : b / 16 < 16 = omega arith in
    let low : b % 16 < 16 = omega arith in
    let sum : b / 16 * 16 + b % 16 ≡ b = omega arith in
    byte_of (digit_char (b / 16)) (digit_char (b % 16)) (b / 16) (b % 16) (hex_digit_back (b / 16) high) (hex_digit_back (b % 16) low)
    (digit_back (b / 16) high) (digit_back (b % 16) low)
    ∙ ap (λ (n : ℕ). Some n) sum

pub hex_read_back : (bytes : List ℕ) → ((k : ℕ) → Fits w8 (get_or bytes k 0)) → hex_bytes_of (hex_text bytes) ≡ Some bytes
hex_read_back [] h = refl
hex_read_back (b ∷ bs) h =
    let small : b < 256 = omega (arith, h 0) in
    let more = hex_read_back bs (λ k. h (suc k)) in
    let here = byte_back b small in
    rw (here, more) refl

digits_back : (ds : List ℕ) → AllBelowBase 16 ds → map digit_value (map digit_char ds) ≡ ds
digits_back [] h = refl
digits_back (d ∷ ds) h = let e = digit_back d h.0 in let f = digits_back ds h.1 in rw (e, f) refl

chars_pass : (ds : List ℕ) → AllBelowBase 16 ds → list_all is_hex_digit (map digit_char ds) ≡ true
chars_pass [] h = refl
chars_pass (d ∷ ds) h = and_from (is_hex_digit (digit_char d)) (list_all is_hex_digit (map digit_char ds)) (hex_digit_back d h.0) (chars_pass ds h.1)

word_back : (text ds : List ℕ) (n : ℕ) → text ≡ map digit_char ds → length text ≡ 8 → AllBelowBase 16 ds → number_from_digits 16 ds ≡ n
    → hex_word_of text ≡ Some n
word_back text ds n e len small value =
    let pass : list_all is_hex_digit text ≡ true = rw e (chars_pass ds small) in
    let is : digits_value 16 text ≡ n = digits_value_is 16 text ∙ ap (number_from_digits 16) (ap (map digit_value) e ∙ digits_back ds small) ∙ value in
    rw (len, pass, is) refl

abbrev pub digits_of_four : ℕ → ℕ → ℕ → ℕ → List ℕ
digits_of_four a b c d = a / 16 ∷ a % 16 ∷ b / 16 ∷ b % 16 ∷ c / 16 ∷ c % 16 ∷ d / 16 ∷ d % 16 ∷ []

four_small : (a b c d : ℕ) → a < 256 → b < 256 → c < 256 → d < 256 → AllBelowBase 16 (digits_of_four a b c d)
four_small a b c d h i j k =
    (omega arith, (omega arith, (omega arith, (omega arith, (omega arith, (omega arith, (omega arith, (omega arith, tt))))))))

four_value : (a b c d : ℕ) → number_from_digits 16 (digits_of_four a b c d) ≡ ((a * 256 + b) * 256 + c) * 256 + d
four_value a b c d = omega arith

pub hex_word_read_back : (w : ℕ) → w < 2 ^ 32 → hex_word_of (hex_word_text w) ≡ Some w
hex_word_read_back w h =
    let a = w / 2 ^ 24 in let b = w / 2 ^ 16 % 256 in let c = w / 2 ^ 8 % 256 in let d = w % 256 in
    let whole : ((a * 256 + b) * 256 + c) * 256 + d ≡ w = omega arith in
    word_back (hex_word_text w) (digits_of_four a b c d) w refl refl
    (four_small a b c d (omega arith) (omega arith) (omega arith) (omega arith)) (four_value a b c d ∙ whole)
