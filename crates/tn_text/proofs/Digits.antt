-- Reading digits.
use Rattle.std.proofs.Common.{◌≡◌, ℕ, ◌+◌, ◌*◌, ◌%◌, ◌^◌, ◌<◌, ◌≤◌, min, true, eqb, ◌&&◌, List, [], ◌∷◌, ◌++◌, Option, Some, None, length, take, drop, get_or, refl, sym, ap, ◌∙◌, ⊎_elim, append_assoc, length-drop, arith}
use Rattle.std.specs.Char.{is_digit, digit_value}
use Rattle.std.specs.List.{list_all}
use Rattle.std.specs.Str.Parse.{digits_value, AllDigits}
use Rattle.std.proofs.Math.Nat.{mul-le-mul_left}
use Rattle.std.proofs.lemmas.Bool.{cases_lt, cases_Bool, and_from, and_parts, and_right, cond-false, lt-ltb, ltb-true}
use Rattle.std.proofs.lemmas.Grind.{common_steps}
use Rattle.std.proofs.lemmas.Int.Digits.{digits_value_more, digits_value-lt}
use Rattle.std.proofs.lemmas.List.Folds.{list_all_more}
use Rattle.tn_text.specs.declared.numbers.Numeral.TheVariants.{Value, TooLarge, NoNumber}
use Rattle.tn_text.specs.Numbers.{numeral_of}
use Rattle.tn_text.specs.Hex.{is_hex_digit, hex_byte_of, byte_before, hex_bytes_of, hex_word_of}

-- a number that is cut off at `most` goes on as the number itself does
min_more : (v r d most : ℕ) → 1 ≤ r → min (min v most * r + d) most ≡ min (v * r + d) most
min_more v r d most pos =
    ⊎_elim (λ h. let e : min v most ≡ v = omega arith in rw e refl)
    (λ h.
    let e : min v most ≡ most = omega arith in
    let grows : most * 1 ≤ most * r = mul-le-mul_left most pos in
    let more : r * most ≤ r * v = mul-le-mul_left r h in
    let cut : min (most * r + d) most ≡ min (v * r + d) most = omega (arith, grows, more) in
    rw e cut)
    (cases_lt v most)

pub digits_more : (radix : ℕ) (text : List ℕ) (i : ℕ) → i < length text → list_all (λ b. is_digit b radix) (take i text) ≡ true
    → digit_value (get_or text i 0) < radix → list_all (λ b. is_digit b radix) (take (i + 1) text) ≡ true
digits_more radix text i h all small =
    list_all_more (λ b. is_digit b radix) text i 0 h
    ∙ and_from (list_all (λ b. is_digit b radix) (take i text)) (is_digit (get_or text i 0) radix) all (lt-ltb (digit_value (get_or text i 0)) radix small)

pub capped_more : (radix : ℕ) (text : List ℕ) (i value digit most : ℕ) → i < length text → 1 ≤ radix
    → value ≡ min (digits_value radix (take i text)) most → digit ≡ digit_value (get_or text i 0)
    → min (value * radix + digit) most ≡ min (digits_value radix (take (i + 1) text)) most
capped_more radix text i value digit most h pos e f =
    rw (e, f, digits_value_more radix text i h) (min_more (digits_value radix (take i text)) radix (digit_value (get_or text i 0)) most pos)

-- bytes that were read before
abbrev pub behind : List ℕ → Option (List ℕ) → Option (List ℕ)
behind front (Some xs) = Some (front ++ xs)
behind front None = None

behind_byte : (front : List ℕ) (b : ℕ) (more : Option (List ℕ)) → behind front (byte_before (Some b) more) ≡ behind (front ++ b ∷ []) more
behind_byte front b (Some xs) = ap (λ (ys : List ℕ). Some ys) (sym (append_assoc front (b ∷ []) xs))
behind_byte front b None = refl

hex_bytes_of-two : (xs : List ℕ) → 2 ≤ length xs → hex_bytes_of xs ≡ byte_before (hex_byte_of (get_or xs 0 0) (get_or xs 1 0)) (hex_bytes_of (drop 2 xs))
hex_bytes_of-two [] h = absurd (omega arith)
hex_bytes_of-two (a ∷ []) h = absurd (omega arith)
hex_bytes_of-two (a ∷ b ∷ rest) h = refl

-- the digits of the next byte
hex_bytes_of-drop : (text : List ℕ) (i : ℕ) → 2 * i + 2 ≤ length text
    → hex_bytes_of (drop (2 * i) text) ≡ byte_before (hex_byte_of (get_or text (2 * i) 0) (get_or text (2 * i + 1) 0)) (hex_bytes_of (drop (2 * (i + 1)) text))
hex_bytes_of-drop text i h =
    let two = hex_bytes_of-two (drop (2 * i) text) (omega (arith, length-drop (2 * i) text)) in
    let first : get_or (drop (2 * i) text) 0 0 ≡ get_or text (2 * i) 0 = grind (arith, common_steps) in
    let second : get_or (drop (2 * i) text) 1 0 ≡ get_or text (2 * i + 1) 0 = grind (arith, common_steps) in
    let rest : drop 2 (drop (2 * i) text) ≡ drop (2 * (i + 1)) text = grind (arith, common_steps) in
    rw (first, second, rest) at two

pub byte_read : (front text : List ℕ) (i b : ℕ) (all : Option (List ℕ)) → 2 * i + 2 ≤ length text
    → Some b ≡ hex_byte_of (get_or text (2 * i) 0) (get_or text (2 * i + 1) 0) → behind front (hex_bytes_of (drop (2 * i) text)) ≡ all
    → behind (front ++ b ∷ []) (hex_bytes_of (drop (2 * (i + 1)) text)) ≡ all
byte_read front text i b all h e done =
    let more = hex_bytes_of (drop (2 * (i + 1)) text) in
    let here : hex_bytes_of (drop (2 * i) text) ≡ byte_before (Some b) more = rw e (hex_bytes_of-drop text i h) in
    sym (behind_byte front b more) ∙ ap (behind front) (sym here) ∙ done

pub byte_unread : (front text : List ℕ) (i : ℕ) (all : Option (List ℕ)) → 2 * i + 2 ≤ length text
    → None ≡ hex_byte_of (get_or text (2 * i) 0) (get_or text (2 * i + 1) 0) → behind front (hex_bytes_of (drop (2 * i) text)) ≡ all
    → all ≡ None
byte_unread front text i all h e done =
    let here : hex_bytes_of (drop (2 * i) text) ≡ None = rw (← e) at (hex_bytes_of-drop text i h) in
    sym done ∙ ap (behind front) here

byte_before-none : (b : Option ℕ) → byte_before b None ≡ None
byte_before-none None = refl
byte_before-none (Some x) = refl

pub hex_bytes_of-odd : (text : List ℕ) → length text % 2 ≡ 1 → hex_bytes_of text ≡ None
hex_bytes_of-odd [] h = absurd (omega arith)
hex_bytes_of-odd (a ∷ []) h = refl
hex_bytes_of-odd (a ∷ b ∷ rest) h =
    let more = hex_bytes_of-odd rest (omega arith) in
    ap (byte_before (hex_byte_of a b)) more ∙ byte_before-none (hex_byte_of a b)

all_digits : (radix : ℕ) (text : List ℕ) → list_all (λ b. is_digit b radix) text ≡ true → AllDigits radix text
all_digits radix [] h = tt
all_digits radix (b ∷ bs) h =
    let both = and_parts (is_digit b radix) (list_all (λ c. is_digit c radix) bs) h in
    (ltb-true (digit_value b) radix both.0, all_digits radix bs both.1)

eight_fit : (text : List ℕ) → length text ≡ 8 → list_all is_hex_digit text ≡ true → digits_value 16 text < 2 ^ 32
eight_fit text e all = let small = digits_value-lt 16 text (all_digits 16 text all) in rw e at small

pub hex_word_of-too_large : (text : List ℕ) → length text ≡ 8 → TooLarge ≡ numeral_of 16 text → None ≡ hex_word_of text
hex_word_of-too_large text e large =
    ⊎_elim (λ all. let fits = lt-ltb (digits_value 16 text) (2 ^ 32) (eight_fit text e all) in
    let value : numeral_of 16 text ≡ Value (digits_value 16 text) = rw (e, all, fits) refl in cc)
    (λ all. sym (cond-false (eqb (length text) 8 && list_all is_hex_digit text) (Some (digits_value 16 text)) None (and_right (eqb (length text) 8) (list_all is_hex_digit text) all)))
    (cases_Bool (list_all is_hex_digit text))

pub hex_word_of-no_number : (text : List ℕ) → length text ≡ 8 → NoNumber ≡ numeral_of 16 text → None ≡ hex_word_of text
hex_word_of-no_number text e bad =
    ⊎_elim (λ all. let fits = lt-ltb (digits_value 16 text) (2 ^ 32) (eight_fit text e all) in
    let value : numeral_of 16 text ≡ Value (digits_value 16 text) = rw (e, all, fits) refl in cc)
    (λ all. sym (cond-false (eqb (length text) 8 && list_all is_hex_digit text) (Some (digits_value 16 text)) None (and_right (eqb (length text) 8) (list_all is_hex_digit text) all)))
    (cases_Bool (list_all is_hex_digit text))
