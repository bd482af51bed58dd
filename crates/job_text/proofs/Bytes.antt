-- What numbers, words and bytes that were read are.
use Rattle.std.proofs.Common.{◌≡◌, ℕ, ◌+◌, ◌*◌, ◌^◌, ◌<◌, zero, suc, true, ◌&&◌, eqb, ltb, List, [], ◌∷◌, Option, Some, None, length, take, drop, codes, refl, sym, ap, subst, ⊎_elim, arith}
use Rattle.std.specs.declared.result.Result.TheVariants.{Ok}
use Rattle.std.specs.Char.{digit_value}
use Rattle.std.specs.List.{list_all, AllByRecursion, slice_index}
use Rattle.std.specs.Str.{bytes_eq}
use Rattle.std.specs.Str.Parse.{digits_value, AllDigits}
use Rattle.std.proofs.lemmas.Bool.{cases_Bool, and_parts, ltb-true, eqb-true}
use Rattle.std.proofs.lemmas.Int.Digits.{digits_value-lt}
use Rattle.tn_text.specs.NumberLists.{number_before, numbers_in, numbers_of}
use Rattle.tn_text.specs.declared.numbers.Numeral.{Numeral}
use Rattle.tn_text.specs.declared.numbers.Numeral.TheVariants.{Value, TooLarge, NoNumber}
use Rattle.tn_text.specs.Numbers.{number_of, numeral_of, is_numeral, in_32_bits}
use Rattle.tn_text.specs.Words.{is_some_text}
use Rattle.tn_text.specs.Hex.{is_hex_digit, hex_byte_of, byte_before, hex_bytes_of, hex_array_of, hex_word_of}
use Rattle.job_text.specs.Arguments.{given}
use Rattle.job_text.specs.WellFormed.{AreBytes}

-- numbers

in_fits : (v n : ℕ) → in_32_bits v ≡ Value n → n < 2 ^ 32
in_fits v n h =
    ⊎_elim (λ e. let k : Value v ≡ Value n = rw e at h in let same : n ≡ v = cc in let small = ltb-true v (2 ^ 32) e in omega arith)
    (λ e. let k : TooLarge ≡ Value n = rw e at h in cc) (cases_Bool (ltb v (2 ^ 32)))

numeral_fits : (radix : ℕ) (text : List ℕ) (n : ℕ) → numeral_of radix text ≡ Value n → n < 2 ^ 32
numeral_fits radix text n h =
    ⊎_elim (λ e. let k : in_32_bits (digits_value radix text) ≡ Value n = rw e at h in in_fits (digits_value radix text) n k)
    (λ e. let k : NoNumber ≡ Value n = rw e at h in cc) (cases_Bool (is_numeral radix text))

pub number_fits : (text : List ℕ) (n : ℕ) → number_of text ≡ Value n → n < 2 ^ 32
number_fits text n h =
    ⊎_elim (λ e. let k : numeral_of 16 (drop 2 text) ≡ Value n = rw e at h in numeral_fits 16 (drop 2 text) n k)
    (λ e. let k : numeral_of 10 text ≡ Value n = rw e at h in numeral_fits 10 text n k) (cases_Bool (bytes_eq (take 2 text) (codes "0x")))

pub one_fits : (x : Numeral ℕ) (text : List ℕ) (n : ℕ) → number_of text ≡ x → given x ≡ Ok n → n < 2 ^ 32
one_fits (Value m) text n e h = let same : n ≡ m = cc in let small = number_fits text m e in omega arith
one_fits TooLarge text n e h = cc
one_fits NoNumber text n e h = cc

before_parts : (x : Numeral ℕ) (more : Numeral (List ℕ)) (ns : List ℕ) → number_before x more ≡ Value ns → (n : ℕ) × (ms : List ℕ) × (x ≡ Value n) × (more ≡ Value ms) × (ns ≡ n ∷ ms)
before_parts NoNumber more ns h = cc
before_parts (Value n) (Value ms) ns h = (n, ms, refl, refl, cc)
before_parts (Value n) TooLarge ns h = cc
before_parts (Value n) NoNumber ns h = cc
before_parts TooLarge (Value ms) ns h = cc
before_parts TooLarge TooLarge ns h = cc
before_parts TooLarge NoNumber ns h = cc

pub numbers_fit : (ws : List (List ℕ)) (ns : List ℕ) → numbers_of ws ≡ Value ns → AllByRecursion (λ n. n < 2 ^ 32) ns
numbers_fit [] ns h = let e : ns ≡ [] = cc in rw e tt
numbers_fit (w ∷ ws) ns h =
    let p = before_parts (number_of w) (numbers_of ws) ns h in
    let e = p.4 in
    rw e (number_fits w p.0 p.2, numbers_fit ws p.1 p.3)

pub numbers_in_fit : (n : ℕ) (ws : List (List ℕ)) (ns : List ℕ) → numbers_in n ws ≡ Value ns → AllByRecursion (λ k. k < 2 ^ 32) ns
numbers_in_fit n ws ns h =
    ⊎_elim (λ e. let k : numbers_of ws ≡ Value ns = rw e at h in numbers_fit ws ns k)
    (λ e. let k : NoNumber ≡ Value ns = rw e at h in cc) (cases_Bool (eqb (length ws) n))

pub given_is : {V : Type 0} (x : Numeral V) (v : V) → given x ≡ Ok v → x ≡ Value v
given_is (Value w) v h = let e : w ≡ v = cc in ap (λ (u : _). Value u) e
given_is TooLarge v h = cc
given_is NoNumber v h = cc

pub index_fits : (ns : List ℕ) (k : ℕ) → AllByRecursion (λ n. n < 2 ^ 32) ns → slice_index ns k < 2 ^ 32
index_fits [] k h = omega arith
index_fits (n ∷ ns) zero h = h.0
index_fits (n ∷ ns) (suc k) h = index_fits ns k h.1

-- bytes

byte_fits : (a b x : ℕ) → hex_byte_of a b ≡ Some x → x < 256
byte_fits a b x h =
    ⊎_elim (λ e.
    let both = and_parts (is_hex_digit a) (is_hex_digit b) e in
    let high = ltb-true (digit_value a) 16 both.0 in
    let low = ltb-true (digit_value b) 16 both.1 in
    let k : Some (digit_value a * 16 + digit_value b) ≡ Some x = rw e at h in
    let same : x ≡ digit_value a * 16 + digit_value b = cc in omega arith)
    (λ e. let k : None ≡ Some x = rw e at h in cc) (cases_Bool (is_hex_digit a && is_hex_digit b))

byte_parts : (b : Option ℕ) (more : Option (List ℕ)) (bytes : List ℕ) → byte_before b more ≡ Some bytes → (x : ℕ) × (xs : List ℕ) × (b ≡ Some x) × (more ≡ Some xs) × (bytes ≡ x ∷ xs)
byte_parts None more bytes h = cc
byte_parts (Some x) None bytes h = cc
byte_parts (Some x) (Some xs) bytes h = (x, xs, refl, refl, cc)

cons_bytes : (x : ℕ) (xs : List ℕ) → x < 256 → AreBytes xs → AreBytes (x ∷ xs)
cons_bytes x xs h hs zero = h
cons_bytes x xs h hs (suc k) = hs k

pub bytes_fit : (text bytes : List ℕ) → hex_bytes_of text ≡ Some bytes → AreBytes bytes
bytes_fit [] bytes h = let e : bytes ≡ [] = cc in λ k. rw e (omega arith)
bytes_fit (a ∷ []) bytes h = cc
bytes_fit (a ∷ b ∷ rest) bytes h =
    let p = byte_parts (hex_byte_of a b) (hex_bytes_of rest) bytes h in
    subst (λ (bs : List ℕ). AreBytes bs) (sym p.4) (cons_bytes p.0 p.1 (byte_fits a b p.0 p.2) (bytes_fit rest p.1 p.3))

pub bytes_length : (text bytes : List ℕ) → hex_bytes_of text ≡ Some bytes → length text ≡ 2 * length bytes
bytes_length [] bytes h = let e : bytes ≡ [] = cc in rw e refl
bytes_length (a ∷ []) bytes h = cc
bytes_length (a ∷ b ∷ rest) bytes h =
    let p = byte_parts (hex_byte_of a b) (hex_bytes_of rest) bytes h in
    let more = bytes_length rest p.1 p.3 in
    omega (arith, ap length p.4)

some_length : (w : List ℕ) → is_some_text w ≡ true → 0 < length w
some_length [] h = cc
some_length (b ∷ bs) h = omega arith

pub bytes_some : (text bytes : List ℕ) → is_some_text text ≡ true → hex_bytes_of text ≡ Some bytes → 0 < length bytes
bytes_some text bytes s h = omega (arith, bytes_length text bytes h, some_length text s)

pub array_fits : (text bytes : List ℕ) → hex_array_of 32 text ≡ Some bytes → AreBytes bytes × (length bytes ≡ 32)
array_fits text bytes h =
    ⊎_elim (λ e.
    let k : hex_bytes_of text ≡ Some bytes = rw e at h in
    let long = eqb-true (length text) 64 e in
    (bytes_fit text bytes k, omega (arith, bytes_length text bytes k)))
    (λ e. let k : None ≡ Some bytes = rw e at h in cc) (cases_Bool (eqb (length text) 64))

all_digits : (text : List ℕ) → list_all is_hex_digit text ≡ true → AllDigits 16 text
all_digits [] h = tt
all_digits (b ∷ bs) h =
    let both = and_parts (is_hex_digit b) (list_all is_hex_digit bs) h in
    (ltb-true (digit_value b) 16 both.0, all_digits bs both.1)

pub word_fits : (text : List ℕ) (w : ℕ) → hex_word_of text ≡ Some w → w < 2 ^ 32
word_fits text w h =
    ⊎_elim (λ e.
    let both = and_parts (eqb (length text) 8) (list_all is_hex_digit text) e in
    let k : Some (digits_value 16 text) ≡ Some w = rw e at h in
    let same : w ≡ digits_value 16 text = cc in
    let long : length text ≡ 8 = eqb-true (length text) 8 both.0 in
    let small = digits_value-lt 16 text (all_digits text both.1) in
    let eight : digits_value 16 text < 16 ^ 8 = rw long at small in
    omega arith)
    (λ e. let k : None ≡ Some w = rw e at h in cc) (cases_Bool (eqb (length text) 8 && list_all is_hex_digit text))
