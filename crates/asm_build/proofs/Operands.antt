-- Arguments that were printed are read again.
use Rattle.std.proofs.Common.{◌≡◌, ℕ, ℤ, pos, negsuc, ◌+◌, ◌*◌, ◌/◌, ◌%◌, ◌^◌, ◌<◌, zero, suc, Bool, true, false, not, ◌&&◌, leb, eqb, ltb, List, [], ◌∷◌, ◌++◌, Option, Some, None, length, take, drop, codes, refl, sym, ap, ◌∙◌, ⊎_elim, arith, append-nil, cond, FitsSigned, w32}
use Rattle.std.specs.declared.result.Result.TheVariants.{Ok}
use Rattle.std.specs.Char.{is_digit, digit_value, digit_char}
use Rattle.std.specs.Fmt.{decimal, signed_decimal, digits}
use Rattle.std.specs.List.{list_all}
use Rattle.std.specs.Str.{bytes_eq}
use Rattle.std.specs.Str.Parse.{digits_value, AllDigits}
use Rattle.std.specs.Int.Digits.{number_from_digits}
use Rattle.std.proofs.lemmas.Bool.{and_parts, and_from, lt-ltb, cases_lt, eqb-true}
use Rattle.std.proofs.lemmas.Bool.Decides.{nat_tests}
use Rattle.std.proofs.lemmas.Fmt.{decimal_is_IsNumeral}
use Rattle.std.proofs.lemmas.Int.Digits.{digits_value_is}
use Rattle.std.proofs.lemmas.List.Folds.{list_all-append}
use Rattle.tn_text.specs.declared.numbers.Numeral.{Numeral}
use Rattle.tn_text.specs.declared.numbers.Numeral.TheVariants.{Value, NoNumber}
use Rattle.tn_text.specs.Content.{trimmed}
use Rattle.tn_text.specs.Names.{is_name}
use Rattle.tn_text.specs.Numbers.{number_of, numeral_of, signed_number_of, positive, negative}
use Rattle.tn_text.specs.Words.{is_some_text}
use Rattle.tn_text.proofs.Printed.{decimal_read_back, digit_back, not_x}
use Rattle.tn_text.proofs.PrintedWords.{some_from}
use Rattle.asm_text.specs.declared.line.Arg.TheVariants.{Reg, Num, Name, Mem}
use Rattle.asm_text.specs.Arguments.{arg_by, arg_of, memory_of, memory_by, with_base, base_of, base_by}
use Rattle.asm_text.specs.Registers.{register_of}
use Rattle.asm_build.specs.Shown.{register_text, memory_text, control_text}
use Rattle.tn_text.specs.Cut.{lacks}
use Rattle.tn_text.proofs.Parts.{cut_found}
use Rattle.asm_build.proofs.Tight.{tight, IsTight, word_trimmed}

both_false : (b : Bool) → (b && false) ≡ false
both_false true = refl
both_false false = refl

-- Registers.

abbrev is_this : ℕ → Option ℕ → Bool
is_this n None = false
is_this n (Some m) = eqb m n

is_this-some : (n : ℕ) (o : Option ℕ) → is_this n o ≡ true → o ≡ Some n
is_this-some n None h = cc
is_this-some n (Some m) h = let e = eqb-true m n h in ap (λ (x : ℕ). Some x) e

all_below : (ℕ → Bool) → ℕ → Bool
all_below p zero = true
all_below p (suc n) = p n && all_below p n

below : (p : ℕ → Bool) (n k : ℕ) → all_below p n ≡ true → k < n → p k ≡ true
unfolding all_below
below p zero k h lt = absurd (omega arith)
below p (suc n) k h lt =
    let both = and_parts (p n) (all_below p n) h in
    ⊎_elim (λ l. below p n k both.1 l) (λ g. let e : n ≡ k = omega arith in ap p (sym e) ∙ both.0) (cases_lt k n)

reads_register : ℕ → Bool
reads_register n = is_this n (register_of (register_text n))

each_register : all_below reads_register 32 ≡ true
unfolding all_below reads_register digits
each_register = refl

pub register_back : (n : ℕ) → n < 32 → register_of (register_text n) ≡ Some n
unfolding reads_register
register_back n h = is_this-some n (register_of (register_text n)) (below reads_register 32 n each_register h)

-- a text that begins below the letters is no register
no_register : (b : ℕ) (bs : List ℕ) → b < 58 → register_of (b ∷ bs) ≡ None
no_register b bs h =
    let x : eqb 120 b ≡ false = grind (arith, nat_tests) in
    let z : eqb 122 b ≡ false = grind (arith, nat_tests) in
    let r : eqb 114 b ≡ false = grind (arith, nat_tests) in
    let s : eqb 115 b ≡ false = grind (arith, nat_tests) in
    let g : eqb 103 b ≡ false = grind (arith, nat_tests) in
    let t : eqb 116 b ≡ false = grind (arith, nat_tests) in
    let a : eqb 97 b ≡ false = grind (arith, nat_tests) in
    let f : eqb b 102 ≡ false = grind (arith, nat_tests) in
    rw (x, z, r, s, g, t, a, f) refl

-- Numbers.

digit_small : (b : ℕ) → digit_value b < 10 → b < 58
digit_small b h = grind (arith, nat_tests)

digit_tight : (b : ℕ) → digit_value b < 10 → tight b ≡ true
digit_tight b h = grind (arith, nat_tests)

digits_tight : (ds : List ℕ) → AllDigits 10 ds → list_all tight ds ≡ true
digits_tight [] h = refl
digits_tight (d ∷ ds) h = and_from (tight d) (list_all tight ds) (digit_tight d h.0) (digits_tight ds h.1)

-- a text of digits
record IsDigits (ds : List ℕ) : Type 0 where
  pub some : 0 < length ds
  pub all : AllDigits 10 ds

decimal_digits : (n : ℕ) → n < 2 ^ 32 → IsDigits (decimal n)
decimal_digits n h = let own = decimal_is_IsNumeral n (omega arith) in record { some = own.0.0; all = own.0.1 }

pub decimal_tight : (n : ℕ) → n < 2 ^ 32 → IsTight (decimal n)
decimal_tight n h =
    let own = decimal_digits n h in record { bytes = digits_tight (decimal n) own.all; some = some_from (decimal n) own.some }

pub register_tight : (n : ℕ) → n < 32 → IsTight (register_text n)
register_tight n h = let own = decimal_tight n (omega arith) in record { bytes = own.bytes; some = refl }

pub signed_tight : (z : ℤ) → FitsSigned w32 z → IsTight (signed_decimal z)
signed_tight (pos n) h = decimal_tight n (omega arith)
signed_tight (negsuc n) h = let own = decimal_tight (suc n) (omega arith) in record { bytes = own.bytes; some = refl }

digits_none : (ds rest : List ℕ) → IsDigits ds → register_of (ds ++ rest) ≡ None
digits_none [] rest h = absurd (omega (arith, h.some))
digits_none (d ∷ ds) rest h = no_register d (ds ++ rest) (digit_small d h.all.0)

not_minus : (b : ℕ) → digit_value b < 10 → eqb b 45 ≡ false
not_minus b h = grind (arith, nat_tests)

plain_number : (ds rest : List ℕ) → IsDigits ds → signed_number_of (ds ++ rest) ≡ positive (number_of (ds ++ rest))
plain_number [] rest h = absurd (omega (arith, h.some))
plain_number (d ∷ ds) rest h = let e = not_minus d h.all.0 in rw e refl

decimal_back : (n : ℕ) → n < 2 ^ 32 → signed_number_of (decimal n) ≡ Value (pos n)
decimal_back n h =
    ap signed_number_of (sym (append-nil (decimal n))) ∙ plain_number (decimal n) [] (decimal_digits n h)
    ∙ ap (λ (text : List ℕ). positive (number_of text)) (append-nil (decimal n)) ∙ ap positive (decimal_read_back n h)

negative_value : (n : ℕ) → n < 2 ^ 31 → negative (Value (suc n)) ≡ Value (negsuc n)
negative_value n h = let e : leb (suc n) (2 ^ 31) ≡ true = grind (arith, nat_tests) in rw e refl

signed_back : (z : ℤ) → FitsSigned w32 z → signed_number_of (signed_decimal z) ≡ Value z
signed_back (pos n) h = decimal_back n (omega arith)
signed_back (negsuc n) h =
    ap negative (decimal_read_back (suc n) (omega arith)) ∙ negative_value n (omega arith)

number_arg : (text : List ℕ) (z : ℤ) → register_of text ≡ None → signed_number_of text ≡ Value z → arg_of text ≡ Ok (Num z)
number_arg text z e f =
    ap (λ (o : Option ℕ). arg_by o (signed_number_of text) text) e ∙ ap (λ (n : Numeral ℤ). arg_by None n text) f

signed_none : (z : ℤ) (rest : List ℕ) → FitsSigned w32 z → register_of (signed_decimal z ++ rest) ≡ None
signed_none (pos n) rest h = digits_none (decimal n) rest (decimal_digits n (omega arith))
signed_none (negsuc n) rest h = no_register 45 (decimal (suc n) ++ rest) (omega arith)

pub register_arg : (n : ℕ) → n < 32 → arg_of (register_text n) ≡ Ok (Reg n)
register_arg n h = ap (λ (o : Option ℕ). arg_by o (signed_number_of (register_text n)) (register_text n)) (register_back n h)

pub signed_arg : (z : ℤ) → FitsSigned w32 z → arg_of (signed_decimal z) ≡ Ok (Num z)
signed_arg z h =
    number_arg (signed_decimal z) z (ap register_of (sym (append-nil (signed_decimal z))) ∙ signed_none z [] h) (signed_back z h)

pub decimal_arg : (n : ℕ) → n < 2 ^ 32 → arg_of (decimal n) ≡ Ok (Num (pos n))
decimal_arg n h =
    number_arg (decimal n) (pos n) (ap register_of (sym (append-nil (decimal n))) ∙ digits_none (decimal n) [] (decimal_digits n h)) (decimal_back n h)

-- Control registers.

pub char_tight : (d : ℕ) → d < 16 → tight (digit_char d) ≡ true
char_tight d h = ⊎_elim (λ low. grind (arith, nat_tests)) (λ high. grind (arith, nat_tests)) (cases_lt d 10)

char_digit : (d : ℕ) → d < 16 → is_digit (digit_char d) 16 ≡ true
char_digit d h = let e = digit_back d h in lt-ltb (digit_value (digit_char d)) 16 (omega arith)

three_digits : (a b c n : ℕ) → a < 16 → b < 16 → c < 16 → (a * 16 + b) * 16 + c ≡ n → n < 2 ^ 32
    → numeral_of 16 (digit_char a ∷ digit_char b ∷ digit_char c ∷ []) ≡ Value n
three_digits a b c n ha hb hc sum small =
    let text = digit_char a ∷ digit_char b ∷ digit_char c ∷ [] in
    let pa = char_digit a ha in let pb = char_digit b hb in let pc = char_digit c hc in
    let value : digits_value 16 text ≡ n = digits_value_is 16 text
    ∙ ap (number_from_digits 16) (ap (λ (x : ℕ). x ∷ digit_value (digit_char b) ∷ digit_value (digit_char c) ∷ []) (digit_back a ha)
    ∙ ap (λ (x : ℕ). a ∷ x ∷ digit_value (digit_char c) ∷ []) (digit_back b hb) ∙ ap (λ (x : ℕ). a ∷ b ∷ x ∷ []) (digit_back c hc)) ∙ omega (arith, sum) in
    let fits = lt-ltb n (2 ^ 32) small in
    rw (pa, pb, pc, value, fits) refl

pub control_arg : (n : ℕ) → n < 4096 → arg_of (control_text n) ≡ Ok (Num (pos n))
control_arg n h =
    let e : number_of (control_text n) ≡ Value n =
    three_digits (n / 2 ^ 8 % 256 % 16) (n % 256 / 16) (n % 256 % 16) n (omega arith) (omega arith) (omega arith) (omega arith) (omega arith) in
    number_arg (control_text n) (pos n) (no_register 48 (drop 1 (control_text n)) (omega arith)) (ap positive e)

pub control_tight : (n : ℕ) → IsTight (control_text n)
control_tight n =
    let a = char_tight (n / 2 ^ 8 % 256 % 16) (omega arith) in let b = char_tight (n % 256 / 16) (omega arith) in
    let c = char_tight (n % 256 % 16) (omega arith) in
    record { bytes = rw (a, b, c) refl; some = refl }

-- Numbers with a register in brackets.

all_digits : (radix : ℕ) (ds rest : List ℕ) → list_all (λ b. is_digit b radix) rest ≡ false → list_all (λ b. is_digit b radix) (ds ++ rest) ≡ false
all_digits radix [] rest h = h
all_digits radix (d ∷ ds) rest h = let more = all_digits radix ds rest h in rw more (both_false (is_digit d radix))

no_prefix : (ds rest : List ℕ) → IsDigits ds → bytes_eq (take 2 (ds ++ 40 ∷ rest)) (codes "0x") ≡ false
no_prefix [] rest h = absurd (omega (arith, h.some))
no_prefix (a ∷ []) rest h = both_false (eqb a 48)
no_prefix (a ∷ b ∷ ds) rest h = let e = not_x b h.all.1.0 in rw e (both_false (eqb a 48))

no_number : (ds rest : List ℕ) → IsDigits ds → number_of (ds ++ 40 ∷ rest) ≡ NoNumber
no_number ds rest h =
    let e = no_prefix ds rest h in
    let f = all_digits 10 ds (40 ∷ rest) refl in
    let g = both_false (ltb 0 (length (ds ++ 40 ∷ rest))) in
    rw (e, f, g) refl

signed_no_number : (z : ℤ) (rest : List ℕ) → FitsSigned w32 z → signed_number_of (signed_decimal z ++ 40 ∷ rest) ≡ NoNumber
signed_no_number (pos n) rest h =
    let own = decimal_digits n (omega arith) in plain_number (decimal n) (40 ∷ rest) own ∙ ap positive (no_number (decimal n) rest own)
signed_no_number (negsuc n) rest h = ap negative (no_number (decimal (suc n)) rest (decimal_digits (suc n) (omega arith)))

no_name : (b : ℕ) (bs : List ℕ) → b < 58 → is_name (b ∷ bs) ≡ false
no_name b bs h = grind (arith, nat_tests)

digits_no_name : (ds rest : List ℕ) → IsDigits ds → is_name (ds ++ rest) ≡ false
digits_no_name [] rest h = absurd (omega (arith, h.some))
digits_no_name (d ∷ ds) rest h = no_name d (ds ++ rest) (digit_small d h.all.0)

signed_no_name : (z : ℤ) (rest : List ℕ) → FitsSigned w32 z → is_name (signed_decimal z ++ rest) ≡ false
signed_no_name (pos n) rest h = digits_no_name (decimal n) rest (decimal_digits n (omega arith))
signed_no_name (negsuc n) rest h = no_name 45 (decimal (suc n) ++ rest) (omega arith)

digit_lacks : (byte b : ℕ) → byte < 48 → digit_value b < 10 → not (eqb b byte) ≡ true
digit_lacks byte b h k = grind (arith, nat_tests)

digits_lack : (byte : ℕ) (ds : List ℕ) → byte < 48 → AllDigits 10 ds → lacks byte ds ≡ true
digits_lack byte [] h k = refl
digits_lack byte (d ∷ ds) h k = and_from (not (eqb d byte)) (lacks byte ds) (digit_lacks byte d h k.0) (digits_lack byte ds h k.1)

signed_lacks : (z : ℤ) → FitsSigned w32 z → lacks 40 (signed_decimal z) ≡ true
signed_lacks (pos n) h = digits_lack 40 (decimal n) (omega arith) (decimal_digits n (omega arith)).all
signed_lacks (negsuc n) h = digits_lack 40 (decimal (suc n)) (omega arith) (decimal_digits (suc n) (omega arith)).all

register_lacks : (n : ℕ) → n < 32 → lacks 41 (register_text n) ≡ true
register_lacks n h = digits_lack 41 (decimal n) (omega arith) (decimal_digits n (omega arith)).all

base_back : (n : ℕ) → n < 32 → base_of (register_text n ++ 41 ∷ []) ≡ Some n
base_back n h =
    ap base_by (cut_found 41 (register_text n) [] (register_lacks n h))
    ∙ ap register_of (word_trimmed (register_text n) (register_tight n h)) ∙ register_back n h

pub memory_arg : (z : ℤ) (n : ℕ) → FitsSigned w32 z → n < 32 → arg_of (memory_text z n) ≡ Ok (Mem z n)
memory_arg z n h k =
    let rest : List ℕ = register_text n ++ 41 ∷ [] in
    let text = memory_text z n in
    let number : signed_number_of (trimmed (signed_decimal z)) ≡ Value z =
    ap signed_number_of (word_trimmed (signed_decimal z) (signed_tight z h)) ∙ signed_back z h in
    let memory : memory_of text ≡ Ok (Mem z n) = ap memory_by (cut_found 40 (signed_decimal z) rest (signed_lacks z h))
    ∙ ap (λ (x : Numeral ℤ). with_base x (base_of rest)) number ∙ ap (λ (o : Option ℕ). with_base (Value z) o) (base_back n k) in
    ap (λ (o : Option ℕ). arg_by o (signed_number_of text) text) (signed_none z (40 ∷ rest) h)
    ∙ ap (λ (x : Numeral ℤ). arg_by None x text) (signed_no_number z rest h)
    ∙ ap (λ (b : Bool). cond b (Ok (Name text)) (memory_of text)) (signed_no_name z (40 ∷ rest) h) ∙ memory

joined_tight : (xs ys : List ℕ) → list_all tight xs ≡ true → list_all tight ys ≡ true → list_all tight (xs ++ ys) ≡ true
joined_tight xs ys h k = list_all-append tight xs ys ∙ and_from (list_all tight xs) (list_all tight ys) h k

some_joined : (xs ys : List ℕ) → is_some_text xs ≡ true → is_some_text (xs ++ ys) ≡ true
some_joined [] ys h = cc
some_joined (x ∷ xs) ys h = refl

pub memory_tight : (z : ℤ) (n : ℕ) → FitsSigned w32 z → n < 32 → IsTight (memory_text z n)
memory_tight z n h k =
    let front = signed_tight z h in
    let base = register_tight n k in
    let back = joined_tight (register_text n) (41 ∷ []) base.bytes refl in
    record {
      bytes = joined_tight (signed_decimal z) (40 ∷ register_text n ++ 41 ∷ []) front.bytes back;
      some = some_joined (signed_decimal z) (40 ∷ register_text n ++ 41 ∷ []) front.some;
    }
