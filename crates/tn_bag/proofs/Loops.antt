-- Lists that are made for the numbers below a count, one after another.
use Rattle.std.proofs.Common.{ℕ, ◌≡◌, ◌≤◌, ◌<◌, ◌+◌, ◌-◌, ◌++◌, ◌∷◌, ◌==◌, ◌↔◌, IsTrue, [], Bool, true, false, List, append_assoc, suc, refl, sym, ap, ◌∙◌, arith}
use Rattle.std.specs.List.{flat_map, range_with_len}
use Rattle.std.proofs.lemmas.Bool.{eq-eqb, ne_eqb}
use Rattle.std.proofs.lemmas.List.{append-nil}
use Rattle.tn_keys.specs.Copies.{only_if}

-- what the numbers from `i` on give
abbrev pub from_on : {A : Type 0} → (ℕ → List A) → ℕ → ℕ → List A
from_on f i count = flat_map f (range_with_len i (count - i))

pub one_more : {A : Type 0} (f : ℕ → List A) (i count : ℕ) (before now : List A) → i < count → now ≡ before ++ f i → now ++ from_on f (i + 1) count ≡ before ++ from_on f i count
one_more f i count before now h e =
    let s : count - i ≡ suc (count - (i + 1)) = omega arith in
    rw (e, s) (append_assoc before (f i) (from_on f (i + 1) count))

pub all_done : {A : Type 0} (f : ℕ → List A) (i count : ℕ) (before : List A) → count ≤ i → before ++ from_on f i count ≡ before
all_done f i count before h = let s : count - i ≡ 0 = omega arith in rw s (append-nil before)

pub with_one : {A : Type 0} (b : Bool) (x : A) (before : List A) → b ≡ true → before ++ x ∷ [] ≡ before ++ only_if b x
with_one b x before e = rw e refl

pub with_none : {A : Type 0} (b : Bool) (x : A) (before : List A) → b ≡ false → before ≡ before ++ only_if b x
with_none b x before e = rw e (sym (append-nil before))

-- a bit, as a call told it
pub bit_is : (result : Bool) (b : ℕ) → (IsTrue result ↔ (b ≡ 1)) → result ≡ true → (b == 1) ≡ true
bit_is result b told e = eq-eqb b 1 (told.0 e)

pub bit_not : (result : Bool) (b : ℕ) → (IsTrue result ↔ (b ≡ 1)) → result ≡ false → (b == 1) ≡ false
bit_not result b told e = ne_eqb b 1 (λ one. let t = told.1 one in cc (e, t))

-- a number whose item is pushed, and one that gives none
pub more_yes : {A : Type 0} (f : ℕ → List A) (i count : ℕ) (before now : List A) (b : Bool) (x : A) → i < count → now ≡ before ++ x ∷ [] → f i ≡ only_if b x → b ≡ true → now ++ from_on f (i + 1) count ≡ before ++ from_on f i count
more_yes f i count before now b x h e gives is = one_more f i count before now h (e ∙ (with_one b x before is ∙ ap (λ ys. before ++ ys) (sym gives)))

pub more_no : {A : Type 0} (f : ℕ → List A) (i count : ℕ) (before now : List A) (b : Bool) (x : A) → i < count → now ≡ before → f i ≡ only_if b x → b ≡ false → now ++ from_on f (i + 1) count ≡ before ++ from_on f i count
more_no f i count before now b x h e gives none = one_more f i count before now h (e ∙ (with_none b x before none ∙ ap (λ ys. before ++ ys) (sym gives)))

pub from_start : {A : Type 0} (f : ℕ → List A) (count : ℕ) → from_on f 0 count ≡ flat_map f (range_with_len 0 count)
from_start f count = let s : count - 0 ≡ count = omega arith in ap (λ n. flat_map f (range_with_len 0 n)) s

-- all numbers were gone through
pub at_end : {A : Type 0} (f : ℕ → List A) (i count : ℕ) (now all : List A) → count ≤ i → now ++ from_on f i count ≡ all → now ≡ all
at_end f i count now all h e = sym (all_done f i count now h) ∙ e
