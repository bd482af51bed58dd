-- What a word looks like.
use Rattle.std.proofs.Common.{◌≡◌, ◌∙◌, ℕ, Bool, true, false, ◌||◌, ◌==◌, [], ◌∷◌, ◌++◌, codes, refl, ap, sym, Option, Some, None, bytes_eq, ◌⊎◌, inl, inr, ⊎_elim, length, one-add, add-one, arith, ◌<◌}
use Rattle.std.specs.List.{after_first, before_first}
use Rattle.std.proofs.lemmas.Bool.{cases_Bool, eqb-true}
use Rattle.clap.specs.Lexer.{has_byte, long_of, short_of}
use Rattle.clap.specs.Walk.{Text}

abbrev is_eq : ℕ → Bool
is_eq b = b == 61

onto_name : (x : ℕ) (xs : Text) → (x == 61) ≡ false → before_first is_eq (x ∷ xs) ≡ x ∷ before_first is_eq xs
onto_name x xs e = rw (e, one-add) refl

behind_name : (x : ℕ) (xs : Text) → (x == 61) ≡ false → after_first is_eq (x ∷ xs) ≡ after_first is_eq xs
behind_name x xs e = rw (e, one-add, add-one, add-one) refl

or_right : (a b : Bool) → a ≡ false → (a || b) ≡ b
or_right a b h = rw h refl

no_cut : (t : Text) → has_byte 61 t ≡ false → before_first is_eq t ≡ t
no_cut [] h = refl
no_cut (x ∷ xs) h =
    ⊎_elim (λ e. let k : true ≡ false = rw e at h in cc k)
    (λ e. let k : has_byte 61 xs ≡ false = rw e at h in onto_name x xs e ∙ ap (λ (ys : Text). x ∷ ys) (no_cut xs k))
    (cases_Bool (x == 61))

cut : (t : Text) → has_byte 61 t ≡ true → t ≡ before_first is_eq t ++ 61 ∷ after_first is_eq t
cut [] h = cc h
cut (x ∷ xs) h =
    ⊎_elim (λ e. let same = eqb-true x 61 e in rw same refl)
    (λ e. let k : has_byte 61 xs ≡ true = rw e at h in
    rw (onto_name x xs e, behind_name x xs e) (ap (λ (ys : Text). x ∷ ys) (cut xs k)))
    (cases_Bool (x == 61))

-- `--name` and `--name=value`
abbrev pub Spells : Text → Text → Option Text → Type 0
Spells w name None = w ≡ 45 ∷ 45 ∷ name
Spells w name (Some v) = w ≡ 45 ∷ 45 ∷ (name ++ 61 ∷ v)

pub record Long (w : Text) : Type 0 where
  pub name : Text
  pub given : Option Text
  pub looks : long_of w ≡ Some (name, given)
  pub spells : Spells w name given

pub record Short (w : Text) : Type 0 where
  pub flag : ℕ
  pub flags : Text
  pub no_long : long_of w ≡ None
  pub looks : short_of w ≡ Some (flag ∷ flags)

pub record Plain (w : Text) : Type 0 where
  pub no_long : long_of w ≡ None
  pub no_short : short_of w ≡ None

abbrev pub Look : Text → Type 0
Look w = Long w ⊎ (Short w ⊎ Plain w)

long_by : (t : Text) → (0 < length t) → (b : Bool) → has_byte 61 t ≡ b → Long (45 ∷ 45 ∷ t)
long_by [] some b h = absurd (omega arith)
long_by (x ∷ xs) some true h = record { name = before_first is_eq (x ∷ xs); given = Some (after_first is_eq (x ∷ xs)); looks = rw h refl; spells = ap (λ (t : Text). 45 ∷ 45 ∷ t) (cut (x ∷ xs) h) }
long_by (x ∷ xs) some false h = record { name = before_first is_eq (x ∷ xs); given = None; looks = rw h refl; spells = ap (λ (t : Text). 45 ∷ 45 ∷ t) (sym (no_cut (x ∷ xs) h)) }

look_two : (b : ℕ) (t : Text) → bytes_eq (45 ∷ b ∷ t) (codes "--") ≡ false → (y : Bool) → (b == 45) ≡ y → Look (45 ∷ b ∷ t)
look_two b [] d true e = let same = eqb-true b 45 e in let k : true ≡ false = rw same at d in cc k
look_two b (x ∷ xs) d true e =
    let same = eqb-true b 45 e in
    rw same (inl (long_by (x ∷ xs) (omega arith) (has_byte 61 (x ∷ xs)) refl))
look_two b t d false e = inr (inl (record { flag = b; flags = t; no_long = rw e refl; looks = rw e refl }))

look_by : (a : ℕ) (r : Text) → bytes_eq (a ∷ r) (codes "--") ≡ false → (y : Bool) → (a == 45) ≡ y → Look (a ∷ r)
look_by a [] d true e = let same = eqb-true a 45 e in rw same (inr (inr (record { no_long = refl; no_short = refl })))
look_by a (b ∷ t) d true e = let same = eqb-true a 45 e in let k : bytes_eq (45 ∷ b ∷ t) (codes "--") ≡ false = rw same at d in rw same (look_two b t k (b == 45) refl)
look_by a r d false e = inr (inr (record { no_long = rw e refl; no_short = rw e refl }))

-- each word but `--` is one of the three
pub look : (w : Text) → bytes_eq w (codes "--") ≡ false → Look w
look [] d = inr (inr (record { no_long = refl; no_short = refl }))
look (a ∷ r) d = look_by a r d (a == 45) refl
