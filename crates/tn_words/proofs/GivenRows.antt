-- The rows of clap's matches.
use Rattle.std.proofs.Common.{◌≡◌, ◌∙◌, Bool, true, false, ◌||◌, List, [], ◌∷◌, ◌++◌, refl, ap, Option, Some, None, append-nil, bytes_eq, ⊎_elim}
use Rattle.std.specs.Prelude.{if◌then◌else◌}
use Rattle.std.proofs.lemmas.Bool.{cases_Bool}
use Rattle.clap.specs.Walk.{Row, Text, at_row, first_of, has_row, more_values, with_values, without}
use Rattle.clap.specs.declared.builder.value_parser.Reading.{Reading}
use Rattle.clap.specs.declared.parser.matches.ValueSource.TheVariants.{CommandLine}

pub at_row-none : (id : Text) (change : Row → List Row) (missing rows : List Row) → has_row id rows ≡ false → at_row id change missing rows ≡ rows ++ missing
at_row-none id change missing [] h = refl
at_row-none id change missing (r ∷ rs) h =
    ⊎_elim (λ e. let k : true ≡ false = rw e at h in cc k)
    (λ e. let k : has_row id rs ≡ false = rw e at h in rw e (ap (λ (xs : List Row). r ∷ xs) (at_row-none id change missing rs k)))
    (cases_Bool (bytes_eq r.id id))

pub has-append : (id : Text) (xs ys : List Row) → has_row id (xs ++ ys) ≡ (has_row id xs || has_row id ys)
has-append id [] ys = refl
has-append id (x ∷ xs) ys =
    ⊎_elim (λ e. rw e refl) (λ e. rw e (has-append id xs ys)) (cases_Bool (bytes_eq x.id id))

pub first-none : (id : Text) (ys : List Row) → has_row id ys ≡ false → first_of id ys ≡ None
first-none id [] h = refl
first-none id (y ∷ ys) h =
    ⊎_elim (λ e. let k : true ≡ false = rw e at h in cc k)
    (λ e. let k : has_row id ys ≡ false = rw e at h in rw e (first-none id ys k)) (cases_Bool (bytes_eq y.id id))

pub first-behind : (id : Text) (xs ys : List Row) → has_row id xs ≡ false → first_of id (xs ++ ys) ≡ first_of id ys
first-behind id [] ys h = refl
first-behind id (x ∷ xs) ys h =
    ⊎_elim (λ e. let k : true ≡ false = rw e at h in cc k)
    (λ e. let k : has_row id xs ≡ false = rw e at h in rw e (first-behind id xs ys k)) (cases_Bool (bytes_eq x.id id))

pub first-before : (id : Text) (xs ys : List Row) → has_row id ys ≡ false → first_of id (xs ++ ys) ≡ first_of id xs
first-before id [] ys h = first-none id ys h
first-before id (x ∷ xs) ys h =
    ⊎_elim (λ e. rw e refl) (λ e. rw e (first-before id xs ys h)) (cases_Bool (bytes_eq x.id id))

pub or_true : (b : Bool) → (b || true) ≡ true
or_true true = refl
or_true false = refl

pub same_rows : (b : Bool) (rows : List Row) → (if b then rows else rows) ≡ rows
same_rows true rows = refl
same_rows false rows = refl

-- a first use appends a row
abbrev pub new_row : Text → Reading → List Text → List Row
new_row id how values = record { id = id; values = values; count = None; source = Some CommandLine; reading = how } ∷ []

pub appended : (id : Text) (how : Reading) (values : List Text) (rows : List Row) → has_row id rows ≡ false → with_values id how CommandLine values (without id rows) ≡ rows ++ new_row id how values
appended id how values rows h =
    let gone = at_row-none id (λ _. []) [] rows h ∙ append-nil rows in
    rw gone (at_row-none id (more_values CommandLine values) (new_row id how values) rows h)

-- the value of the words, or else the one from before
abbrev pub given : Option Text → Option Text → Option Text
given (Some x) old = Some x
given None old = old

pub given_none : (o : Option Text) → given o None ≡ o
given_none (Some x) = refl
given_none None = refl
