-- Words without `--`.
use Rattle.std.proofs.Common.{◌≡◌, Bool, true, false, List, [], ◌∷◌, ◌++◌, ◌||◌, codes, refl, ap, map, bytes_eq, ⊎_elim}
use Rattle.std.specs.List.{list_any}
use Rattle.std.proofs.lemmas.Bool.{cases_Bool}
use Rattle.tn_words.specs.Forms.{Text}
use Rattle.tn_words.specs.Parsers.{has_dashes}

abbrev pub NoDashes : List Text → Type 0
NoDashes [] = Unit {0}
NoDashes (w ∷ ws) = (bytes_eq w (codes "--") ≡ false) × NoDashes ws

pub no_dashes : (words : List Text) → has_dashes words ≡ false → NoDashes words
no_dashes [] h = tt
no_dashes (w ∷ ws) h =
    ⊎_elim (λ e. let k : true ≡ false = rw e at h in cc k)
    (λ e. let k : has_dashes ws ≡ false = rw e at h in (e, no_dashes ws k))
    (cases_Bool (bytes_eq w (codes "--")))

pub none_dashed : (words : List Text) → NoDashes words → has_dashes words ≡ false
none_dashed [] d = refl
none_dashed (w ∷ ws) d = rw d.0 (none_dashed ws d.1)

pub any-map : {X : Type 0} (f : X → Text) (xs : List X) → has_dashes (map f xs) ≡ list_any (λ x. bytes_eq (f x) (codes "--")) xs
any-map f [] = refl
any-map f (x ∷ xs) = ap (λ (b : Bool). bytes_eq (f x) (codes "--") || b) (any-map f xs)

-- words put among others
pub among : (front mid back : List Text) → NoDashes (front ++ back) → NoDashes mid → NoDashes (front ++ (mid ++ back))
among [] [] back d m = d
among [] (x ∷ mid) back d m = (m.0, among [] mid back d m.1)
among (w ∷ front) mid back d m = (d.0, among front mid back d.1 m)
