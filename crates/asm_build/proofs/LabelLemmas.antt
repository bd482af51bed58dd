-- Labels and their addresses.
use Rattle.std.proofs.Common.{◌≡◌, ℕ, List, [], ◌∷◌, ◌++◌, None, Some, refl, ap, ⊎_elim}
use Rattle.std.specs.Str.{bytes_eq}
use Rattle.std.proofs.lemmas.Bool.{cases_Bool}
use Rattle.indexmap.specs.IndexMap.{insert_entry}
use Rattle.asm_build.specs.Labels.{address_of, with_label}

absent : (name : List ℕ) (address : ℕ) (labels : List (List ℕ × ℕ)) → address_of name labels ≡ None
    → insert_entry bytes_eq labels name address ≡ labels ++ (name, address) ∷ []
absent name address [] h = refl
absent name address (label ∷ labels) h =
    ⊎_elim (λ e. let k : Some label.1 ≡ None = rw e at h in cc k)
    (λ e. let k : address_of name labels ≡ None = rw e at h in rw e (ap (λ (ls : List (List ℕ × ℕ)). label ∷ ls) (absent name address labels k)))
    (cases_Bool (bytes_eq name label.0))

pub added : (name : List ℕ) (address : ℕ) (labels : List (List ℕ × ℕ)) → address_of name labels ≡ None
    → insert_entry bytes_eq labels name address ≡ with_label name address labels
added name address labels h = rw h (absent name address labels h)
