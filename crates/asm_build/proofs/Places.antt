-- The addresses of the labels of a text.
use Rattle.std.proofs.Common.{◌≡◌, ◌⊎◌, inl, inr, ℕ, ◌+◌, ◌*◌, ◌%◌, ◌^◌, Bool, true, false, ◌&&◌, eqb, List, [], ◌∷◌, ◌++◌, Option, Some, None, refl, sym, ap, ◌∙◌, subst, ⊎_elim, eq-eqb}
use Rattle.std.specs.Str.{bytes_eq}
use Rattle.std.proofs.lemmas.Bool.{cases_Bool, and_parts, eqb-true}
use Rattle.asm_text.specs.declared.line.Line.{Line}
use Rattle.asm_build.specs.Labels.{address_of, with_label, labelled}
use Rattle.asm_build.specs.Image.{known_after, size_of, places_after}
use Rattle.asm_build.proofs.Sizes.{Covers}

abbrev Labels : Type 0
Labels = List (List ℕ × ℕ)

same_name : (a b : List ℕ) → bytes_eq a b ≡ true → a ≡ b
same_name [] [] h = refl
same_name [] (y ∷ ys) h = cc
same_name (x ∷ xs) [] h = cc
same_name (x ∷ xs) (y ∷ ys) h =
    let both = and_parts (eqb x y) (bytes_eq xs ys) h in
    let e = eqb-true x y both.0 in let f = same_name xs ys both.1 in
    ap (λ (n : ℕ). n ∷ xs) e ∙ ap (λ (ns : List ℕ). y ∷ ns) f

both_true : (b : Bool) → b ≡ true → (b && true) ≡ true
both_true true h = refl
both_true false h = cc

own_name : (a : List ℕ) → bytes_eq a a ≡ true
own_name [] = refl
own_name (x ∷ xs) = let more = own_name xs in rw more (both_true (eqb x x) (eq-eqb x x refl))

found_more : (name : List ℕ) (xs ys : Labels) (address : ℕ) → address_of name xs ≡ Some address → address_of name (xs ++ ys) ≡ Some address
found_more name [] ys address h = cc
found_more name (x ∷ xs) ys address h =
    ⊎_elim (λ e. let k : Some x.1 ≡ Some address = rw e at h in rw e k)
    (λ e. let k : address_of name xs ≡ Some address = rw e at h in rw e (found_more name xs ys address k)) (cases_Bool (bytes_eq name x.0))

absent_more : (name : List ℕ) (xs ys : Labels) → address_of name xs ≡ None → address_of name (xs ++ ys) ≡ address_of name ys
absent_more name [] ys h = refl
absent_more name (x ∷ xs) ys h =
    ⊎_elim (λ e. let k : Some x.1 ≡ None = rw e at h in cc k)
    (λ e. let k : address_of name xs ≡ None = rw e at h in rw e (absent_more name xs ys k)) (cases_Bool (bytes_eq name x.0))

cases_Option : (o : Option ℕ) → (o ≡ None) ⊎ ((n : ℕ) × (o ≡ Some n))
cases_Option None = inl refl
cases_Option (Some n) = inr (n, refl)

with_there : (name : List ℕ) (address own : ℕ) (labels : Labels) → address_of name labels ≡ Some own → with_label name address labels ≡ labels
with_there name address own labels h = rw h refl

pub with_new : (name : List ℕ) (address : ℕ) (labels : Labels) → address_of name labels ≡ None → with_label name address labels ≡ labels ++ (name, address) ∷ []
with_new name address labels h = rw h refl

keeps : (name other : List ℕ) (address own : ℕ) (labels : Labels) → address_of name labels ≡ Some own → address_of name (with_label other address labels) ≡ Some own
keeps name other address own labels h =
    ⊎_elim (λ e. ap (address_of name) (with_new other address labels e) ∙ found_more name labels ((other, address) ∷ []) own h)
    (λ e. ap (address_of name) (with_there other address e.0 labels e.1) ∙ h) (cases_Option (address_of other labels))

last_own : (name : List ℕ) (address : ℕ) → address_of name ((name, address) ∷ []) ≡ Some address
last_own name address = let e = own_name name in rw e refl

pub own : (name : List ℕ) (address : ℕ) (labels : Labels) → address_of name labels ≡ None → address_of name (with_label name address labels) ≡ Some address
own name address labels h =
    ap (address_of name) (with_new name address labels h) ∙ absent_more name labels ((name, address) ∷ []) h ∙ last_own name address

-- what one more label gives
last_gives : (name other : List ℕ) (address found : ℕ) → address_of name ((other, address) ∷ []) ≡ Some found → (name ≡ other) × (found ≡ address)
last_gives name other address found h =
    ⊎_elim (λ e. let k : Some address ≡ Some found = rw e at h in (same_name name other e, cc))
    (λ e. let k : None ≡ Some found = rw e at h in cc k) (cases_Bool (bytes_eq name other))

gives : (name other : List ℕ) (address found : ℕ) (labels : Labels) → address_of name (with_label other address labels) ≡ Some found
    → (address_of name labels ≡ Some found) ⊎ ((name ≡ other) × (found ≡ address))
gives name other address found labels h =
    ⊎_elim (λ e.
    let k : address_of name (labels ++ (other, address) ∷ []) ≡ Some found = sym (ap (address_of name) (with_new other address labels e)) ∙ h in
    ⊎_elim (λ f. inr (last_gives name other address found (sym (absent_more name labels ((other, address) ∷ []) f) ∙ k)))
    (λ f. inl (f.1 ∙ sym (found_more name labels ((other, address) ∷ []) f.0 f.1) ∙ k)) (cases_Option (address_of name labels)))
    (λ e. inl (sym (ap (address_of name) (with_there other address e.0 labels e.1)) ∙ h)) (cases_Option (address_of other labels))

record AllZero (labels : Labels) : Type 0 where
  pub at : (name : List ℕ) (address : ℕ) → address_of name labels ≡ Some address → address ≡ 0

zero_step : (name : List ℕ) (labels : Labels) → AllZero labels → AllZero (with_label name 0 labels)
zero_step name labels z = record { at = λ other address h. ⊎_elim (λ e. z.at other address e) (λ e. e.1) (gives other name 0 address labels h) }

zero_own : (name : List ℕ) (labels : Labels) → AllZero labels → address_of name (with_label name 0 labels) ≡ Some 0
zero_own name labels z =
    ⊎_elim (λ e. own name 0 labels e)
    (λ e. let zero = z.at name e.0 e.1 in keeps name name 0 0 labels (e.1 ∙ ap (λ (n : ℕ). Some n) zero)) (cases_Option (address_of name labels))

cover_step : (name : List ℕ) (address : ℕ) (known places : Labels) → Covers known places → AllZero known → Covers (with_label name 0 known) (with_label name address places)
cover_step name address known places c z = record {
  at = λ other found h.
      ⊎_elim (λ e. keeps other name 0 0 known (c.at other found e))
      (λ e. subst (λ (n : List ℕ). address_of n (with_label name 0 known) ≡ Some 0) (sym e.0) (zero_own name known z))
      (gives other name address found places h);
}

zero_label : (label : Option (List ℕ)) (labels : Labels) → AllZero labels → AllZero (labelled label 0 labels)
zero_label None labels z = z
zero_label (Some name) labels z = zero_step name labels z

cover_label : (label : Option (List ℕ)) (address : ℕ) (known places : Labels) → Covers known places → AllZero known → Covers (labelled label 0 known) (labelled label address places)
cover_label None address known places c z = c
cover_label (Some name) address known places c z = cover_step name address known places c z

cover_after : (lines : List Line) (known places sizes : Labels) (here : ℕ) → Covers known places → AllZero known → Covers (known_after known lines) (places_after sizes places here lines)
cover_after [] known places sizes here c z = c
cover_after (line ∷ lines) known places sizes here c z =
    cover_after lines (labelled line.label 0 known) (labelled line.label here places) sizes ((here + 4 * size_of sizes places line) % 2 ^ 32)
    (cover_label line.label here known places c z) (zero_label line.label known z)

-- every label with an address is known
pub cover_all : (lines : List Line) (sizes : Labels) → Covers (known_after [] lines) (places_after sizes [] 0 lines)
cover_all lines sizes = cover_after lines [] [] sizes 0 (record { at = λ name address h. cc h }) (record { at = λ name address h. cc h })

keeps_label : (name : List ℕ) (label : Option (List ℕ)) (address own : ℕ) (labels : Labels) → address_of name labels ≡ Some own → address_of name (labelled label address labels) ≡ Some own
keeps_label name None address own labels h = h
keeps_label name (Some other) address own labels h = keeps name other address own labels h

-- a label keeps its address
pub keeps_after : (lines : List Line) (name : List ℕ) (sizes labels : Labels) (here own : ℕ) → address_of name labels ≡ Some own
    → address_of name (places_after sizes labels here lines) ≡ Some own
keeps_after [] name sizes labels here own h = h
keeps_after (line ∷ lines) name sizes labels here own h =
    keeps_after lines name sizes (labelled line.label here labels) ((here + 4 * size_of sizes labels line) % 2 ^ 32) own (keeps_label name line.label here own labels h)
