-- Parts taken apart, one after the other.
use Rattle.std.proofs.Common.{◌≡◌, ◌∙◌, ◌<◌, ◌++◌, ◌∷◌, [], List, get_or, length, map, take, refl, sym, ap, arith}
use Rattle.std.proofs.lemmas.List.{length_push, map-append, take_all, take_more}
use Rattle.tn_rows.specs.Stamped.{journals_of, presents_of, starts_of}
use Rattle.tn_stamped.specs.Placed.{PlacedView, stamped_of}

-- the same of one item more
pub taken_more : {X Y : Type 0} (f : X → Y) (xs gone : List X) (ys new : List Y) (x : X) (y : Y) → ys ≡ map f (take (length gone) xs) → (length gone < length xs) × (x ≡ get_or xs (length gone) x) → y ≡ f x → new ≡ ys ++ y ∷ []
    → new ≡ map f (take (length (gone ++ x ∷ [])) xs)
taken_more f xs gone ys new x y so_far turn is made =
    made ∙ ap (λ zs. zs ++ y ∷ []) so_far ∙ ap (λ z. map f (take (length gone) xs) ++ z ∷ []) (is ∙ ap f turn.1)
    ∙ sym (map-append f (take (length gone) xs) (get_or xs (length gone) x ∷ []))
    ∙ ap (map f) (sym (take_more xs (length gone) x turn.0))
    ∙ ap (λ k. map f (take k xs)) (sym (length_push gone x))

-- all items were taken
pub taken_all : {X Y : Type 0} (f : X → Y) (xs gone : List X) (ys : List Y) → ys ≡ map f (take (length gone) xs) → length gone ≡ length xs → ys ≡ map f xs
taken_all f xs gone ys so_far all = so_far ∙ ap (map f) (take_all (length gone) xs (omega (arith, all)))

pub starts_are : (ps : List PlacedView) → map (λ p. p.stamped.start) ps ≡ starts_of (stamped_of ps)
starts_are [] = refl
starts_are (p ∷ ps) = ap (λ vs. p.stamped.start ∷ vs) (starts_are ps)

pub journals_are : (ps : List PlacedView) → map (λ p. p.stamped.entries) ps ≡ journals_of (stamped_of ps)
journals_are [] = refl
journals_are (p ∷ ps) = ap (λ es. p.stamped.entries ∷ es) (journals_are ps)

pub presents_are : (ps : List PlacedView) → map (λ p. p.stamped.present) ps ≡ presents_of (stamped_of ps)
presents_are [] = refl
presents_are (p ∷ ps) = ap (λ vs. p.stamped.present ∷ vs) (presents_are ps)
