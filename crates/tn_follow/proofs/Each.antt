-- What is new in two lists that share no spot.
use Rattle.std.proofs.Common.{◌≡◌, ◌∙◌, ◌⊎◌, inl, inr, ⊎_elim, Bool, true, false, cond, List, [], ◌∷◌, ◌++◌, Option, Some, None, option_map, refl, ap, sym}
use Rattle.tn_follow.specs.Apart.{HasNone, NewInEach}
use Rattle.tn_follow.specs.declared.spots.Spot.{Spot}
use Rattle.tn_follow.specs.Follow.{new_by, new_spots, same_spot, with_first, without}

-- a list without a spot, by what the test of its first one says
none_by : (b : Bool) (ys : List Spot) (y : Spot) (o : Option (List Spot)) → cond b (Some ys) (with_first y o) ≡ None → (b ≡ false) × (o ≡ None)
none_by true ys y o e = cc e
none_by false ys y None e = (refl, refl)
none_by false ys y (Some zs) e = cc e

some_by : (b : Bool) (ys : List Spot) (y : Spot) (o : Option (List Spot)) (r : List Spot) → cond b (Some ys) (with_first y o) ≡ Some r → ((b ≡ true) × (ys ≡ r)) ⊎ ((t : List Spot) × (b ≡ false) × (o ≡ Some t) × (y ∷ t ≡ r))
some_by true ys y o r e = inl (refl, cc e)
some_by false ys y None r e = cc e
some_by false ys y (Some zs) r e = inr (zs, refl, refl, cc e)

first_map : (y : Spot) (ys : List Spot) (o : Option (List Spot)) → with_first y (option_map (λ zs. ys ++ zs) o) ≡ option_map (λ zs. (y ∷ ys) ++ zs) o
first_map y ys None = refl
first_map y ys (Some zs) = refl

nothing_before : (o : Option (List Spot)) → o ≡ option_map (λ zs. [] ++ zs) o
nothing_before None = refl
nothing_before (Some zs) = refl

-- a spot that the front does not have is looked for behind it
pub behind_front : (x : Spot) (ys zs : List Spot) → without x ys ≡ None → without x (ys ++ zs) ≡ option_map (λ rest. ys ++ rest) (without x zs)
behind_front x [] zs none = nothing_before (without x zs)
behind_front x (y ∷ ys) zs none =
    let p = none_by (same_spot x y) ys y (without x ys) none in
    rw p.0 (ap (with_first y) (behind_front x ys zs p.1) ∙ first_map y ys (without x zs))

-- a spot that the front has is taken there
in_front : (x : Spot) (ys zs r : List Spot) → without x ys ≡ Some r → without x (ys ++ zs) ≡ Some (r ++ zs)
in_front x [] zs r some = cc some
in_front x (y ∷ ys) zs r some = ⊎_elim
    (λ p. rw p.0 (ap (λ (t : List Spot). Some (t ++ zs)) p.1))
    (λ p. rw p.1 (ap (with_first y) (in_front x ys zs p.0 p.2) ∙ ap (λ (t : List Spot). Some (t ++ zs)) p.3))
    (some_by (same_spot x y) ys y (without x ys) r some)

-- a list that has not a spot has it not without another one
still_none : (x z : Spot) (ys r : List Spot) → without x ys ≡ None → without z ys ≡ Some r → without x r ≡ None
still_none x z [] r none some = cc some
still_none x z (y ∷ ys) r none some =
    let p = none_by (same_spot x y) ys y (without x ys) none in
    ⊎_elim
    (λ q. ap (without x) (sym q.1) ∙ p.1)
    (λ q. ap (without x) (sym q.3) ∙ rw p.0 (ap (with_first y) (still_none x z ys q.0 p.1 q.2)))
    (some_by (same_spot z y) ys y (without z ys) r some)

still_all : (xs : List Spot) (z : Spot) (ys r : List Spot) → HasNone xs ys → without z ys ≡ Some r → HasNone xs r
still_all [] z ys r none some = tt
still_all (x ∷ xs) z ys r none some = (still_none x z ys r none.0 some, still_all xs z ys r none.1 some)

new_behind_by : (x : Spot) (xs ys zs : List Spot) (o : Option (List Spot)) → without x zs ≡ o → HasNone xs ys → ((rest : List Spot) → new_spots xs (ys ++ rest) ≡ new_spots xs rest) → new_by (option_map (λ rest. ys ++ rest) o) x (ys ++ zs) (λ others. new_spots xs others) ≡ new_by o x zs (λ others. new_spots xs others)
new_behind_by x xs ys zs None is none more = ap (λ (t : List Spot). x ∷ t) (more zs)
new_behind_by x xs ys zs (Some rest) is none more = more rest

-- what is new of spots that the front does not have is new behind it
new_behind : (xs ys zs : List Spot) → HasNone xs ys → new_spots xs (ys ++ zs) ≡ new_spots xs zs
new_behind [] ys zs none = refl
new_behind (x ∷ xs) ys zs none =
    ap (λ (o : Option (List Spot)). new_by o x (ys ++ zs) (λ others. new_spots xs others)) (behind_front x ys zs none.0)
    ∙ new_behind_by x xs ys zs (without x zs) refl none.1 (λ rest. new_behind xs ys rest none.1)

each_by : (x : Spot) (xs more ys others : List Spot) (o : Option (List Spot)) → without x ys ≡ o → without x others ≡ None → HasNone more ys
    → ((zs : List Spot) → HasNone more zs → new_spots (xs ++ more) (zs ++ others) ≡ new_spots xs zs ++ new_spots more others)
    → new_by (without x (ys ++ others)) x (ys ++ others) (λ rest. new_spots (xs ++ more) rest) ≡ new_by o x ys (λ rest. new_spots xs rest) ++ new_spots more others
each_by x xs more ys others None is none apart rest =
    let there : without x (ys ++ others) ≡ None = behind_front x ys others is ∙ ap (λ (o : Option (List Spot)). option_map (λ t. ys ++ t) o) none in
    ap (λ (o : Option (List Spot)). new_by o x (ys ++ others) (λ r. new_spots (xs ++ more) r)) there ∙ ap (λ (t : List Spot). x ∷ t) (rest ys apart)
each_by x xs more ys others (Some r) is none apart rest =
    ap (λ (o : Option (List Spot)). new_by o x (ys ++ others) (λ t. new_spots (xs ++ more) t)) (in_front x ys others r is) ∙ rest r (still_all more x ys r apart is)

pub new_in_each : NewInEach
new_in_each [] more ys others first second = new_behind more ys others second
new_in_each (x ∷ xs) more ys others first second =
    each_by x xs more ys others (without x ys) refl first.0 second (λ zs apart. new_in_each xs more zs others first.1 apart)
