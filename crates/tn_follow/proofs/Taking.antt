-- Taking a spot out of a list.
use Rattle.std.proofs.Common.{◌≡◌, ◌∙◌, ℕ, suc, ◌+◌, ◌<◌, ◌≤◌, true, false, List, [], ◌∷◌, ◌++◌, length, take, drop, get_or, take_all, Option, Some, None, option_map, refl, ap, sym, arith}
use Rattle.std.proofs.lemmas.List.{drop_more, take-append-drop, take_more}
use Rattle.tn_follow.proofs.Each.{behind_front}
use Rattle.tn_follow.specs.declared.spots.Spot.{Spot}
use Rattle.tn_follow.specs.Follow.{same_spot, without}

-- none of the first spots of a list is this one, and the list is as it was
pub record Passed (x : Spot) (n : ℕ) (xs was : List Spot) : Type 0 where
  pub none : without x (take n xs) ≡ None
  pub same : xs ≡ was

next : (n : ℕ) → n + 1 ≡ suc n
next n = omega arith

first_is : (x y : Spot) (ys : List Spot) → same_spot x y ≡ true → without x (y ∷ ys) ≡ Some ys
first_is x y ys e = rw e refl

alone_not : (x y : Spot) → same_spot x y ≡ false → without x (y ∷ []) ≡ None
alone_not x y e = rw e refl

-- the next spot is this one
pub taken_here : (x : Spot) (n : ℕ) (xs was : List Spot) (d : Spot) → Passed x n xs was → n < length xs → same_spot x (get_or xs n d) ≡ true → without x was ≡ Some (take n xs ++ drop (suc n) xs)
taken_here x n xs was d p less e =
    let y = get_or xs n d in
    ap (without x) (sym p.same ∙ (sym (take-append-drop n xs) ∙ ap (λ (zs : List Spot). take n xs ++ zs) (drop_more xs n d less)))
    ∙ (behind_front x (take n xs) (y ∷ drop (n + 1) xs) p.none ∙ ap (λ (o : Option (List Spot)). option_map (λ rest. take n xs ++ rest) o) (first_is x y (drop (n + 1) xs) e)
    ∙ ap (λ (k : ℕ). Some (take n xs ++ drop k xs)) (next n))

-- the next spot is another
pub passed_more : (x : Spot) (n : ℕ) (xs was : List Spot) (d : Spot) → Passed x n xs was → n < length xs → same_spot x (get_or xs n d) ≡ false → Passed x (n + 1) xs was
passed_more x n xs was d p less e =
    let y = get_or xs n d in
    record {
      none = ap (without x) (take_more xs n d less) ∙ (behind_front x (take n xs) (y ∷ []) p.none ∙ ap (λ (o : Option (List Spot)). option_map (λ rest. take n xs ++ rest) o) (alone_not x y e));
      same = p.same;
    }

-- all spots are others
pub passed_all : (x : Spot) (n : ℕ) (xs was : List Spot) → Passed x n xs was → length xs ≤ n → (without x was ≡ None) × (xs ≡ was)
passed_all x n xs was p all = (ap (without x) (sym p.same ∙ sym (take_all n xs all)) ∙ p.none, p.same)
