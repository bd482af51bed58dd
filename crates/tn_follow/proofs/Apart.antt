-- Parts share no spots, so what is new in a machine is what is new on each part.
use Rattle.std.proofs.Common.{◌≡◌, ◌≢◌, ◌∙◌, ⊎_elim, ℕ, ◌+◌, ◌<◌, ◌≤◌, zero, suc, ◌&&◌, ◌||◌, Bool, true, false, cond, eqb, List, [], ◌∷◌, ◌++◌, map, filter, None, refl, ap, sym, subst, arith}
use Rattle.std.specs.List.{flat_map, range_with_len}
use Rattle.std.proofs.lemmas.Bool.{cases_lt, eqb-true, ne_eqb}
use Rattle.std.proofs.lemmas.List.{append-nil}
use Rattle.tn_base.specs.Address.{tile_of, tile_place}
use Rattle.tn_base.specs.Parts.{part_count, tile_part}
use Rattle.tn_base.specs.Shape.{WithinLimits}
use Rattle.tn_base.specs.declared.message.Letter.{Letter}
use Rattle.tn_base.specs.declared.shape.ShapeNumbers.{ShapeNumbers}
use Rattle.tn_keys.specs.Copies.{each_below}
use Rattle.tn_letters.specs.Standing.{standing_on}
use Rattle.tn_letters.specs.declared.place.Place.{Place}
use Rattle.tn_letters.specs.declared.place.Place.TheVariants as place
use Rattle.tn_quiet.proofs.Runs.{kept_at}
use Rattle.tn_rows.specs.Places.{Places, Nowhere, One, Two, places}
use Rattle.tn_rows.specs.Stamped.{touches}
use Rattle.tn_rows.specs.WorldView.{WorldView}
use Rattle.tn_follow.proofs.Each.{new_in_each}
use Rattle.tn_follow.proofs.Others.{leaves_others}
use Rattle.tn_follow.proofs.Places.{stand_on_their_part}
use Rattle.tn_follow.proofs.Staying.{none_new}
use Rattle.tn_follow.specs.Apart.{HasNone}
use Rattle.tn_follow.specs.Follow.{is_sent_by, new_spots, same_place, same_spot, spots, spots_in, without}
use Rattle.tn_follow.specs.Parts.{AreInOrder, AreOn, NewAtItsParts, NewByPart, new_at, new_on, part_at, spots_on}
use Rattle.tn_follow.specs.declared.spots.Spot.{Spot}

-- ---- one place is on one part

both : (a b : Bool) → (a && b) ≡ true → (a ≡ true) × (b ≡ true)
both true b e = (refl, e)
both false b e = cc e

same_part : (n : ShapeNumbers) (a b : Place) → same_place a b ≡ true → part_at n a ≡ part_at n b
same_part n (place.Pending t) (place.Pending u) e = ap (λ i. tile_part (tile_place n (tile_of i))) (eqb-true t.0 u.0 e)
same_part n (place.Transit p way) (place.Transit q to) e = eqb-true p.0 q.0 (both (eqb p.0 q.0) _ e).0
same_part n (place.OnLink p i) (place.OnLink q j) e = eqb-true p.0 q.0 (both (eqb p.0 q.0) _ e).0
same_part n (place.InProcess p side) (place.InProcess q from) e = eqb-true p.0 q.0 (both (eqb p.0 q.0) _ e).0
same_part n (place.Slot tile slot t) (place.Slot at room u) e = ap (λ i. tile_part (tile_place n i)) (eqb-true tile.0 at.0 (both (eqb tile.0 at.0) (eqb slot room) (both (eqb tile.0 at.0 && eqb slot room) (eqb t.0 u.0) e).0).0)
same_part n (place.Pending t) (place.Transit q to) e = cc e
same_part n (place.Pending t) (place.OnLink q j) e = cc e
same_part n (place.Pending t) (place.InProcess q from) e = cc e
same_part n (place.Pending t) (place.Slot at room u) e = cc e
same_part n (place.Transit p way) (place.Pending u) e = cc e
same_part n (place.Transit p way) (place.OnLink q j) e = cc e
same_part n (place.Transit p way) (place.InProcess q from) e = cc e
same_part n (place.Transit p way) (place.Slot at room u) e = cc e
same_part n (place.OnLink p i) (place.Pending u) e = cc e
same_part n (place.OnLink p i) (place.Transit q to) e = cc e
same_part n (place.OnLink p i) (place.InProcess q from) e = cc e
same_part n (place.OnLink p i) (place.Slot at room u) e = cc e
same_part n (place.InProcess p side) (place.Pending u) e = cc e
same_part n (place.InProcess p side) (place.Transit q to) e = cc e
same_part n (place.InProcess p side) (place.OnLink q j) e = cc e
same_part n (place.InProcess p side) (place.Slot at room u) e = cc e
same_part n (place.Slot tile slot t) (place.Pending u) e = cc e
same_part n (place.Slot tile slot t) (place.Transit q to) e = cc e
same_part n (place.Slot tile slot t) (place.OnLink q j) e = cc e
same_part n (place.Slot tile slot t) (place.InProcess q from) e = cc e

-- each of these spots is on a part of which P holds
abbrev Among : ShapeNumbers → (ℕ → Type 0) → List Spot → Type 0
Among n P [] = Unit {0}
Among n P (s ∷ ss) = P (part_at n s.place) × Among n P ss

among_both : (n : ShapeNumbers) (P : ℕ → Type 0) (xs ys : List Spot) → Among n P xs → Among n P ys → Among n P (xs ++ ys)
among_both n P [] ys a b = b
among_both n P (x ∷ xs) ys a b = (a.0, among_both n P xs ys a.1 b)

on_among : (n : ShapeNumbers) (P : ℕ → Type 0) (p : ℕ) (xs : List Spot) → P p → AreOn n p xs → Among n P xs
on_among n P p [] here on = tt
on_among n P p (x ∷ xs) here on = (subst P (sym on.0) here, on_among n P p xs here on.1)

-- on the parts from number i on
from_among : (n : ShapeNumbers) (f : ℕ → List Spot) (at i m : ℕ) → at < i → ((k : ℕ) → k < i + m → AreOn n k (f k)) → Among n (λ p. at < p) (flat_map f (range_with_len i m))
from_among n f at i zero less h = tt
from_among n f at i (suc m) less h =
    among_both n (λ p. at < p) (f i) (flat_map f (range_with_len (i + 1) m)) (on_among n (λ p. at < p) i (f i) less (h i (omega arith)))
    (from_among n f at (i + 1) m (omega (arith, less)) (λ k few. h k (omega (arith, few))))

other_by : (b : Bool) (x y : Spot) (ys : List Spot) → same_spot x y ≡ b → b ≡ false → without x ys ≡ None → without x (y ∷ ys) ≡ None
other_by b x y ys is not none = rw (is ∙ not, none) refl

not_here : (n : ShapeNumbers) (x y : Spot) (b : Bool) → same_spot x y ≡ b → part_at n x.place ≢ part_at n y.place → b ≡ false
not_here n x y true is apart = absurd (apart (same_part n x.place y.place (both (same_place x.place y.place) (eqb x.receiver y.receiver) is).0))
not_here n x y false is apart = refl

-- a spot is not among those of other parts
none_at : (n : ShapeNumbers) (x : Spot) (Q : ℕ → Type 0) (ys : List Spot) → ((q : ℕ) → Q q → part_at n x.place ≢ q) → Among n Q ys → without x ys ≡ None
none_at n x Q [] apart on = refl
none_at n x Q (y ∷ ys) apart on = other_by (same_spot x y) x y ys refl (not_here n x y (same_spot x y) refl (apart (part_at n y.place) on.0)) (none_at n x Q ys apart on.1)

none_of : (n : ShapeNumbers) (P Q : ℕ → Type 0) (xs ys : List Spot) → ((p q : ℕ) → P p → Q q → p ≢ q) → Among n P xs → Among n Q ys → HasNone xs ys
none_of n P Q [] ys apart a b = tt
none_of n P Q (x ∷ xs) ys apart a b = (none_at n x Q ys (λ q has. apart (part_at n x.place) q a.0 has) b, none_of n P Q xs ys apart a.1 b)

-- ---- what is new by part

new_from : (n : ShapeNumbers) (f g : ℕ → List Spot) (i m : ℕ) → ((k : ℕ) → k < i + m → AreOn n k (f k)) → ((k : ℕ) → k < i + m → AreOn n k (g k))
    → new_spots (flat_map g (range_with_len i m)) (flat_map f (range_with_len i m)) ≡ flat_map (λ k. new_spots (g k) (f k)) (range_with_len i m)
new_from n f g i zero old new = refl
new_from n f g i (suc m) old new =
    let more_old = from_among n f i (i + 1) m (omega arith) (λ k few. old k (omega (arith, few))) in
    let more_new = from_among n g i (i + 1) m (omega arith) (λ k few. new k (omega (arith, few))) in
    let here_old = on_among n (λ p. p ≡ i) i (f i) refl (old i (omega arith)) in
    let here_new = on_among n (λ p. p ≡ i) i (g i) refl (new i (omega arith)) in
    new_in_each (g i) (flat_map g (range_with_len (i + 1) m)) (f i) (flat_map f (range_with_len (i + 1) m))
    (none_of n (λ p. p ≡ i) (λ p. i < p) (g i) (flat_map f (range_with_len (i + 1) m)) (λ p q is past same. omega (arith, is, past, same)) here_new more_old)
    (none_of n (λ p. i < p) (λ p. p ≡ i) (flat_map g (range_with_len (i + 1) m)) (f i) (λ p q past is same. omega (arith, is, past, same)) more_new here_old)
    ∙ ap (λ (t : List Spot). new_spots (g i) (f i) ++ t) (new_from n f g (i + 1) m (λ k few. old k (omega (arith, few))) (λ k few. new k (omega (arith, few))))

-- the spots of a whole machine are those on each part
spots_by : (b : Bool) (origin number : ℕ) (x : Place × Letter) (xs ys : List (Place × Letter)) → spots_in origin number (xs ++ ys) ≡ spots_in origin number xs ++ spots_in origin number ys
    → map (λ (q : Place × Letter). record { place = q.0; receiver = q.1.receiver }) (cond b (x ∷ filter (λ (q : Place × Letter). is_sent_by origin number q.1) (xs ++ ys)) (filter (λ (q : Place × Letter). is_sent_by origin number q.1) (xs ++ ys)))
    ≡ map (λ (q : Place × Letter). record { place = q.0; receiver = q.1.receiver }) (cond b (x ∷ filter (λ (q : Place × Letter). is_sent_by origin number q.1) xs) (filter (λ (q : Place × Letter). is_sent_by origin number q.1) xs)) ++ spots_in origin number ys
spots_by true origin number x xs ys rest = ap (λ (t : List Spot). record { place = x.0; receiver = x.1.receiver } ∷ t) rest
spots_by false origin number x xs ys rest = rest

spots_both : (origin number : ℕ) (xs ys : List (Place × Letter)) → spots_in origin number (xs ++ ys) ≡ spots_in origin number xs ++ spots_in origin number ys
spots_both origin number [] ys = refl
spots_both origin number (x ∷ xs) ys = spots_by (is_sent_by origin number x.1) origin number x xs ys (spots_both origin number xs ys)

spots_from : (origin number : ℕ) (f : ℕ → List (Place × Letter)) (xs : List ℕ) → spots_in origin number (flat_map f xs) ≡ flat_map (λ k. spots_in origin number (f k)) xs
spots_from origin number f [] = refl
spots_from origin number f (x ∷ xs) = spots_both origin number (f x) (flat_map f xs) ∙ ap (λ (t : List Spot). spots_in origin number (f x) ++ t) (spots_from origin number f xs)

pub new_by_part : NewByPart
new_by_part origin number old new limits same before behind =
    let count : part_count new.shape ≡ part_count old.shape = ap part_count same in
    let f = spots_on origin number old in
    let g = spots_on origin number new in
    let listed : spots origin number new ≡ flat_map g (range_with_len 0 (part_count old.shape)) =
    spots_from origin number (standing_on new) (range_with_len 0 (part_count new.shape)) ∙ ap (λ k. flat_map g (range_with_len 0 k)) count in
    let was : spots origin number old ≡ flat_map f (range_with_len 0 (part_count old.shape)) = spots_from origin number (standing_on old) (range_with_len 0 (part_count old.shape)) in
    ap (λ (t : List Spot). new_spots t (spots origin number old)) listed
    ∙ (ap (λ (t : List Spot). new_spots (flat_map g (range_with_len 0 (part_count old.shape))) t) was
    ∙ new_from old.shape f g 0 (part_count old.shape)
    (λ k few. stand_on_their_part origin number old k limits before (omega (arith, few)))
    (λ k few. subst (λ n. AreOn n k (g k)) same (stand_on_their_part origin number new k (subst WithinLimits (sym same) limits) behind (omega (arith, few, count)))))

-- ---- the parts of an event

no_part : (h : ℕ → List Spot) (i m : ℕ) → ((k : ℕ) → i ≤ k → k < i + m → h k ≡ []) → flat_map h (range_with_len i m) ≡ []
no_part h i zero none = refl
no_part h i (suc m) none = ap (λ (t : List Spot). t ++ flat_map h (range_with_len (i + 1) m)) (none i (omega arith) (omega arith)) ∙ no_part h (i + 1) m (λ k low few. none k (omega (arith, low)) (omega (arith, few)))

one_part : (h : ℕ → List Spot) (p i m : ℕ) → i ≤ p → p < i + m → ((k : ℕ) → i ≤ k → k < i + m → k ≢ p → h k ≡ []) → flat_map h (range_with_len i m) ≡ h p
one_part h p i zero low few none = absurd (omega (arith, low, few))
one_part h p i (suc m) low few none =
    ⊎_elim
    (λ (past : i < p). ap (λ (t : List Spot). t ++ flat_map h (range_with_len (i + 1) m)) (none i (omega arith) (omega arith) (λ same. omega (arith, same, past)))
    ∙ one_part h p (i + 1) m (omega (arith, past)) (omega (arith, few)) (λ k from to not. none k (omega (arith, from)) (omega (arith, to)) not))
    (λ (here : p ≤ i). let is : i ≡ p = omega (arith, here, low) in
    ap (λ (t : List Spot). h i ++ t) (no_part h (i + 1) m (λ k from to. none k (omega (arith, from)) (omega (arith, to)) (λ same. omega (arith, same, from, here))))
    ∙ (append-nil (h i) ∙ ap h is))
    (cases_lt i p)

two_parts : (h : ℕ → List Spot) (p q i m : ℕ) → i ≤ p → p < q → q < i + m → ((k : ℕ) → i ≤ k → k < i + m → k ≢ p → k ≢ q → h k ≡ []) → flat_map h (range_with_len i m) ≡ h p ++ h q
two_parts h p q i zero low less few none = absurd (omega (arith, low, less, few))
two_parts h p q i (suc m) low less few none =
    ⊎_elim
    (λ (past : i < p). ap (λ (t : List Spot). t ++ flat_map h (range_with_len (i + 1) m)) (none i (omega arith) (omega arith) (λ same. omega (arith, same, past)) (λ same. omega (arith, same, past, less)))
    ∙ two_parts h p q (i + 1) m (omega (arith, past)) less (omega (arith, few)) (λ k from to not nor. none k (omega (arith, from)) (omega (arith, to)) not nor))
    (λ (here : p ≤ i). let is : i ≡ p = omega (arith, here, low) in
    ap (λ (t : List Spot). h i ++ t) (one_part h q (i + 1) m (omega (arith, is, less)) (omega (arith, few)) (λ k from to not. none k (omega (arith, from)) (omega (arith, to)) (λ same. omega (arith, same, from, here)) not))
    ∙ ap (λ k. h k ++ h q) is)
    (cases_lt i p)

neither : (a b : Bool) → a ≡ false → b ≡ false → (a || b) ≡ false
neither true b first second = first
neither false b first second = second

abbrev over : (ℕ → List Spot) → Places → List Spot
over h Nowhere = []
over h (One p) = h p
over h (Two p q) = h p ++ h q

-- what is new on each part is nothing but on the parts of the event
by_places : (h : ℕ → List Spot) (n : ShapeNumbers) (at : Places) → AreInOrder n at → ((p : ℕ) → touches at p ≡ false → h p ≡ []) → each_below (part_count n) h ≡ over h at
by_places h n Nowhere order none = no_part h 0 (part_count n) (λ k low few. none k refl)
by_places h n (One p) order none = one_part h p 0 (part_count n) (omega arith) (omega (arith, order)) (λ k low few not. none k (ne_eqb p k (λ same. not (sym same))))
by_places h n (Two p q) order none =
    two_parts h p q 0 (part_count n) (omega arith) order.0 (omega (arith, order.1))
    (λ k low few not nor. none k (neither (eqb p k) (eqb q k) (ne_eqb p k (λ same. not (sym same))) (ne_eqb q k (λ same. nor (sym same)))))

over_new : (origin number : ℕ) (old new : WorldView) (at : Places) → over (new_on origin number old new) at ≡ new_at origin number old new at
over_new origin number old new Nowhere = refl
over_new origin number old new (One p) = refl
over_new origin number old new (Two p q) = refl

pub new_at_its_parts : NewAtItsParts
new_at_its_parts origin number e old new limits world is order =
    let kept = kept_at e old new (places old.shape e) world is in
    let h = new_on origin number old new in
    new_by_part origin number old new limits kept.1 world kept.0
    ∙ (by_places h old.shape (places old.shape e) order
    (λ p apart. ap (λ qs. new_spots (spots_in origin number qs) (spots_on origin number old p)) (leaves_others e old new p is apart) ∙ none_new (spots_on origin number old p))
    ∙ over_new origin number old new (places old.shape e))
