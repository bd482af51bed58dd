-- The vertices take their seats, each once.
use Rattle.std.proofs.Common.{ap, ◌≡◌, ◌≢◌, ◌<◌, ◌≤◌, ℕ, ◌+◌, ◌*◌, List, length, map, get_or, set, refl, sym, ◌∙◌, arith, below_more, take, drop, ◌++◌, false, ltb, Ok}
use Rattle.std.proofs.lemmas.Bool.{le-ltb}
use Rattle.std.proofs.lemmas.Grind.{common_steps}
use Rattle.std.specs.List.{range_with_len}
use Rattle.std.proofs.lemmas.List.{ext_get_or, get_or-set_same, get_or-set_other}
use Rattle.std.proofs.lemmas.List.FromFn.{get_or-map-range_with_len, length-map-range_with_len}
use Rattle.tn_base.specs.declared.shape.ShapeNumbers.{ShapeNumbers}
use Rattle.tn_base.specs.Shape.{thread_count}
use Rattle.polite_place.specs.declared.placement.Seat.{Seat}
use Rattle.polite_place.specs.Order.{Once, bfs}
use Rattle.polite_place.specs.Seats.{place_in, seat, seat_at, seats, placed, share_of}
use Rattle.polite_place.proofs.Adds.{all_below_at}
use Rattle.polite_place.proofs.Apart.{apart, stands}

abbrev pub no_seat : Seat
no_seat = seat 0 0

-- one more vertex has its seat
pub written : (n : ℕ) (xs : List ℕ) (ys : List Seat) (f : ℕ → Seat) (p : ℕ) → Once n xs → length ys ≡ n → p < length xs → ((k : ℕ) → k < p → get_or ys (get_or xs k 0) no_seat ≡ f k)
    → (k : ℕ) → k < p + 1 → get_or (set ys (get_or xs p 0) (f p)) (get_or xs k 0) no_seat ≡ f k
written n xs ys f p o l h old =
    below_more _ p
    (λ k lt. let ne : get_or xs k 0 ≢ get_or xs p 0 = apart n xs k p o lt h in rw get_or-set_other (old k lt))
    (let b = all_below_at n xs p o.below h in get_or-set_same ys (get_or xs p 0) (f p) no_seat (omega arith))

-- the place of a vertex, in an order in which each stands once
pub record Standing (n : ℕ) (xs : List ℕ) (v : ℕ) : Type 0 where
  pub within : place_in xs v < length xs
  pub there : get_or xs (place_in xs v) 0 ≡ v

pub standing : (n : ℕ) (xs : List ℕ) (v : ℕ) → Once n xs → v < n → Standing n xs v
standing n xs v o h = let t = o.once v h in let s = stands xs v (omega arith) in record { within = s.0; there = s.1 }

-- all have their seats
pub taken : (n : ShapeNumbers) (outs : List (List ℕ)) (order : List ℕ) (share : ℕ) (list : List Seat) → order ≡ bfs outs (length outs) → Once (length outs) order → share ≡ share_of n (length outs) → length list ≡ length outs
    → ((k : ℕ) → k < length order → get_or list (get_or order k 0) no_seat ≡ seat_at n share k) → list ≡ seats n outs
unfolding seats
taken n outs order share list o once s l h =
    let f : ℕ → Seat = λ v. seat_at n (share_of n (length outs)) (place_in (bfs outs (length outs)) v) in
    ext_get_or no_seat list (map f (range_with_len 0 (length outs))) (l ∙ sym (length-map-range_with_len f 0 (length outs)))
    (λ v lt.
    let w : v < length outs = omega arith in
    let st = standing (length outs) order v once w in
    let a : get_or list v no_seat ≡ seat_at n share (place_in order v) = ap (λ u. get_or list u no_seat) (sym st.there) ∙ h (place_in order v) st.within in
    let b : get_or (map f (range_with_len 0 (length outs))) v no_seat ≡ f v = get_or-map-range_with_len f 0 (length outs) v v no_seat w (omega arith) in
    a ∙ ap (λ q. seat_at n q (place_in order v)) s ∙ ap (λ xs. seat_at n (share_of n (length outs)) (place_in xs v)) o ∙ sym b)

pub written_as : (n : ℕ) (xs : List ℕ) (ys : List Seat) (f : ℕ → Seat) (p : ℕ) (s : Seat) → Once n xs → length ys ≡ n → p < length xs → s ≡ f p → ((k : ℕ) → k < p → get_or ys (get_or xs k 0) no_seat ≡ f k)
    → (k : ℕ) → k < p + 1 → get_or (set ys (get_or xs p 0) s) (get_or xs k 0) no_seat ≡ f k
written_as n xs ys f p s o l h e old = rw e (written n xs ys f p o l h old)

whole : (xs ys : List Seat) (n : ℕ) → n ≡ length ys → length xs ≡ length ys → take n (xs ++ drop (length xs) ys) ≡ xs
whole xs ys n e l = grind (arith, common_steps)

-- the answer where there is room
pub answered : (n : ShapeNumbers) (per : ℕ) (outs : List (List ℕ)) (order : List ℕ) (new old : List Seat) (m share : ℕ) → length outs ≤ thread_count n * per → order ≡ bfs outs (length outs) → Once (length outs) order → length order ≡ length outs
    → share ≡ share_of n (length outs) → m ≡ length old → length new ≡ length old → length old ≡ length outs
    → ((k : ℕ) → k < length order → get_or new (get_or order k 0) no_seat ≡ seat_at n share k) → Ok (take m (new ++ drop (length new) old)) ≡ placed n per outs
answered n per outs order new old m share room o once count s a b c h =
    let t : ltb (thread_count n * per) (length outs) ≡ false = le-ltb (thread_count n * per) (length outs) room in
    let w : new ≡ seats n outs = taken n outs order share new o once s (b ∙ c) h in
    rw (t, whole new old m a b, w) refl
