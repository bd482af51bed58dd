-- A roster and the seats say the same.
use Rattle.std.proofs.Common.{◌≡◌, ◌≢◌, ◌<◌, ◌≤◌, ◌⊎◌, inl, inr, ℕ, suc, zero, ◌+◌, ◌*◌, ◌/◌, ◌%◌, ◌-◌, min, eqb, cond, Bool, true, false, List, [], ◌∷◌, ◌++◌, length, get_or, take, drop, refl, sym, ◌∙◌, ap, arith, subst}
use Rattle.std.proofs.Math.Nat.{div-lt_iff_lt-mul, mod-lt}
use Rattle.std.proofs.lemmas.Nat.{div-add-mod', div-mul-add}
use Rattle.std.proofs.lemmas.Bool.Decides.{nat_tests}
use Rattle.std.proofs.lemmas.List.{get_or-drop, get_or-take, length-drop, length-take, take-append-drop}
use Rattle.tn_base.specs.declared.shape.ShapeNumbers.{ShapeNumbers}
use Rattle.tn_base.specs.Address.{thread_at}
use Rattle.tn_base.specs.Shape.{thread_count}
use Rattle.tn_sums.specs.Totals.{total, weigh}
use Rattle.tn_sums.proofs.Laws.{total-plus, total_one, total_same, total_zero, weigh-append}
use Rattle.polite_place.specs.declared.placement.Seat.{Seat}
use Rattle.polite_place.specs.Order.{AllBelow, AllListsBelow, Once, bfs, times}
use Rattle.polite_place.specs.Roster.{Listed, Lists, roster_of, vertices_on, weight_on}
use Rattle.polite_place.specs.Seats.{seat, seat_at, seat_of, seats, share_of}
use Rattle.polite_place.proofs.Adds.{all_below_at}
use Rattle.polite_place.proofs.Apart.{apart, place_back}
use Rattle.polite_place.proofs.Firsts.{length_bfs, once_bfs}
use Rattle.polite_place.proofs.Seating.{Threads, order_of, place_below, place_of, seat_is, thread_apart, below}
use Rattle.polite_place.proofs.Shares.{enough, share_few, share_some}
use Rattle.polite_place.proofs.Taking.{standing}

-- A share of a list.

abbrev share_at : ℕ → List ℕ → ℕ → List ℕ
share_at share xs i = take share (drop (i * share) xs)

at_share : (share : ℕ) (xs : List ℕ) (i d : ℕ) → d < share → get_or (share_at share xs i) d 0 ≡ get_or xs (i * share + d) 0
at_share share xs i d h = get_or-take share (drop (i * share) xs) d 0 h ∙ get_or-drop (i * share) xs d 0

length_share : (share : ℕ) (xs : List ℕ) (i : ℕ) → length (share_at share xs i) ≡ min share (length xs - i * share)
length_share share xs i = length-take share (drop (i * share) xs) ∙ ap (min share) (length-drop (i * share) xs)

within_share : (share : ℕ) (xs : List ℕ) (i d : ℕ) → d < length (share_at share xs i) → (d < share) × (i * share + d < length xs)
within_share share xs i d h = let e = length_share share xs i in (omega arith, omega arith)

inside_share : (share : ℕ) (xs : List ℕ) (k : ℕ) → 0 < share → k < length xs → k % share < length (share_at share xs (k / share))
inside_share share xs k some h = let e = length_share share xs (k / share) in let m : k / share * share + k % share ≡ k = div-add-mod' k share in let r : k % share < share = mod-lt k some in omega arith

-- Sums over an order in which each number stands once.

weight_of : (x c v : ℕ) (b : Bool) → b ≡ eqb x v → (f : ℕ → ℕ) → c ≡ f x → cond b c 0 ≡ cond b 1 0 * f v
weight_of x c v true e f h = let i : x ≡ v = grind (arith, nat_tests) in let k = ap f i in omega arith
weight_of x c v false e f h = omega arith

weigh_times : (f : ℕ → ℕ) (n : ℕ) (xs : List ℕ) → AllBelow n xs → weigh f xs ≡ total (λ v. times xs v * f v) n
weigh_times f n [] b = let z = total_zero n in let e = total_same (λ v. times [] v * f v) (λ _. 0) n (λ v lt. omega arith) in omega arith
weigh_times f n (x ∷ xs) b =
    let h = weigh_times f n xs b.1 in
    let one = total_one x (f x) n b.0 in
    let same = total_same (λ v. cond (eqb x v) (f x) 0 + times xs v * f v) (λ v. times (x ∷ xs) v * f v) n (λ v lt. let w = weight_of x (f x) v (eqb x v) refl f refl in omega arith) in
    let plus = total-plus (λ v. cond (eqb x v) (f x) 0) (λ v. times xs v * f v) n in
    omega arith

once_weighs : (f : ℕ → ℕ) (n : ℕ) (xs : List ℕ) → Once n xs → weigh f xs ≡ total f n
once_weighs f n xs o = weigh_times f n xs o.below ∙ total_same (λ v. times xs v * f v) f n (λ v lt. let e = o.once v lt in rw e (omega arith))

weigh_as : (f g : ℕ → ℕ) (xs : List ℕ) → ((k : ℕ) → k < length xs → f (get_or xs k 0) ≡ g (get_or xs k 0)) → weigh f xs ≡ weigh g xs
weigh_as f g [] h = refl
weigh_as f g (x ∷ xs) h = let r = weigh_as f g xs (λ k lt. h (suc k) (omega arith)) in let a = h 0 (omega arith) in omega arith

weigh_none : (xs : List ℕ) → weigh (λ _. 0) xs ≡ 0
weigh_none [] = refl
weigh_none (x ∷ xs) = let h = weigh_none xs in omega arith

nothing : (f : ℕ → ℕ) (xs : List ℕ) → ((k : ℕ) → k < length xs → f (get_or xs k 0) ≡ 0) → weigh f xs ≡ 0
nothing f xs h = weigh_as f (λ _. 0) xs h ∙ weigh_none xs

before : (share i k : ℕ) → 0 < share → k < i * share → k / share ≢ i
before share i k some h e = let l : k / share < i = (div-lt_iff_lt-mul some).1 h in absurd (omega arith)

behind : (share i k : ℕ) → 0 < share → (i * share + (share + k)) / share ≢ i
behind share i k some e =
    let a : (i + 1) * share ≡ i * share + share = omega arith in
    let l : (i * share + (share + k)) / share < i + 1 = omega arith in
    let m : i * share + (share + k) < (i + 1) * share = (div-lt_iff_lt-mul some).0 l in
    absurd (omega arith)

-- only the i-th share of a list counts
one_share : (f g : ℕ → ℕ) (share i : ℕ) (xs : List ℕ) → 0 < share → ((k : ℕ) → k < length xs → k / share ≡ i → f (get_or xs k 0) ≡ g (get_or xs k 0)) → ((k : ℕ) → k < length xs → k / share ≢ i → f (get_or xs k 0) ≡ 0)
    → weigh f xs ≡ weigh g (share_at share xs i)
one_share f g share i xs some here else_ =
    let front = take (i * share) xs in
    let back = drop (i * share) xs in
    let block = share_at share xs i in
    let rest = drop share back in
    let split : front ++ back ≡ xs = take-append-drop (i * share) xs in
    let again : block ++ rest ≡ back = take-append-drop share back in
    let a = weigh-append f front back in
    let b = weigh-append f block rest in
    let whole : weigh f (front ++ back) ≡ weigh f xs = ap (weigh f) split in
    let half : weigh f (block ++ rest) ≡ weigh f back = ap (weigh f) again in
    let lf = length-take (i * share) xs in
    let lb = length-drop (i * share) xs in
    let lr = length-drop share back in
    let first : weigh f front ≡ 0 = nothing f front (λ k lt. ap f (get_or-take (i * share) xs k 0 (omega arith)) ∙ else_ k (omega arith) (before share i k some (omega arith))) in
    let last : weigh f rest ≡ 0 = nothing f rest (λ k lt. ap f (get_or-drop share back k 0 ∙ get_or-drop (i * share) xs (share + k) 0) ∙ else_ (i * share + (share + k)) (omega arith) (behind share i k some)) in
    let mid : weigh f block ≡ weigh g block = weigh_as f g block (λ k lt.
    let w = within_share share xs i k lt in
    let e = at_share share xs i k w.0 in
    ap f e ∙ here (i * share + k) w.1 (div-mul-add i share k w.0) ∙ ap g (sym e)) in
    omega arith

-- The roster.

roster_order : (n : ShapeNumbers) (outs : List (List ℕ)) → (roster_of n outs).order ≡ bfs outs (length outs)
unfolding roster_of
roster_order n outs = refl

roster_share : (n : ShapeNumbers) (outs : List (List ℕ)) → (roster_of n outs).share ≡ share_of n (length outs)
unfolding roster_of
roster_share n outs = refl

pub made : (n : ShapeNumbers) (outs given order : List (List ℕ)) (first : List ℕ) (share : ℕ) → given ≡ outs → order ≡ given → first ≡ bfs order (length order) → share ≡ share_of n (length given) → record { order = first; share = share } ≡ roster_of n outs
unfolding roster_of
made n outs given order first share a b c d =
    let o : first ≡ bfs outs (length outs) = c ∙ ap (λ xs. bfs xs (length xs)) (b ∙ a) in
    let s : share ≡ share_of n (length outs) = d ∙ ap (λ xs. share_of n (length xs)) a in
    rw (o, s) refl

listed_as : (n : ShapeNumbers) (outs : List (List ℕ)) (i : ℕ) → vertices_on n outs i ≡ share_at (share_of n (length outs)) (bfs outs (length outs)) i
listed_as n outs i = rw (roster_order, roster_share) refl

-- the vertex at a place of the order has its place there
place_at : (outs : List (List ℕ)) (k : ℕ) → AllListsBelow (length outs) outs → k < length outs → (get_or (bfs outs (length outs)) k 0 < length outs) × (place_of outs (get_or (bfs outs (length outs)) k 0) ≡ k)
unfolding place_of
place_at outs k a h =
    let o = once_bfs outs a in
    let l = length_bfs outs a in
    let order = bfs outs (length outs) in
    let lt : k < length order = omega arith in
    (all_below_at (length outs) order k o.below lt, place_back order k lt (λ j less. apart (length outs) order j k o less lt))

some_share : (n : ShapeNumbers) (outs : List (List ℕ)) (v : ℕ) → Threads n → v < length outs → 0 < share_of n (length outs)
some_share n outs v t h = share_some (thread_count n) (length outs) (share_of n (length outs)) v (enough (length outs) (thread_count n) t.some) h

-- what is listed of a thread
pub record Item (n : ShapeNumbers) (outs : List (List ℕ)) (i d : ℕ) : Type 0 where
  pub vertex : get_or (vertices_on n outs i) d 0 ≡ get_or (bfs outs (length outs)) (i * share_of n (length outs) + d) 0
  pub place : i * share_of n (length outs) + d < length outs
  pub device : d < share_of n (length outs)

item : (n : ShapeNumbers) (outs : List (List ℕ)) (i d : ℕ) → AllListsBelow (length outs) outs → d < length (vertices_on n outs i) → Item n outs i d
item n outs i d a h =
    let share = share_of n (length outs) in
    let order = bfs outs (length outs) in
    let e = listed_as n outs i in
    let l = length_bfs outs a in
    let g : d < length (share_at share order i) = subst (λ xs. d < length xs) e h in
    let w = within_share share order i d g in
    record { vertex = ap (λ xs. get_or xs d 0) e ∙ at_share share order i d w.0; place = let p = w.1 in omega arith; device = w.0 }

seat_at_place : (n : ShapeNumbers) (share i d : ℕ) → d < share → seat_at n share (i * share + d) ≡ seat (thread_at n i) d
seat_at_place n share i d h =
    let q : (i * share + d) / share ≡ i = div-mul-add i share d h in
    let m : (i * share + d) / share * share + (i * share + d) % share ≡ i * share + d = div-add-mod' (i * share + d) share in
    let qs : (i * share + d) / share * share ≡ i * share = ap (λ x. x * share) q in
    let r : (i * share + d) % share ≡ d = omega arith in
    ap (λ x. seat (thread_at n x) ((i * share + d) % share)) q ∙ ap (λ x. seat (thread_at n i) x) r

seat_there : (n : ShapeNumbers) (outs : List (List ℕ)) (i d : ℕ) → AllListsBelow (length outs) outs → d < length (vertices_on n outs i) → seat_of (seats n outs) (get_or (vertices_on n outs i) d 0) ≡ seat (thread_at n i) d
seat_there n outs i d a h =
    let it = item n outs i d a h in
    let p = place_at outs (i * share_of n (length outs) + d) a it.place in
    ap (λ v. seat_of (seats n outs) v) it.vertex
    ∙ (seat_is n outs (get_or (bfs outs (length outs)) (i * share_of n (length outs) + d) 0) p.0
    ∙ (ap (seat_at n (share_of n (length outs))) p.1 ∙ seat_at_place n (share_of n (length outs)) i d it.device))

vertex_there : (n : ShapeNumbers) (outs : List (List ℕ)) (i d : ℕ) → AllListsBelow (length outs) outs → d < length (vertices_on n outs i) → get_or (vertices_on n outs i) d 0 < length outs
vertex_there n outs i d a h = let it = item n outs i d a h in let p = place_at outs (i * share_of n (length outs) + d) a it.place in subst (λ v. v < length outs) (sym it.vertex) p.0

listed : (n : ShapeNumbers) (outs : List (List ℕ)) (v : ℕ) → Threads n → AllListsBelow (length outs) outs → v < length outs → Listed n outs v
unfolding place_of
listed n outs v t a h =
    let share = share_of n (length outs) in
    let order = bfs outs (length outs) in
    let k = place_of outs v in
    let some = some_share n outs v t h in
    let l = length_bfs outs a in
    let w = place_below outs v a h in
    let st = standing (length outs) order v (once_bfs outs a) h in
    let e = seat_is n outs v h in
    let d : (seat_of (seats n outs) v).device ≡ k % share = ap (λ (q : Seat). q.device) e in
    let g : k % share < length (share_at share order (k / share)) = inside_share share order k some (omega arith) in
    let x = listed_as n outs (k / share) in
    let m : k / share * share + k % share ≡ k = div-add-mod' k share in
    record {
      place = k / share;
      address = sym (ap (λ (q : Seat). q.thread.0) e);
      has = record {
        thread = below n outs v t a h;
        device = rw d (subst (λ xs. k % share < length xs) (sym x) g);
        vertex = rw d (ap (λ xs. get_or xs (k % share) 0) x ∙ (at_share share order (k / share) (k % share) (mod-lt k some) ∙ (ap (λ j. get_or order j 0) m ∙ st.there)));
      };
    }

few : (n : ShapeNumbers) (outs : List (List ℕ)) (per i : ℕ) → Threads n → length outs ≤ thread_count n * per → length (vertices_on n outs i) ≤ per
few n outs per i t room =
    let f = share_few (length outs) (thread_count n) per t.some room in
    let e = ap length (listed_as n outs i) in
    let l = length_share (share_of n (length outs)) (bfs outs (length outs)) i in
    omega arith

-- Weights.

weighs_by : (weight a x v : ℕ) (b : Bool) → b ≡ eqb x a → x ≡ a → cond b weight 0 ≡ weight
weighs_by weight a x v true e h = refl
weighs_by weight a x v false e h = grind (arith, nat_tests)

weighs_none : (weight a x v : ℕ) (b : Bool) → b ≡ eqb x a → x ≢ a → cond b weight 0 ≡ 0
weighs_none weight a x v true e h = absurd (h (grind (arith, nat_tests)))
weighs_none weight a x v false e h = refl

-- the thread of the vertex at a place of the order
thread_there : (n : ShapeNumbers) (outs : List (List ℕ)) (k : ℕ) → AllListsBelow (length outs) outs → k < length outs → (seat_of (seats n outs) (get_or (bfs outs (length outs)) k 0)).thread.0 ≡ thread_at n (k / share_of n (length outs))
thread_there n outs k a h =
    let p = place_at outs k a h in
    ap (λ (q : Seat). q.thread.0) (seat_is n outs (get_or (bfs outs (length outs)) k 0) p.0 ∙ ap (seat_at n (share_of n (length outs))) p.1)

weights : (n : ShapeNumbers) (outs : List (List ℕ)) (f : ℕ → ℕ) (i : ℕ) → Threads n → AllListsBelow (length outs) outs → i < thread_count n → 0 < share_of n (length outs)
    → weigh f (vertices_on n outs i) ≡ total (weight_on n outs f (thread_at n i)) (length outs)
weights n outs f i t a h some =
    let share = share_of n (length outs) in
    let order = bfs outs (length outs) in
    let l = length_bfs outs a in
    let g = weight_on n outs f (thread_at n i) in
    let threads : (k : ℕ) → k < length order → k / share < thread_count n = λ k lt. (div-lt_iff_lt-mul some).1 (let e = enough (length outs) (thread_count n) t.some in omega arith) in
    let here : (k : ℕ) → k < length order → k / share ≡ i → g (get_or order k 0) ≡ f (get_or order k 0) = λ k lt e.
    weighs_by (f (get_or order k 0)) (thread_at n i) ((seat_of (seats n outs) (get_or order k 0)).thread.0) 0 (eqb ((seat_of (seats n outs) (get_or order k 0)).thread.0) (thread_at n i)) refl
    (thread_there n outs k a (omega arith) ∙ ap (thread_at n) e) in
    let else_ : (k : ℕ) → k < length order → k / share ≢ i → g (get_or order k 0) ≡ 0 = λ k lt ne.
    weighs_none (f (get_or order k 0)) (thread_at n i) ((seat_of (seats n outs) (get_or order k 0)).thread.0) 0 (eqb ((seat_of (seats n outs) (get_or order k 0)).thread.0) (thread_at n i)) refl
    (λ e. ne (thread_apart n (k / share) i t (threads k lt) h (sym (thread_there n outs k a (omega arith)) ∙ e) (order_of _ _) (order_of _ _))) in
    ap (weigh f) (listed_as n outs i) ∙ (sym (one_share g f share i order some here else_) ∙ once_weighs g (length outs) order (once_bfs outs a))

empty_front : (f : ℕ → ℕ) (a : ℕ) → weigh f (take a []) ≡ 0
empty_front f zero = refl
empty_front f (suc a) = refl

empty : (f : ℕ → ℕ) (a b : ℕ) → weigh f (take a (drop b [])) ≡ 0
empty f a zero = empty_front f a
empty f a (suc b) = empty_front f a

-- without vertices nothing weighs
no_weights : (n : ShapeNumbers) (outs : List (List ℕ)) (f : ℕ → ℕ) (i : ℕ) → AllListsBelow (length outs) outs → length outs ≡ 0 → weigh f (vertices_on n outs i) ≡ total (weight_on n outs f (thread_at n i)) (length outs)
unfolding total
no_weights n [] f i a e = ap (weigh f) (listed_as n [] i) ∙ empty f (share_of n 0) (i * share_of n 0)
no_weights n (x ∷ xs) f i a e = absurd (omega arith)

any_weights : (n : ShapeNumbers) (outs : List (List ℕ)) (f : ℕ → ℕ) (i : ℕ) → Threads n → AllListsBelow (length outs) outs → i < thread_count n → (length outs ≡ 0) ⊎ (0 < length outs)
    → weigh f (vertices_on n outs i) ≡ total (weight_on n outs f (thread_at n i)) (length outs)
any_weights n outs f i t a h (inl none) = no_weights n outs f i a none
any_weights n outs f i t a h (inr some) = weights n outs f i t a h (some_share n outs 0 t some)

none_or_some : (k : ℕ) → (k ≡ 0) ⊎ (0 < k)
none_or_some zero = inl refl
none_or_some (suc k) = inr (omega arith)

pub lists : (n : ShapeNumbers) (outs : List (List ℕ)) → Threads n → AllListsBelow (length outs) outs → Lists n outs
lists n outs t a = record {
  listed = λ v h. listed n outs v t a h;
  there = λ i d hi h. vertex_there n outs i d a h;
  seats = λ i d hi h. seat_there n outs i d a h;
  few = λ per i room. few n outs per i t room;
  weights = λ f i h. any_weights n outs f i t a h (none_or_some (length outs));
}
