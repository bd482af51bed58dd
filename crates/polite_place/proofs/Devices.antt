-- The devices of a thread are numbered from 0.
use Rattle.std.proofs.Common.{◌⊎◌, ◌≡◌, ◌≢◌, ◌<◌, ◌≤◌, ℕ, suc, zero, ◌+◌, ◌*◌, ◌/◌, ◌%◌, eqb, cond, Bool, true, false, List, [], ◌∷◌, length, get_or, refl, sym, ◌∙◌, ap, arith, inl, inr}
use Rattle.std.proofs.lemmas.Bool.Decides.{nat_tests}
use Rattle.std.proofs.lemmas.Nat.{div-add-mod', div-mul-add, mod_below}
use Rattle.tn_base.specs.declared.shape.ShapeNumbers.{ShapeNumbers}
use Rattle.tn_base.specs.Address.{thread_at}
use Rattle.tn_base.specs.Shape.{thread_count}
use Rattle.tn_sums.specs.Totals.{total, weigh}
use Rattle.tn_sums.proofs.Laws.{total-plus, total-suc, total_nothing, total_one, total_same, total_zero}
use Rattle.polite_place.specs.declared.placement.Seat.{Seat}
use Rattle.polite_place.specs.Order.{AllListsBelow, bfs}
use Rattle.polite_place.specs.Roster.{Lists, vertices_on, weight_on}
use Rattle.polite_place.specs.Seats.{Numbered, Seated, device_on, devices_on, seat, seat_at, seat_of, seats, share_of}
use Rattle.polite_place.proofs.Adds.{all_below_at}
use Rattle.polite_place.proofs.Apart.{apart, place_back}
use Rattle.polite_place.proofs.Counts.{total_le}
use Rattle.polite_place.proofs.Firsts.{length_bfs, once_bfs}
use Rattle.polite_place.proofs.Seating.{Threads, length_seats, place_below, place_of, seat_is, seated}
use Rattle.polite_place.proofs.Shares.{enough, share_some}
use Rattle.polite_place.proofs.Taking.{standing}

-- Sums of sums.

pub total_swap : (f : ℕ → ℕ → ℕ) (m n : ℕ) → total (λ d. total (λ v. f d v) n) m ≡ total (λ v. total (λ d. f d v) m) n
total_swap f zero n =
    total_nothing (λ d. total (λ v. f d v) n) ∙ sym (total_zero n) ∙ total_same (λ v. 0) (λ v. total (λ d. f d v) 0) n (λ v h. sym (total_nothing (λ d. f d v)))
total_swap f (suc m) n =
    total-suc (λ d. total (λ v. f d v) n) m
    ∙ ap (λ x. x + total (λ v. f m v) n) (total_swap f m n)
    ∙ sym (total-plus (λ v. total (λ d. f d v) m) (λ v. f m v) n)
    ∙ total_same (λ v. total (λ d. f d v) m + f m v) (λ v. total (λ d. f d v) (suc m)) n (λ v h. sym (total-suc (λ d. f d v) m))

pub total_mono : (f g : ℕ → ℕ) (n : ℕ) → ((v : ℕ) → v < n → f v ≤ g v) → total f n ≤ total g n
total_mono f g zero h = let a = total_nothing f in omega arith
total_mono f g (suc n) h =
    let a = total-suc f n in
    let b = total-suc g n in
    let c = total_mono f g n (λ v l. h v (omega arith)) in
    let d = h n (omega arith) in
    omega arith

zero_or : (x : ℕ) → (x ≡ 0) ⊎ (1 ≤ x)
zero_or zero = inl refl
zero_or (suc x) = inr (omega arith)

earlier_none : (f : ℕ → ℕ) (n u : ℕ) → 1 ≤ f n → (f u ≡ 0) ⊎ (f n ≡ 0) → f u ≡ 0
earlier_none f n u some (inl e) = e
earlier_none f n u some (inr e) = absurd (omega arith)

-- a sum of which at most one term counts
pub total_single : (f : ℕ → ℕ) (n : ℕ) → ((v : ℕ) → v < n → f v ≤ 1) → ((u v : ℕ) → u < v → v < n → (f u ≡ 0) ⊎ (f v ≡ 0)) → total f n ≤ 1
total_single f zero one alone = let a = total_nothing f in omega arith
total_single f (suc n) one alone = by (total_single f n (λ v l. one v (omega arith)) (λ u v l m. alone u v l (omega arith))) (zero_or (f n)) where
  by : total f n ≤ 1 → (f n ≡ 0) ⊎ (1 ≤ f n) → total f (suc n) ≤ 1
  by a (inl e) = let b = total-suc f n in omega arith
  by before (inr some) =
      let a = total_same f (λ v. 0) n (λ u l. earlier_none f n u some (alone u n l (omega arith))) ∙ total_zero n in
      let b = total-suc f n in
      let c = one n (omega arith) in
      omega arith

-- A thread has at most as many devices as it may have.

abbrev if_one : Bool → ℕ
if_one b = cond b 1 0

-- a vertex, as a device of this number
abbrev as_device : List Seat → ℕ → ℕ → ℕ → ℕ
as_device placement a v d = cond (eqb (seat_of placement v).device d) (device_on placement a v) 0

small : (b c : Bool) → cond b (cond c 1 0) 0 ≤ 1
small true true = omega arith
small true false = omega arith
small false c = omega arith

is_seat : (s : Seat) (a d : ℕ) → s.thread.0 ≡ a → s.device ≡ d → s ≡ seat a d
is_seat s a d e f = ap (λ x. seat x s.device) e ∙ ap (λ y. seat a y) f

counted : (s : Seat) (a d : ℕ) (b c : Bool) → b ≡ eqb s.device d → c ≡ eqb s.thread.0 a → (cond b (if_one c) 0 ≡ 0) ⊎ (s ≡ seat a d)
counted s a d true true e f = inr (is_seat s a d (grind (arith, nat_tests)) (grind (arith, nat_tests)))
counted s a d true false e f = inl refl
counted s a d false c e f = inl refl

device_counted : (placement : List Seat) (a d v : ℕ) → (as_device placement a v d ≡ 0) ⊎ (seat_of placement v ≡ seat a d)
device_counted placement a d v = counted (seat_of placement v) a d (eqb (seat_of placement v).device d) (eqb (seat_of placement v).thread.0 a) refl refl

one_of : (placement : List Seat) (a d u v : ℕ) → (seat_of placement u ≡ seat_of placement v → u ≡ v) → u < v → (as_device placement a u d ≡ 0) ⊎ (seat_of placement u ≡ seat a d) →
    (as_device placement a v d ≡ 0) ⊎ (seat_of placement v ≡ seat a d) → (as_device placement a u d ≡ 0) ⊎ (as_device placement a v d ≡ 0)
one_of placement a d u v alone h (inl e) _ = inl e
one_of placement a d u v alone h (inr e) (inl f) = inr f
one_of placement a d u v alone h (inr e) (inr f) = let same = alone (e ∙ sym f) in absurd (omega arith)

one_device : (n : ShapeNumbers) (per : ℕ) (placement : List Seat) (a d : ℕ) → Seated n per placement → total (λ v. as_device placement a v d) (length placement) ≤ 1
one_device n per placement a d s =
    total_single (λ v. as_device placement a v d) (length placement) (λ v h. small (eqb (seat_of placement v).device d) (eqb (seat_of placement v).thread.0 a))
    (λ u v h l. one_of placement a d u v (s.apart u v (omega arith) l) h (device_counted placement a d u) (device_counted placement a d v))

few_devices : (n : ShapeNumbers) (per : ℕ) (placement : List Seat) (a : ℕ) → Seated n per placement → devices_on placement a ≤ per
few_devices n per placement a s =
    let split : devices_on placement a ≡ total (λ v. total (λ d. as_device placement a v d) per) (length placement) =
    total_same (device_on placement a) (λ v. total (λ d. as_device placement a v d) per) (length placement)
    (λ v h. sym (total_one (seat_of placement v).device (device_on placement a v) per (s.few v h))) in
    let swap = total_swap (λ d v. as_device placement a v d) per (length placement) in
    let least = total_le (λ d. total (λ v. as_device placement a v d) (length placement)) per (λ d. one_device n per placement a d s) in
    omega arith

-- A vertex has a thread with all devices of lower numbers.

same_tests : (a b c d : ℕ) → (a ≡ b → c ≡ d) → (c ≡ d → a ≡ b) → (x y : Bool) → x ≡ eqb a b → y ≡ eqb c d → x ≡ y
same_tests a b c d to back true true e f = refl
same_tests a b c d to back false false e f = refl
same_tests a b c d to back true false e f = let g : a ≡ b = grind (arith, nat_tests) in let h = to g in absurd (grind (arith, nat_tests))
same_tests a b c d to back false true e f = let g : c ≡ d = grind (arith, nat_tests) in let h = back g in absurd (grind (arith, nat_tests))

abbrev order_of : List (List ℕ) → List ℕ
order_of outs = bfs outs (length outs)

-- exactly one vertex has a place
one_placed : (outs : List (List ℕ)) (k : ℕ) → AllListsBelow (length outs) outs → k < length outs → total (λ v. cond (eqb k (place_of outs v)) 1 0) (length outs) ≡ 1
unfolding place_of
one_placed outs k a h =
    let once = once_bfs outs a in
    let long = length_bfs outs a in
    let within : k < length (order_of outs) = omega arith in
    let w = get_or (order_of outs) k 0 in
    let back = place_back (order_of outs) k within (λ j l. apart (length outs) (order_of outs) j k once l within) in
    total_same (λ v. cond (eqb k (place_of outs v)) 1 0) (λ v. cond (eqb w v) 1 0) (length outs)
    (λ v l. ap (λ b. cond b 1 0) (same_tests k (place_of outs v) w v
    (λ e. ap (λ p. get_or (order_of outs) p 0) e ∙ (standing (length outs) (order_of outs) v once l).there)
    (λ e. sym back ∙ ap (place_of outs) e) (eqb k (place_of outs v)) (eqb w v) refl refl))
    ∙ total_one w 1 (length outs) (all_below_at (length outs) (order_of outs) k once.below within)

-- the terms of places from `low` on
abbrev place_hit : ℕ → ℕ → ℕ → ℕ
place_hit low p j = cond (eqb (low + j) p) 1 0

hit_one : (b : Bool) → cond b 1 0 ≤ 1
hit_one true = omega arith
hit_one false = omega arith

hit_apart : (low p i j : ℕ) (b c : Bool) → i < j → b ≡ eqb (low + i) p → c ≡ eqb (low + j) p → (if_one b ≡ 0) ⊎ (if_one c ≡ 0)
hit_apart low p i j false c h e f = inl refl
hit_apart low p i j true false h e f = inr refl
hit_apart low p i j true true h e f = let x : low + i ≡ p = grind (arith, nat_tests) in let y : low + j ≡ p = grind (arith, nat_tests) in absurd (omega arith)

hits_few : (low p m : ℕ) → total (place_hit low p) m ≤ 1
hits_few low p m =
    total_single (place_hit low p) m (λ j h. hit_one (eqb (low + j) p))
    (λ i j h l. hit_apart low p i j (eqb (low + i) p) (eqb (low + j) p) h refl refl)

hit_none : (a b : ℕ) (x : Bool) → x ≡ eqb a b → (a ≡ b → ⊥) → if_one x ≡ 0
hit_none a b false e never = refl
hit_none a b true e never = absurd (never (grind (arith, nat_tests)))

-- where a vertex has one of these places, it has this thread
hits_on : (n : ShapeNumbers) (outs : List (List ℕ)) (t m v : ℕ) (b : Bool) → m ≤ share_of n (length outs) → v < length outs →
    b ≡ eqb (seat_of (seats n outs) v).thread.0 (thread_at n t) → total (place_hit (t * share_of n (length outs)) (place_of outs v)) m ≤ cond b 1 0
hits_on n outs t m v true few h e = hits_few (t * share_of n (length outs)) (place_of outs v) m
hits_on n outs t m v false few h e =
    let none = total_same (place_hit (t * share_of n (length outs)) (place_of outs v)) (λ j. 0) m
    (λ j l. hit_none (t * share_of n (length outs) + j) (place_of outs v) (eqb (t * share_of n (length outs) + j) (place_of outs v)) refl
    (λ p. let d : (t * share_of n (length outs) + j) / share_of n (length outs) ≡ t = div-mul-add t (share_of n (length outs)) j (omega arith) in
    let on : (seat_of (seats n outs) v).thread.0 ≡ thread_at n t =
    ap (λ (s : Seat). s.thread.0) (seat_is n outs v h) ∙ ap (λ k. thread_at n (k / share_of n (length outs))) (sym p) ∙ ap (thread_at n) d in
    absurd (grind (arith, nat_tests)))) ∙ total_zero m in
    omega arith

lower_devices : (n : ShapeNumbers) (outs : List (List ℕ)) (t m : ℕ) → AllListsBelow (length outs) outs → m ≤ share_of n (length outs) → t * share_of n (length outs) + m ≤ length outs →
    m ≤ devices_on (seats n outs) (thread_at n t)
lower_devices n outs t m a few fits =
    let low = t * share_of n (length outs) in
    let long = length_seats n outs in
    let ones : total (λ j. total (λ v. place_hit low (place_of outs v) j) (length outs)) m ≡ total (λ j. 1) m =
    total_same (λ j. total (λ v. place_hit low (place_of outs v) j) (length outs)) (λ j. 1) m (λ j l. one_placed outs (low + j) a (omega arith)) in
    let swap = total_swap (λ j v. place_hit low (place_of outs v) j) m (length outs) in
    let each = total_mono (λ v. total (place_hit low (place_of outs v)) m) (device_on (seats n outs) (thread_at n t)) (length outs)
    (λ v h. hits_on n outs t m v (eqb (seat_of (seats n outs) v).thread.0 (thread_at n t)) few h refl) in
    let count : devices_on (seats n outs) (thread_at n t) ≡ total (device_on (seats n outs) (thread_at n t)) (length outs) = ap (total (device_on (seats n outs) (thread_at n t))) long in
    let all = total_ones m in
    omega arith
  where
    total_ones : (m : ℕ) → total (λ j. 1) m ≡ m
    total_ones zero = total_nothing (λ j. 1)
    total_ones (suc m) = let x = total-suc (λ j. 1) m in let y = total_ones m in omega arith

pub numbered : (n : ShapeNumbers) (outs : List (List ℕ)) (per : ℕ) → Threads n → AllListsBelow (length outs) outs → length outs ≤ thread_count n * per → Numbered per (seats n outs)
numbered n outs per threads a room = record {
  device = λ v h.
      let w : v < length outs = let long = length_seats n outs in omega arith in
      let s = share_of n (length outs) in
      let k = place_of outs v in
      let below = place_below outs v a w in
      let some = share_some (thread_count n) (length outs) s v (enough (length outs) (thread_count n) threads.some) w in
      let less : k % s < s = mod_below k s some in
      let whole = div-add-mod' k s in
      let least = lower_devices n outs (k / s) (k % s + 1) a (omega arith) (omega arith) in
      let is = seat_is n outs v w in
      let thread = ap (λ (q : Seat). devices_on (seats n outs) q.thread.0) is in
      let device = ap (λ (q : Seat). q.device) is in
      omega arith;
  few = λ a'. few_devices n per (seats n outs) a' (seated n outs per threads a room);
}

-- The roster lists the devices.

ones : (xs : List ℕ) → weigh (λ v. 1) xs ≡ length xs
ones [] = refl
ones (x ∷ xs) = let r = ones xs in omega arith

pub devices_listed : (n : ShapeNumbers) (outs : List (List ℕ)) (i : ℕ) → Lists n outs → i < thread_count n → devices_on (seats n outs) (thread_at n i) ≡ length (vertices_on n outs i)
devices_listed n outs i l h =
    ap (total (device_on (seats n outs) (thread_at n i))) (length_seats n outs)
    ∙ total_same (device_on (seats n outs) (thread_at n i)) (weight_on n outs (λ v. 1) (thread_at n i)) (length outs) (λ v less. refl)
    ∙ sym (l.weights (λ v. 1) i h)
    ∙ ones (vertices_on n outs i)
