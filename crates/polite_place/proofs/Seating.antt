-- Each vertex has a seat of its own.
use Rattle.std.proofs.Common.{◌⊎◌, ap, ◌≡◌, ◌<◌, ◌≤◌, ℕ, ◌*◌, ◌/◌, IsTrue, List, length, get_or, sym, ◌∙◌, arith, inl, inr, subst}
use Rattle.std.proofs.lemmas.List.FromFn.{get_or-map-range_with_len, length-map-range_with_len}
use Rattle.tn_base.specs.declared.shape.ShapeNumbers.{ShapeNumbers}
use Rattle.tn_base.specs.Address.{has_thread, thread_at}
use Rattle.tn_base.specs.Shape.{thread_count}
use Rattle.polite_place.specs.declared.placement.Seat.{Seat}
use Rattle.polite_place.specs.Order.{AllListsBelow, bfs}
use Rattle.polite_place.specs.Seats.{Seated, place_in, seat_at, seat_of, seats, share_of}
use Rattle.polite_place.proofs.Firsts.{length_bfs, once_bfs}
use Rattle.polite_place.proofs.Shares.{both_same, enough, share_few, share_some, thread_below}
use Rattle.polite_place.proofs.Taking.{no_seat, standing}

pub length_seats : (n : ShapeNumbers) (outs : List (List ℕ)) → length (seats n outs) ≡ length outs
unfolding seats
length_seats n outs = length-map-range_with_len (λ v. seat_at n (share_of n (length outs)) (place_in (bfs outs (length outs)) v)) 0 (length outs)

-- the place of a vertex in the order
unfoldable pub place_of : List (List ℕ) → ℕ → ℕ
place_of outs v = place_in (bfs outs (length outs)) v

pub seat_is : (n : ShapeNumbers) (outs : List (List ℕ)) (v : ℕ) → v < length outs → seat_of (seats n outs) v ≡ seat_at n (share_of n (length outs)) (place_of outs v)
unfolding seats place_of
seat_is n outs v h = get_or-map-range_with_len (λ v. seat_at n (share_of n (length outs)) (place_in (bfs outs (length outs)) v)) 0 (length outs) v v no_seat h (omega arith)

pub place_below : (outs : List (List ℕ)) (v : ℕ) → AllListsBelow (length outs) outs → v < length outs → place_of outs v < length outs
unfolding place_of
place_below outs v a h = let s = standing (length outs) (bfs outs (length outs)) v (once_bfs outs a) h in let w = s.within in let l = length_bfs outs a in omega arith

pub place_apart : (outs : List (List ℕ)) (u v : ℕ) → AllListsBelow (length outs) outs → u < length outs → v < length outs → place_of outs u ≡ place_of outs v → u ≡ v
unfolding place_of
place_apart outs u v a hu hv e =
    let s = standing (length outs) (bfs outs (length outs)) u (once_bfs outs a) hu in
    let t = standing (length outs) (bfs outs (length outs)) v (once_bfs outs a) hv in
    sym s.there ∙ ap (λ k. get_or (bfs outs (length outs)) k 0) e ∙ t.there

-- the addresses of threads, by their laws
pub record Threads (n : ShapeNumbers) : Type 0 where
  pub some : 0 < thread_count n
  pub listed : (i : ℕ) → i < thread_count n → IsTrue (has_thread n (thread_at n i))
  pub ascending : (i j : ℕ) → i < j → j < thread_count n → thread_at n i < thread_at n j

pub thread_apart : (n : ShapeNumbers) (i j : ℕ) → Threads n → i < thread_count n → j < thread_count n → thread_at n i ≡ thread_at n j → (i < j) ⊎ (j ≤ i) → (j < i) ⊎ (i ≤ j) → i ≡ j
thread_apart n i j t hi hj e (inl less) _ = let a = t.ascending i j less hj in absurd (omega arith)
thread_apart n i j t hi hj e (inr ge) (inl less) = let a = t.ascending j i less hi in absurd (omega arith)
thread_apart n i j t hi hj e (inr ge) (inr le) = omega arith

pub order_of : (i j : ℕ) → (i < j) ⊎ (j ≤ i)
order_of i j = grind arith

abbrev pub Below : ShapeNumbers → List (List ℕ) → ℕ → Type 0
Below n outs v = place_of outs v / share_of n (length outs) < thread_count n

pub below : (n : ShapeNumbers) (outs : List (List ℕ)) (v : ℕ) → Threads n → AllListsBelow (length outs) outs → v < length outs → Below n outs v
below n outs v t a h =
    let l = place_below outs v a h in
    let e = enough (length outs) (thread_count n) t.some in
    thread_below (place_of outs v) (share_of n (length outs)) (thread_count n) (share_some (thread_count n) (length outs) (share_of n (length outs)) v e h) (omega arith)

pub seated : (n : ShapeNumbers) (outs : List (List ℕ)) (per : ℕ) → Threads n → AllListsBelow (length outs) outs → length outs ≤ thread_count n * per → Seated n per (seats n outs)
seated n outs per t a room =
    let long = length_seats n outs in
    record {
      there = λ v h. let w : v < length outs = omega arith in subst (λ (q : Seat). IsTrue (has_thread n q.thread.0)) (sym (seat_is n outs v w)) (t.listed (place_of outs v / share_of n (length outs)) (below n outs v t a w));
      few = λ v h.
          let w : v < length outs = omega arith in
          let f = share_few (length outs) (thread_count n) per t.some room in
          let e = enough (length outs) (thread_count n) t.some in
          let s = share_some (thread_count n) (length outs) (share_of n (length outs)) v e w in
          let d = ap (λ (q : Seat). q.device) (seat_is n outs v w) in
          omega arith;
      apart = λ u v hu hv e.
          let x : u < length outs = omega arith in
          let y : v < length outs = omega arith in
          let same = sym (seat_is n outs u x) ∙ e ∙ seat_is n outs v y in
          let i = thread_apart n (place_of outs u / share_of n (length outs)) (place_of outs v / share_of n (length outs)) t (below n outs u t a x) (below n outs v t a y) (ap (λ (q : Seat). q.thread.0) same) (order_of _ _) (order_of _ _) in
          place_apart outs u v a x y (both_same (place_of outs u) (place_of outs v) (share_of n (length outs)) i (ap (λ (q : Seat). q.device) same));
    }
