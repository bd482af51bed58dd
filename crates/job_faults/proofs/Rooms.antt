-- The bytes of the states of a thread's vertices.
use Rattle.std.proofs.Common.{◌≡◌, ◌≢◌, ◌<◌, ◌≤◌, ℕ, suc, zero, ◌+◌, ◌-◌, ◌*◌, eqb, cond, Bool, true, false, List, [], ◌∷◌, replicate, length, get_or, set, nat_lt, refl, sym, ◌∙◌, ap, arith, slice_get}
use Rattle.std.proofs.lemmas.Bool.Decides.{nat_tests}
use Rattle.std.proofs.lemmas.List.{get_or-set_other, get_or-set_same}
use Rattle.std.proofs.lemmas.List.{get_or-replicate}
use Rattle.std.specs.List.{All, list_any, range_with_len}
use Rattle.tn_base.specs.declared.shape.ShapeNumbers.{ShapeNumbers}
use Rattle.tn_sums.specs.Totals.{total}
use Rattle.tn_sums.proofs.Laws.{total-suc, total_nothing}
use Rattle.graph_text.specs.declared.graph.Graph.{Graph}
use Rattle.graph_text.specs.declared.graph.VertexRow.{VertexRow}
use Rattle.graph_text.specs.declared.graph.KindRow.{KindRow}
use Rattle.graph_text.specs.Graph.{IsGraph, IsKind, IsVertex, words_of_kind}
use Rattle.polite_place.specs.declared.placement.Seat.{Seat}
use Rattle.polite_place.specs.Seats.{Seated, seat_of}
use Rattle.polite_routes.proofs.Each.{parts}
use Rattle.job_faults.specs.Room.{AreLow, Summed, any_lacks, lacks_room, state_bytes, state_on, words_in}
use Rattle.job_faults.proofs.Ranges.{any_from}

-- each vertex has a thread with an address of 14 bits
pub low_seats : (n : ShapeNumbers) (per_thread : ℕ) (seats : List Seat) → Seated n per_thread seats → AreLow seats
low_seats n per_thread seats s v h = (parts n (seat_of seats v).thread.0 (s.there v h)).small

-- each sum is small
total_small : (f : ℕ → ℕ) (n : ℕ) → ((i : ℕ) → i < n → f i ≤ 64) → total f n ≤ 64 * n
total_small f zero h = let e = total_nothing f in omega arith
total_small f (suc n) h =
    let e = total-suc f n in
    let more = total_small f n (λ i l. h i (omega arith)) in
    let one = h n (omega arith) in
    omega arith

one_small : (b : Bool) (bytes : ℕ) → bytes ≤ 64 → cond b bytes 0 ≤ 64
one_small true bytes h = h
one_small false bytes h = omega arith

pub sum_small : (g : Graph) (seats : List Seat) (a n : ℕ) → ((i : ℕ) → i < n → state_bytes g i ≤ 64) → total (state_on g seats a) n ≤ 64 * n
sum_small g seats a n h = total_small (state_on g seats a) n (λ i l. one_small (eqb (seat_of seats i).thread.0 a) (state_bytes g i) (h i l))

zero_more : (x : ℕ) → x + 0 ≡ x
zero_more x = omega arith

-- one vertex more
pub one_more : (g : Graph) (seats : List Seat) (n : ℕ) (sums : List ℕ) (s : ℕ) → length sums ≡ 16384 → s ≡ (seat_of seats n).thread.0 → s < 16384 → Summed g seats n sums
    → Summed g seats (n + 1) (set sums s (get_or sums s 0 + state_bytes g n))
one_more g seats n sums s long e low all a h = by (eqb (seat_of seats n).thread.0 a) refl where
  next : ℕ
  next = get_or sums s 0 + state_bytes g n

  step : total (state_on g seats a) (n + 1) ≡ total (state_on g seats a) n + state_on g seats a n
  step = let k : n + 1 ≡ suc n = omega arith in ap (total (state_on g seats a)) k ∙ total-suc (state_on g seats a) n

  by : (b : Bool) → b ≡ eqb (seat_of seats n).thread.0 a → get_or (set sums s (get_or sums s 0 + state_bytes g n)) a 0 ≡ total (state_on g seats a) (n + 1)
  by true q =
      let here : s ≡ a = grind (arith, nat_tests) in
      ap (λ j. get_or (set sums s (get_or sums s 0 + state_bytes g n)) j 0) (sym here)
      ∙ get_or-set_same sums s (get_or sums s 0 + state_bytes g n) 0 (omega arith)
      ∙ ap (λ j. get_or sums j 0 + state_bytes g n) here
      ∙ ap (λ x. x + state_bytes g n) (all a h)
      ∙ sym (step ∙ ap (λ b. total (state_on g seats a) n + cond b (state_bytes g n) 0) (sym q))
  by false q =
      let other : a ≢ s = grind (arith, nat_tests) in
      get_or-set_other sums s a (get_or sums s 0 + state_bytes g n) 0 other
      ∙ all a h
      ∙ sym (step ∙ ap (λ b. total (state_on g seats a) n + cond b (state_bytes g n) 0) (sym q) ∙ zero_more (total (state_on g seats a) n))

-- a vertex has at most 16 words
kind_small : (ks : List KindRow) (i : ℕ) → All IsKind ks → words_of_kind (slice_get ks i) ≤ 16
kind_small [] i h = omega arith
kind_small (k ∷ ks) zero h = (h 0 k (omega arith)).words
kind_small (k ∷ ks) (suc i) h = kind_small ks i (λ j d l. h (suc j) d (omega arith))

words_small : (g : Graph) (vs : List VertexRow) (v : ℕ) → All IsKind g.kinds → All (IsVertex g) vs → words_in (slice_get vs v) ≤ 16
words_small g [] v ks h = omega arith
words_small g (x ∷ xs) zero ks h =
    let r = (h 0 x (omega arith)).words in
    let k = kind_small g.kinds x.kind ks in
    omega arith
words_small g (x ∷ xs) (suc v) ks h = words_small g xs v ks (λ j d l. h (suc j) d (omega arith))

pub bytes_small : (g : Graph) (v : ℕ) → IsGraph g → state_bytes g v ≤ 64
unfolding state_bytes
bytes_small g v h = let w = words_small g g.vertices v h.kinds h.vertices in omega arith

-- nothing is summed yet
pub none_summed : (g : Graph) (seats : List Seat) (sums : List ℕ) → sums ≡ replicate 16384 0 → Summed g seats 0 sums
none_summed g seats sums e a h = ap (λ xs. get_or xs a 0) e ∙ get_or-replicate 16384 a 0 0 h ∙ sym (total_nothing (state_on g seats a))

pub all_lack : (mem : ℕ) (g : Graph) (seats : List Seat) → any_from (lacks_room mem g seats) 0 (length g.vertices) ≡ any_lacks mem g seats
unfolding any_lacks
all_lack mem g seats = let e : length g.vertices - 0 ≡ length g.vertices = omega arith in ap (λ m. list_any (lacks_room mem g seats) (range_with_len 0 m)) e

-- the state of the vertex at a place
pub row_words : (vs : List VertexRow) (v : ℕ) (d : VertexRow) → v < length vs → words_in (slice_get vs v) ≡ length (get_or vs v d).words
row_words [] v d h = absurd (omega arith)
row_words (y ∷ ys) zero d h = refl
row_words (y ∷ ys) (suc v) d h = row_words ys v d (omega arith)

pub no_less : (m n : ℕ) → n ≤ m → nat_lt m n ≡ false
no_less m n h = grind (arith, nat_tests)
