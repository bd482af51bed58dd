-- The queues as rings in one block.
use Rattle.std.proofs.Common.{ℕ, ◌+◌, ◌-◌, ◌*◌, ◌<◌, ◌≤◌, ◌≡◌, ◌≢◌, List, [], ◌∷◌, ◌++◌, length, get_or, set, drop, map, replicate, refl, sym, ◌∙◌, ap, inl, inr, arith, length-set, length-drop}
use Rattle.std.specs.List.{range_with_len}
use Rattle.std.proofs.Math.Nat.{mul-le-mul_right}
use Rattle.std.proofs.lemmas.Bool.{cases_eq, cases_lt}
use Rattle.std.proofs.lemmas.Grind.{common_steps}
use Rattle.std.proofs.lemmas.List.{ext_get_or, get_or_default, get_or-set_same, get_or-set_other, get_or-drop, get_or-replicate, length-replicate}
use Rattle.std.proofs.lemmas.List.FromFn.{length-map-range_with_len, get_or-map-range_with_len, map-range_with_len_more}
use Rattle.tn_slots.specs.declared.ring.Ring.{Ring}
use Rattle.tn_slots.specs.Rings.{RingsFit, cell, no_ring, queues_of, slots_of, wrapped}
use Rattle.tn_slots.proofs.Lists.{set_each}

-- ---- places of a ring
pub wrapped_low : (room at : ℕ) → at < room → wrapped room at ≡ at
unfolding wrapped
wrapped_low room at h = grind (arith, common_steps)

pub wrapped_high : (room at : ℕ) → room ≤ at → wrapped room at ≡ at - room
unfolding wrapped
wrapped_high room at h = grind (arith, common_steps)

pub wrapped_short : (room at : ℕ) → wrapped room at ≤ at
wrapped_short room at = elim (cases_lt at room) [
  | inl low ↦ let e = wrapped_low room at low in omega arith
  | inr high ↦ let e = wrapped_high room at high in omega arith
]

pub wrapped_lt : (room head k : ℕ) → head ≤ room → k < room → wrapped room (head + k) < room
wrapped_lt room head k h l = elim (cases_lt (head + k) room) [
  | inl low ↦ let e = wrapped_low room (head + k) low in omega arith
  | inr high ↦ let e = wrapped_high room (head + k) high in omega arith
]

-- two places of a ring are different
pub wrapped_other : (room head j k : ℕ) → head ≤ room → j < k → k < room → wrapped room (head + j) ≢ wrapped room (head + k)
wrapped_other room head j k h less l e = elim (cases_lt (head + k) room) [
  | inl low ↦ let a = wrapped_low room (head + k) low in let b = wrapped_low room (head + j) (omega arith) in omega arith
  | inr high ↦
      let a = wrapped_high room (head + k) high in
      elim (cases_lt (head + j) room) [
        | inl low ↦ let b = wrapped_low room (head + j) low in omega arith
        | inr also ↦ let b = wrapped_high room (head + j) also in omega arith
      ]
]

-- the next place is the head
pub wrapped_head : (room head : ℕ) → head ≤ room → 0 < room → wrapped room (head + 1) ≤ room
wrapped_head room head h some = elim (cases_lt (head + 1) room) [
  | inl low ↦ let e = wrapped_low room (head + 1) low in omega arith
  | inr high ↦ let e = wrapped_high room (head + 1) high in omega arith
]

pub wrapped_next : (room head k : ℕ) → head ≤ room → k + 1 < room → wrapped room (wrapped room (head + 1) + k) ≡ wrapped room (head + (1 + k))
wrapped_next room head k h l = elim (cases_lt (head + 1) room) [
  | inl low ↦
      let a : wrapped room (head + 1) ≡ head + 1 = wrapped_low room (head + 1) low in
      let b : head + 1 + k ≡ head + (1 + k) = omega arith in
      rw (a, b)
  | inr high ↦
      let a = wrapped_high room (head + 1) high in
      let b = wrapped_high room (head + (1 + k)) (omega arith) in
      let c = wrapped_low room (wrapped room (head + 1) + k) (omega arith) in
      omega arith
]

-- ---- places of the block
pub cell_within : (t n room x : ℕ) → t < n → x < room → t * room + x < n * room
cell_within t n room x h l =
    let m : (t + 1) * room ≤ n * room = mul-le-mul_right room (omega arith) in
    omega arith

later : (t u room x y : ℕ) → t < u → x < room → t * room + x ≢ u * room + y
later t u room x y h l e =
    let m = cell_within t u room x h l in
    omega arith

pub cells_apart : (t u room x y : ℕ) → u ≢ t → x < room → y < room → u * room + y ≢ t * room + x
cells_apart t u room x y ne h l e = elim (cases_lt t u) [
  | inl less ↦ later t u room x y less h (sym e)
  | inr le ↦ later u t room y x (omega arith) l e
]

-- ---- one queue
pub length-slots : (block : List ℕ) (room t : ℕ) (ring : Ring) → length (slots_of block room t ring) ≡ ring.len
length-slots block room t ring = length-map-range_with_len (λ k. get_or block (cell room t (ring.head + k)) 0) 0 ring.len

pub slot_in : (block : List ℕ) (room t k : ℕ) (ring : Ring) → k < ring.len → get_or (slots_of block room t ring) k 0 ≡ get_or block (cell room t (ring.head + k)) 0
slot_in block room t k ring h = get_or-map-range_with_len (λ j. get_or block (cell room t (ring.head + j)) 0) 0 ring.len k k 0 h (omega arith)

-- two functions that agree below n make the same list
same_below : (f g : ℕ → ℕ) (n : ℕ) → ((k : ℕ) → k < n → f k ≡ g k) → map f (range_with_len 0 n) ≡ map g (range_with_len 0 n)
same_below f g n same =
    let l : length (map f (range_with_len 0 n)) ≡ n = length-map-range_with_len f 0 n in
    ext_get_or 0 (map f (range_with_len 0 n)) (map g (range_with_len 0 n)) (l ∙ sym (length-map-range_with_len g 0 n))
    (λ k h. let below : k < n = omega arith in get_or-map-range_with_len f 0 n k k 0 below (omega arith) ∙ (same k below ∙ sym (get_or-map-range_with_len g 0 n k k 0 below (omega arith))))

pub pushed : (block : List ℕ) (room t s head len : ℕ) → head ≤ room → len < room → cell room t (head + len) < length block → slots_of (set block (cell room t (head + len)) s) room t (record { head = head; len = len + 1 }) ≡ slots_of block room t (record { head = head; len = len }) ++ s ∷ []
pushed block room t s head len h l within =
    let at : ℕ = cell room t (head + len) in
    let f : ℕ → ℕ = λ k. get_or (set block at s) (cell room t (head + k)) 0 in
    let g : ℕ → ℕ = λ k. get_or block (cell room t (head + k)) 0 in
    let last : f len ≡ s = get_or-set_same block at s 0 within in
    let front : map f (range_with_len 0 len) ≡ map g (range_with_len 0 len) =
    same_below f g len (λ k below. get_or-set_other block at (cell room t (head + k)) s 0 (λ e. wrapped_other room head k len h below l (omega arith))) in
    map-range_with_len_more f 0 len len (omega arith) ∙ (ap (λ xs. xs ++ f len ∷ []) front ∙ ap (λ x. map g (range_with_len 0 len) ++ x ∷ []) last)

-- the queue of another thread does not change
pub not_pushed : (block : List ℕ) (room t u s at : ℕ) (ring : Ring) → u ≢ t → at < room → ring.head ≤ room → ring.len ≤ room → slots_of (set block (t * room + at) s) room u ring ≡ slots_of block room u ring
not_pushed block room t u s at ring ne l h short =
    same_below (λ k. get_or (set block (t * room + at) s) (cell room u (ring.head + k)) 0) (λ k. get_or block (cell room u (ring.head + k)) 0) ring.len
    (λ k below. get_or-set_other block (t * room + at) (cell room u (ring.head + k)) s 0 (cells_apart t u room at (wrapped room (ring.head + k)) ne l (wrapped_lt room ring.head k h (omega arith))))

pub removed : (block : List ℕ) (room t head len : ℕ) → head ≤ room → len ≤ room → 0 < len → slots_of block room t (record { head = wrapped room (head + 1); len = len - 1 }) ≡ drop 1 (slots_of block room t (record { head = head; len = len }))
removed block room t head len h short some =
    let old : Ring = record { head = head; len = len } in
    let new : Ring = record { head = wrapped room (head + 1); len = len - 1 } in
    let l : length (slots_of block room t old) ≡ len = length-slots block room t old in
    let m : length (slots_of block room t new) ≡ len - 1 = length-slots block room t new in
    let n : length (drop 1 (slots_of block room t old)) ≡ length (slots_of block room t old) - 1 = length-drop 1 (slots_of block room t old) in
    ext_get_or 0 (slots_of block room t new) (drop 1 (slots_of block room t old)) (omega arith)
    (λ k below.
    let k_in : k < len - 1 = omega arith in
    slot_in block room t k new k_in
    ∙ (ap (λ x. get_or block (t * room + x) 0) (wrapped_next room head k h (omega arith))
    ∙ (sym (slot_in block room t (1 + k) old (omega arith)) ∙ sym (get_or-drop 1 (slots_of block room t old) k 0))))

-- ---- all queues
pub length-queues : (block : List ℕ) (rings : List Ring) (room : ℕ) → length (queues_of block rings room) ≡ length rings
length-queues block rings room = length-map-range_with_len (λ t. slots_of block room t (get_or rings t no_ring)) 0 (length rings)

pub queue_in : (block : List ℕ) (rings : List Ring) (room t : ℕ) → t < length rings → get_or (queues_of block rings room) t [] ≡ slots_of block room t (get_or rings t no_ring)
queue_in block rings room t h = get_or-map-range_with_len (λ u. slots_of block room u (get_or rings u no_ring)) 0 (length rings) t t [] h (omega arith)

-- one queue changes, and no other
pub one_set : (block now : List ℕ) (rings : List Ring) (room t : ℕ) (ring : Ring) (queue : List ℕ) → t < length rings → slots_of now room t ring ≡ queue → ((u : ℕ) → u < length rings → u ≢ t → slots_of now room u (get_or rings u no_ring) ≡ slots_of block room u (get_or rings u no_ring)) → queues_of now (set rings t ring) room ≡ set (queues_of block rings room) t queue
one_set block now rings room t ring queue h here others =
    let l : length (queues_of block rings room) ≡ length rings = length-queues block rings room in
    let s : length (set rings t ring) ≡ length rings = length-set rings t ring in
    let m : length (queues_of now (set rings t ring) room) ≡ length (set rings t ring) = length-queues now (set rings t ring) room in
    ext_get_or [] (queues_of now (set rings t ring) room) (set (queues_of block rings room) t queue) (m ∙ (s ∙ sym (length-set (queues_of block rings room) t queue ∙ l)))
    (λ u below.
    let u_in : u < length rings = omega arith in
    let read : get_or (queues_of now (set rings t ring) room) u [] ≡ slots_of now room u (get_or (set rings t ring) u no_ring) = queue_in now (set rings t ring) room u (omega arith) in
    elim (cases_eq u t) [
      | inl e ↦ read ∙ rw (e, get_or-set_same rings t ring no_ring h, get_or-set_same (queues_of block rings room) t queue [] (omega arith)) here
      | inr ne ↦ read ∙ rw (get_or-set_other rings t u ring no_ring ne, get_or-set_other (queues_of block rings room) t u queue [] ne, queue_in block rings room u u_in) (others u u_in ne)
    ])

pub fit_set : (block now : List ℕ) (rings : List Ring) (room t : ℕ) (ring : Ring) → length now ≡ length block → ring.head ≤ room → ring.len ≤ room → RingsFit block rings room → RingsFit now (set rings t ring) room
fit_set block now rings room t ring same head short fit = record {
  few_threads = rw length-set fit.few_threads;
  few_slots = fit.few_slots;
  long = rw (same, length-set) fit.long;
  each = set_each (λ (r : Ring). (r.head ≤ room) × (r.len ≤ room)) rings t ring no_ring (head, short) fit.each;
}

-- queues that nobody was put into
pub all_empty : (block : List ℕ) (n room : ℕ) → queues_of block (replicate n no_ring) room ≡ replicate n []
all_empty block n room =
    let r : length (replicate n no_ring) ≡ n = length-replicate n no_ring in
    let l : length (queues_of block (replicate n no_ring) room) ≡ length (replicate n no_ring) = length-queues block (replicate n no_ring) room in
    let none : List ℕ = [] in
    let m : length (replicate n none) ≡ n = length-replicate n none in
    ext_get_or [] (queues_of block (replicate n no_ring) room) (replicate n none) (omega arith)
    (λ t h. let t_in : t < n = omega arith in
    queue_in block (replicate n no_ring) room t (omega arith) ∙ rw (get_or-replicate n t no_ring no_ring t_in, get_or-replicate n t none none t_in))

-- what the ring that was read tells of thread t's queue
pub record AtRing (block : List ℕ) (rings : List Ring) (room t : ℕ) (ring : Ring) : Type 0 where
  pub within : t < length rings
  pub few : t < 64
  pub read : get_or rings t no_ring ≡ ring
  pub queue : get_or (queues_of block rings room) t [] ≡ slots_of block room t ring
  pub long : length (get_or (queues_of block rings room) t []) ≡ ring.len
  pub head : ring.head ≤ room
  pub short : ring.len ≤ room

pub at_ring : (block : List ℕ) (rings : List Ring) (room t : ℕ) (ring : Ring) → RingsFit block rings room → t < length (queues_of block rings room) → ring ≡ get_or rings t ring → AtRing block rings room t ring
at_ring block rings room t ring fit h read =
    let l = length-queues block rings room in
    let within : t < length rings = omega arith in
    let few = fit.few_threads in
    let is : get_or rings t no_ring ≡ ring = sym (read ∙ get_or_default rings t ring no_ring within) in
    let queue : get_or (queues_of block rings room) t [] ≡ slots_of block room t ring = queue_in block rings room t within ∙ ap (slots_of block room t) is in
    let bounds = fit.each t in
    let head : ring.head ≤ room = rw is at bounds.0 in
    let short : ring.len ≤ room = rw is at bounds.1 in
    record {
      within = within;
      few = omega arith;
      read = is;
      queue = queue;
      long = ap length queue ∙ length-slots block room t ring;
      head = head;
      short = short;
    }

pub cell_in_block : (block : List ℕ) (rings : List Ring) (room t k : ℕ) (ring : Ring) → RingsFit block rings room → AtRing block rings room t ring → k < room → cell room t (ring.head + k) < length block
cell_in_block block rings room t k ring fit a h =
    let l = fit.long in
    let x = wrapped_lt room ring.head k a.head h in
    let c = cell_within t (length rings) room (wrapped room (ring.head + k)) a.within x in
    omega arith

pub slot_read : (block : List ℕ) (rings : List Ring) (room t k : ℕ) (ring : Ring) → AtRing block rings room t ring → k < ring.len → get_or (get_or (queues_of block rings room) t []) k 0 ≡ get_or block (cell room t (ring.head + k)) 0
slot_read block rings room t k ring a h = ap (λ q. get_or q k 0) a.queue ∙ slot_in block room t k ring h

pub all_pushed : (block : List ℕ) (rings : List Ring) (room t s : ℕ) (ring : Ring) → RingsFit block rings room → AtRing block rings room t ring → ring.len < room → queues_of (set block (cell room t (ring.head + ring.len)) s) (set rings t (record { head = ring.head; len = ring.len + 1 })) room ≡ set (queues_of block rings room) t (get_or (queues_of block rings room) t [] ++ s ∷ [])
all_pushed block rings room t s ring fit a l =
    let within = cell_in_block block rings room t ring.len ring fit a l in
    let x = wrapped_lt room ring.head ring.len a.head l in
    one_set block (set block (cell room t (ring.head + ring.len)) s) rings room t (record { head = ring.head; len = ring.len + 1 }) (get_or (queues_of block rings room) t [] ++ s ∷ []) a.within
    (pushed block room t s ring.head ring.len a.head l within ∙ ap (λ q. q ++ s ∷ []) (sym a.queue))
    (λ u h ne. not_pushed block room t u s (wrapped room (ring.head + ring.len)) (get_or rings u no_ring) ne x (fit.each u).0 (fit.each u).1)

pub fit_pushed : (block : List ℕ) (rings : List Ring) (room t s at : ℕ) (ring : Ring) → RingsFit block rings room → AtRing block rings room t ring → ring.len < room → RingsFit (set block at s) (set rings t (record { head = ring.head; len = ring.len + 1 })) room
fit_pushed block rings room t s at ring fit a l = fit_set block (set block at s) rings room t (record { head = ring.head; len = ring.len + 1 }) (length-set block at s) a.head (omega arith) fit

pub all_removed : (block : List ℕ) (rings : List Ring) (room t : ℕ) (ring : Ring) → AtRing block rings room t ring → 0 < ring.len → queues_of block (set rings t (record { head = wrapped room (ring.head + 1); len = ring.len - 1 })) room ≡ set (queues_of block rings room) t (drop 1 (get_or (queues_of block rings room) t []))
all_removed block rings room t ring a some =
    one_set block block rings room t (record { head = wrapped room (ring.head + 1); len = ring.len - 1 }) (drop 1 (get_or (queues_of block rings room) t [])) a.within
    (removed block room t ring.head ring.len a.head a.short some ∙ ap (drop 1) (sym a.queue))
    (λ u h ne. refl)

pub fit_removed : (block : List ℕ) (rings : List Ring) (room t : ℕ) (ring : Ring) → RingsFit block rings room → AtRing block rings room t ring → 0 < ring.len → RingsFit block (set rings t (record { head = wrapped room (ring.head + 1); len = ring.len - 1 })) room
fit_removed block rings room t ring fit a some =
    let s = a.short in
    fit_set block block rings room t (record { head = wrapped room (ring.head + 1); len = ring.len - 1 }) refl (wrapped_head room ring.head a.head (omega arith)) (omega arith) fit

pub all_cleared : (block : List ℕ) (rings : List Ring) (room t : ℕ) → t < length rings → queues_of block (set rings t no_ring) room ≡ set (queues_of block rings room) t []
all_cleared block rings room t h = one_set block block rings room t no_ring [] h refl (λ u l ne. refl)
