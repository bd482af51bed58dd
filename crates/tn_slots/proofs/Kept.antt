-- What holds of every pool holds after each operation.
use Rattle.std.proofs.Common.{ℕ, ◌+◌, ◌*◌, ◌<◌, ◌≤◌, ◌≡◌, ◌≢◌, ◌^◌, ◌%◌, true, List, [], ◌∷◌, ◌++◌, length, get_or, set, drop, zero, suc, refl, sym, ◌∙◌, ap, inl, inr, arith, sum_by, length-set, length-append, Some, option_map, replicate, map}
use Rattle.std.specs.Int.{bit_at}
use Rattle.std.proofs.lemmas.Nat.{or_lt, pow_pos}
use Rattle.std.proofs.lemmas.Nat.Bits.{bit_at-lt, bit_at-zero, bit_at-pow_same}
use Rattle.std.proofs.Math.Nat.{mod-le}
use Rattle.std.proofs.Math.Pow.{pow-lt}
use Rattle.tn_base.specs.Mask.{with_bit, without_bit}
use Rattle.tn_base.proofs.Masks.{with_other, without_same, without_other}
use Rattle.std.proofs.lemmas.Bool.{cases_eq, cases_lt}
use Rattle.std.proofs.lemmas.List.{get_or-set_same, get_or-set_other, get_or_past, length-replicate, length-map}
use Rattle.std.proofs.lemmas.List.Quantifiers.{position-Some}
use Rattle.std.proofs.lemmas.List.Sums.{sum_by-cons, sum_by-set, sum_by-le}
use Rattle.std.proofs.lemmas.List.Folds.{sum_by-replicate}
use Rattle.tn_slots.specs.declared.slot.Slot.{Slot}
use Rattle.tn_slots.specs.PoolModel.{PoolModel}
use Rattle.tn_slots.specs.Slot.{empty_slot, fresh_slot, freed_slot, is_free, left_slot, taken_slot}
use Rattle.tn_slots.specs.Queues.{first_of}
use Rattle.tn_slots.specs.Pool.{Holds, first_free, freed, fresh, key_for, key_in, left, put_at, queue_at, slot_at, taken_from}
use Rattle.tn_slots.specs.WellKept.{WellKept, times}
use Rattle.tn_slots.proofs.Lists.{bit_cases, both_true, is_zero, kept_by_set, map_each, replicate_each, set_each, times_first, times_other, times_push_other, times_push_same}
use Rattle.tn_slots.proofs.Masks.{without_below}
use Rattle.tn_slots.proofs.Owed.{appended_no, appended_yes, first_is, length-appended}

-- the threads of the mask are below n
abbrev pub Named : ℕ → Slot → Type 0
Named n slot = (slot.owed < 2 ^ n) × (slot.holders < 2 ^ n)

abbrev pub Fits : ℕ → Slot → Type 0
Fits most slot = length slot.bytes ≤ most

pub with_below : (m t n : ℕ) → m < 2 ^ n → t < n → with_bit m t < 2 ^ n
unfolding with_bit
with_below m t n h below =
    let p : 2 ^ t < 2 ^ n = pow-lt below in
    let e = mod-le (1 * 2 ^ t) (2 ^ 64) in
    or_lt n m (1 * 2 ^ t % 2 ^ 64) h (omega arith)

-- a free slot has no receivers and no holders
pub free_masks : (slot : Slot) → is_free slot ≡ true → (slot.owed ≡ 0) × (slot.holders ≡ 0)
free_masks slot h = let b = both_true _ _ h in (is_zero slot.owed b.0, is_zero slot.holders b.1)

-- a queue is no longer than there are slots
pub queue_short : (p : PoolModel) → WellKept p → (t : ℕ) → t < length p.queues → length (queue_at p t) ≤ length p.slots
queue_short p w t h =
    let e = w.long t h in
    let b = sum_by-le (λ slot. bit_at slot.owed t) 1 p.slots (λ k d l. let c = bit_at-lt (get_or p.slots k d).owed t in omega arith) in
    let f = w.few_slots in
    omega arith

-- the first of a queue is a slot that the thread is owed
pub first_owed : (p : PoolModel) → WellKept p → (t s : ℕ) (rest : List ℕ) → t < length p.queues → queue_at p t ≡ s ∷ rest → bit_at (slot_at p s).owed t ≡ 1
first_owed p w t s rest h e =
    let a = w.each t s h in
    let b = ap (times s) e in
    let c = times_first s rest in
    let d = bit_at-lt (slot_at p s).owed t in
    omega arith

pub owed_within : (p : PoolModel) (t s : ℕ) → bit_at (slot_at p s).owed t ≡ 1 → s < length p.slots
owed_within p t s b =
    elim (cases_lt s (length p.slots)) [
      | inl h ↦ h
      | inr h ↦ absurd (let e = ap (λ (x : Slot). bit_at x.owed t) (get_or_past p.slots s empty_slot h) in let z = bit_at-zero t in omega arith)
    ]

pub held_within : (p : PoolModel) (t s : ℕ) → Holds p t s → s < length p.slots
held_within p t s b =
    elim (cases_lt s (length p.slots)) [
      | inl h ↦ h
      | inr h ↦ absurd (let e = ap (λ (x : Slot). bit_at x.holders t) (get_or_past p.slots s empty_slot h) in let z = bit_at-zero t in omega arith)
    ]

-- where nothing but the holders of one slot changes
pub freed_kept : (p : PoolModel) (t s : ℕ) → t < length p.queues → Holds p t s → WellKept p → WellKept (freed t s p)
freed_kept p t s h held w =
    let few : length p.queues ≤ 64 = w.few_threads in
    let within : s < length p.slots = held_within p t s held in
    record {
      few_threads = w.few_threads;
      few_slots = rw length-set w.few_slots;
      each = λ u k hu. w.each u k hu ∙ sym (kept_by_set (λ (x : Slot). bit_at x.owed u) p.slots s k (freed_slot t (slot_at p s)) empty_slot refl);
      long = λ u hu. let e = sum_by-set (λ (x : Slot). bit_at x.owed u) p.slots s (freed_slot t (slot_at p s)) empty_slot within in let d = w.long u hu in omega arith;
      apart = λ u k hu.
          let a = w.apart u k hu in
          let o = kept_by_set (λ (x : Slot). bit_at x.owed u) p.slots s k (freed_slot t (slot_at p s)) empty_slot refl in
          elim (cases_eq u t) [
            | inr ne ↦
                let e = kept_by_set (λ (x : Slot). bit_at x.holders u) p.slots s k (freed_slot t (slot_at p s)) empty_slot (without_other (slot_at p s).holders t u (omega arith) (omega arith) ne) in omega arith
            | inl eq ↦ elim (cases_eq k s) [
              | inr ne ↦ let e = ap (λ (x : Slot). bit_at x.holders u) (get_or-set_other p.slots s k (freed_slot t (slot_at p s)) empty_slot ne) in omega arith
              | inl same ↦
                  let z = ap (λ (x : Slot). bit_at x.holders u) (ap (λ i. get_or (set p.slots s (freed_slot t (slot_at p s))) i empty_slot) same ∙ get_or-set_same p.slots s (freed_slot t (slot_at p s)) empty_slot within) in
                  let y : bit_at (without_bit (slot_at p s).holders t) u ≡ 0 = ap (bit_at (without_bit (slot_at p s).holders t)) eq ∙ without_same (slot_at p s).holders t (omega arith) in
                  let b = bit_at-lt (get_or (set p.slots s (freed_slot t (slot_at p s))) k empty_slot).owed u in
                  omega arith
            ]
          ];
      named = set_each (Named (length p.queues)) p.slots s (freed_slot t (slot_at p s)) empty_slot ((w.named s).0, without_below (slot_at p s).holders t (length p.queues) (w.named s).1) w.named;
      fits = set_each (Fits p.slot_bytes) p.slots s (freed_slot t (slot_at p s)) empty_slot (w.fits s) w.fits;
    }

-- a thread takes the first of its queue
pub taken_kept : (p : PoolModel) (t s : ℕ) (rest : List ℕ) → t < length p.queues → queue_at p t ≡ s ∷ rest → WellKept p → WellKept (taken_from t (s ∷ rest) p)
taken_kept p t s rest h eq w =
    let few : length p.queues ≤ 64 = w.few_threads in
    let owed : bit_at (slot_at p s).owed t ≡ 1 = first_owed p w t s rest h eq in
    let within : s < length p.slots = owed_within p t s owed in
    let new : Slot = taken_slot t (slot_at p s) in
    let off : bit_at (without_bit (slot_at p s).owed t) t ≡ 0 = without_same (slot_at p s).owed t (omega arith) in
    let here : get_or (set p.slots s new) s empty_slot ≡ new = get_or-set_same p.slots s new empty_slot within in
    let slots : List Slot = set p.slots s new in
    record {
      few_threads = rw length-set w.few_threads;
      few_slots = rw length-set w.few_slots;
      each = λ u k hu0. let hu : u < length p.queues = rw length-set at hu0 in
          elim (cases_eq u t) [
            | inr ne ↦
                ap (times k) (get_or-set_other p.queues t u rest [] ne) ∙ (w.each u k hu ∙ sym (kept_by_set (λ (x : Slot). bit_at x.owed u) p.slots s k new empty_slot (without_other (slot_at p s).owed t u (omega arith) (omega arith) ne)))
            | inl same ↦
                let q : times k (get_or (set p.queues t rest) u []) ≡ times k rest = ap (λ i. times k (get_or (set p.queues t rest) i [])) same ∙ ap (times k) (get_or-set_same p.queues t rest [] h) in
                let o = w.each t k h ∙ refl in
                let oe = ap (times k) eq in
                let at_u = ap (λ i. bit_at (get_or slots k empty_slot).owed i) same in
                elim (cases_eq k s) [
                  | inl ks ↦
                      let a = ap (λ i. times i rest) ks in
                      let b = times_first s rest in
                      let c = ap (λ i. times i (s ∷ rest)) ks in
                      let d = ap (λ i. bit_at (get_or slots i empty_slot).owed t) ks ∙ (ap (λ (x : Slot). bit_at x.owed t) here ∙ off) in
                      let f = ap (λ i. bit_at (slot_at p i).owed t) ks in
                      omega arith
                  | inr ne ↦
                      let b = times_other k s rest (λ e. ne (sym e)) in
                      let d = ap (λ (x : Slot). bit_at x.owed t) (get_or-set_other p.slots s k new empty_slot ne) in
                      omega arith
                ]
          ];
      long = λ u hu0. let hu : u < length p.queues = rw length-set at hu0 in
          let e = sum_by-set (λ (x : Slot). bit_at x.owed u) p.slots s new empty_slot within in
          let d = w.long u hu in
          elim (cases_eq u t) [
            | inr ne ↦
                let q = ap length (get_or-set_other p.queues t u rest [] ne) in
                let o = without_other (slot_at p s).owed t u (omega arith) (omega arith) ne in omega arith
            | inl same ↦
                let q : length (get_or (set p.queues t rest) u []) ≡ length rest = ap (λ i. length (get_or (set p.queues t rest) i [])) same ∙ ap length (get_or-set_same p.queues t rest [] h) in
                let dt = w.long t h in
                let et = sum_by-set (λ (x : Slot). bit_at x.owed t) p.slots s new empty_slot within in
                let at_u = ap (λ i. sum_by (λ (x : Slot). bit_at x.owed i) slots) same in
                let l = ap length eq in
                omega arith
          ];
      apart = λ u k hu0. let hu : u < length p.queues = rw length-set at hu0 in
          let a = w.apart u k hu in
          elim (cases_eq k s) [
            | inr ne ↦
                let e = ap (λ (x : Slot). bit_at x.holders u + bit_at x.owed u) (get_or-set_other p.slots s k new empty_slot ne) in omega arith
            | inl ks ↦
                let z = ap (λ (x : Slot). bit_at x.holders u + bit_at x.owed u) (ap (λ i. get_or slots i empty_slot) ks ∙ here) in
                let y = ap (λ i. bit_at (slot_at p i).owed u + bit_at (slot_at p i).holders u) ks in
                elim (cases_eq u t) [
                  | inr ne ↦
                      let o = without_other (slot_at p s).owed t u (omega arith) (omega arith) ne in
                      let g = with_other (slot_at p s).holders t u (omega arith) ne in omega arith
                  | inl same ↦
                      let o = ap (bit_at (without_bit (slot_at p s).owed t)) same ∙ off in
                      let b = bit_at-lt (with_bit (slot_at p s).holders t) u in omega arith
                ]
          ];
      named = rw length-set (set_each (Named (length p.queues)) p.slots s new empty_slot (without_below (slot_at p s).owed t (length p.queues) (w.named s).0, with_below (slot_at p s).holders t (length p.queues) (w.named s).1 h) w.named);
      fits = set_each (Fits p.slot_bytes) p.slots s new empty_slot (w.fits s) w.fits;
    }

-- a message is put into a slot that was free
pub put_kept : (p : PoolModel) (s : ℕ) (bytes : List ℕ) (mask : ℕ) → s < length p.slots → is_free (slot_at p s) ≡ true → mask < 2 ^ length p.queues → length bytes ≤ p.slot_bytes → WellKept p → WellKept (put_at s bytes mask p)
put_kept p s bytes mask within free names short w =
    let new : Slot = record { bytes = bytes; owed = mask; holders = 0 } in
    let none : (u : ℕ) → bit_at (slot_at p s).owed u ≡ 0 = λ u. ap (λ m. bit_at m u) (free_masks (slot_at p s) free).0 ∙ bit_at-zero u in
    let here : get_or (set p.slots s new) s empty_slot ≡ new = get_or-set_same p.slots s new empty_slot within in
    let slots : List Slot = set p.slots s new in
    record {
      few_threads = rw length-appended w.few_threads;
      few_slots = rw length-set w.few_slots;
      each = λ u k hu0. let hu : u < length p.queues = rw length-appended at hu0 in
          let o = w.each u k hu in
          let n = none u in
          elim (bit_cases mask u) [
            | inl named ↦
                let q = ap (times k) (appended_yes mask s p.queues u hu named) in
                elim (cases_eq k s) [
                  | inl ks ↦
                      let a = ap (λ i. times i (queue_at p u ++ s ∷ [])) ks ∙ times_push_same s (queue_at p u) in
                      let b = ap (λ i. times i (queue_at p u)) ks in
                      let c = ap (λ i. bit_at (slot_at p i).owed u) ks in
                      let d = ap (λ (x : Slot). bit_at x.owed u) (ap (λ i. get_or slots i empty_slot) ks ∙ here) in
                      omega arith
                  | inr ne ↦
                      let a = times_push_other k s (queue_at p u) (λ e. ne (sym e)) in
                      let d = ap (λ (x : Slot). bit_at x.owed u) (get_or-set_other p.slots s k new empty_slot ne) in
                      omega arith
                ]
            | inr left ↦
                let q = ap (times k) (appended_no mask s p.queues u hu left) in
                let d = kept_by_set (λ (x : Slot). bit_at x.owed u) p.slots s k new empty_slot (left ∙ sym n) in
                omega arith
          ];
      long = λ u hu0. let hu : u < length p.queues = rw length-appended at hu0 in
          let e = sum_by-set (λ (x : Slot). bit_at x.owed u) p.slots s new empty_slot within in
          let d = w.long u hu in
          let n = none u in
          elim (bit_cases mask u) [
            | inl named ↦ let q = ap length (appended_yes mask s p.queues u hu named) in
                let l = length-append (queue_at p u) (s ∷ []) in omega arith
            | inr left ↦ let q = ap length (appended_no mask s p.queues u hu left) in omega arith
          ];
      apart = λ u k hu0. let hu : u < length p.queues = rw length-appended at hu0 in
          let a = w.apart u k hu in
          elim (cases_eq k s) [
            | inr ne ↦
                let e = ap (λ (x : Slot). bit_at x.holders u + bit_at x.owed u) (get_or-set_other p.slots s k new empty_slot ne) in omega arith
            | inl ks ↦
                let z = ap (λ (x : Slot). bit_at x.holders u + bit_at x.owed u) (ap (λ i. get_or slots i empty_slot) ks ∙ here) in
                let b = bit_at-lt mask u in
                let c = bit_at-zero u in omega arith
          ];
      named = rw length-appended (set_each (Named (length p.queues)) p.slots s new empty_slot (names, pow_pos (length p.queues)) w.named);
      fits = set_each (Fits p.slot_bytes) p.slots s new empty_slot short w.fits;
    }

-- a thread that is owed a free slot is owed fewer slots than there are
pub room_left : (p : PoolModel) (s : ℕ) → s < length p.slots → is_free (slot_at p s) ≡ true → WellKept p → (t : ℕ) → t < length p.queues → length (queue_at p t) < length p.slots
room_left p s within free w t h =
    let e = w.long t h in
    let full : Slot = record { bytes = []; owed = 1 * 2 ^ t; holders = 0 } in
    let g = sum_by-set (λ (x : Slot). bit_at x.owed t) p.slots s full empty_slot within in
    let z : bit_at (slot_at p s).owed t ≡ 0 = ap (λ m. bit_at m t) (free_masks (slot_at p s) free).0 ∙ bit_at-zero t in
    let o : bit_at full.owed t ≡ 1 = ap (λ m. bit_at m t) (omega arith) ∙ bit_at-pow_same t in
    let b = sum_by-le (λ (x : Slot). bit_at x.owed t) 1 (set p.slots s full) (λ k d l. let c = bit_at-lt (get_or (set p.slots s full) k d).owed t in omega arith) in
    let n = length-set p.slots s full in
    omega arith

pub fresh_bits : (n s u : ℕ) → bit_at (get_or (replicate n fresh_slot) s empty_slot).owed u + bit_at (get_or (replicate n fresh_slot) s empty_slot).holders u ≡ 0
fresh_bits n s u = replicate_each (λ (x : Slot). bit_at x.owed u + bit_at x.holders u ≡ 0) n fresh_slot empty_slot (let z = bit_at-zero u in omega arith) (let z = bit_at-zero u in omega arith) s

pub fresh_queue : (n t : ℕ) → get_or (replicate n (let none : List ℕ = [] in none)) t [] ≡ []
fresh_queue zero t = refl
fresh_queue (suc n) zero = refl
fresh_queue (suc n) (suc t) = fresh_queue n t

pub fresh_kept : (n m most : ℕ) → n ≤ 512 → m ≤ 64 → 16 ≤ most → WellKept (fresh n m most)
fresh_kept n m most hn hm hb =
    let long : length (replicate m (let none : List ℕ = [] in none)) ≡ m = length-replicate m _ in
    record {
      few_threads = rw length-replicate hm;
      few_slots = rw length-replicate hn;
      each = λ t s h. let a = ap (times s) (fresh_queue m t) in let b = fresh_bits n s t in omega arith;
      long = λ t h. let a = ap length (fresh_queue m t) in let b = sum_by-replicate (λ (x : Slot). bit_at x.owed t) n fresh_slot in let z = bit_at-zero t in
          let y : n * bit_at 0 t ≡ 0 = rw z (omega arith) in omega arith;
      apart = λ t s h. let b = fresh_bits n s t in omega arith;
      named = rw long (replicate_each (Named m) n fresh_slot empty_slot (pow_pos m, pow_pos m) (pow_pos m, pow_pos m));
      fits = replicate_each (Fits most) n fresh_slot empty_slot (omega arith) (omega arith);
    }

-- what thread t leaves: the bits of the others stay, and its own are 0
pub left_owed_other : (t u s : ℕ) (slots : List Slot) → t < 64 → u < 64 → u ≢ t → bit_at (get_or (map (left_slot t) slots) s empty_slot).owed u ≡ bit_at (get_or slots s empty_slot).owed u
left_owed_other t u s [] h l ne = refl
left_owed_other t u zero (x ∷ xs) h l ne = without_other x.owed t u h l ne
left_owed_other t u (suc s) (x ∷ xs) h l ne = left_owed_other t u s xs h l ne

pub left_holders_other : (t u s : ℕ) (slots : List Slot) → t < 64 → u < 64 → u ≢ t → bit_at (get_or (map (left_slot t) slots) s empty_slot).holders u ≡ bit_at (get_or slots s empty_slot).holders u
left_holders_other t u s [] h l ne = refl
left_holders_other t u zero (x ∷ xs) h l ne = without_other x.holders t u h l ne
left_holders_other t u (suc s) (x ∷ xs) h l ne = left_holders_other t u s xs h l ne

pub left_none : (t s : ℕ) (slots : List Slot) → t < 64 → bit_at (get_or (map (left_slot t) slots) s empty_slot).owed t + bit_at (get_or (map (left_slot t) slots) s empty_slot).holders t ≡ 0
left_none t s [] h = let z = bit_at-zero t in omega arith
left_none t zero (x ∷ xs) h = let a = without_same x.owed t h in let b = without_same x.holders t h in omega arith
left_none t (suc s) (x ∷ xs) h = left_none t s xs h

pub left_sum_other : (t u : ℕ) (slots : List Slot) → t < 64 → u < 64 → u ≢ t → sum_by (λ (x : Slot). bit_at x.owed u) (map (left_slot t) slots) ≡ sum_by (λ (x : Slot). bit_at x.owed u) slots
left_sum_other t u [] h l ne = refl
left_sum_other t u (x ∷ xs) h l ne =
    rw (sum_by-cons (λ (x : Slot). bit_at x.owed u) (left_slot t x) (map (left_slot t) xs), sum_by-cons (λ (x : Slot). bit_at x.owed u) x xs, left_sum_other t u xs h l ne, without_other x.owed t u h l ne)

pub left_sum_same : (t : ℕ) (slots : List Slot) → t < 64 → sum_by (λ (x : Slot). bit_at x.owed t) (map (left_slot t) slots) ≡ 0
left_sum_same t [] h = refl
left_sum_same t (x ∷ xs) h =
    let e = sum_by-cons (λ (x : Slot). bit_at x.owed t) (left_slot t x) (map (left_slot t) xs) in
    let f = left_sum_same t xs h in
    let g = without_same x.owed t h in
    omega arith

pub left_kept : (p : PoolModel) (t : ℕ) → t < length p.queues → WellKept p → WellKept (left t p)
left_kept p t h w =
    let few : length p.queues ≤ 64 = w.few_threads in
    let none : List ℕ = [] in
    let slots : List Slot = map (left_slot t) p.slots in
    record {
      few_threads = rw length-set w.few_threads;
      few_slots = rw length-map w.few_slots;
      each = λ u s hu0. let hu : u < length p.queues = rw length-set at hu0 in
          elim (cases_eq u t) [
            | inr ne ↦
                let q = ap (times s) (get_or-set_other p.queues t u none [] ne) in
                let e = w.each u s hu in
                let o = left_owed_other t u s p.slots (omega arith) (omega arith) ne in omega arith
            | inl same ↦
                let q : times s (get_or (set p.queues t none) u []) ≡ 0 = ap (λ i. times s (get_or (set p.queues t none) i [])) same ∙ ap (times s) (get_or-set_same p.queues t none [] h) in
                let o = left_none t s p.slots (omega arith) in
                let at_u = ap (λ i. bit_at (get_or slots s empty_slot).owed i) same in omega arith
          ];
      long = λ u hu0. let hu : u < length p.queues = rw length-set at hu0 in
          elim (cases_eq u t) [
            | inr ne ↦
                let q = ap length (get_or-set_other p.queues t u none [] ne) in
                let e = w.long u hu in
                let o = left_sum_other t u p.slots (omega arith) (omega arith) ne in omega arith
            | inl same ↦
                let q : length (get_or (set p.queues t none) u []) ≡ 0 = ap (λ i. length (get_or (set p.queues t none) i [])) same ∙ ap length (get_or-set_same p.queues t none [] h) in
                let o = left_sum_same t p.slots (omega arith) in
                let at_u = ap (λ i. sum_by (λ (x : Slot). bit_at x.owed i) slots) same in omega arith
          ];
      apart = λ u s hu0. let hu : u < length p.queues = rw length-set at hu0 in
          elim (cases_eq u t) [
            | inr ne ↦
                let a = w.apart u s hu in
                let o = left_owed_other t u s p.slots (omega arith) (omega arith) ne in
                let l = left_holders_other t u s p.slots (omega arith) (omega arith) ne in omega arith
            | inl same ↦
                let o = left_none t s p.slots (omega arith) in
                let at_u = ap (λ i. bit_at (get_or slots s empty_slot).owed i + bit_at (get_or slots s empty_slot).holders i) same in omega arith
          ];
      named = rw length-set (map_each (Named (length p.queues)) (left_slot t) p.slots empty_slot w.named (λ x n. (without_below x.owed t (length p.queues) n.0, without_below x.holders t (length p.queues) n.1)));
      fits = map_each (Fits p.slot_bytes) (left_slot t) p.slots empty_slot w.fits (λ x n. n);
    }

-- the slot that a put takes is there and is free
pub first_free_is : (p : PoolModel) (s : ℕ) → first_free p ≡ Some s → (s < length p.slots) × (is_free (slot_at p s) ≡ true)
first_free_is p s e = let f = position-Some is_free p.slots s empty_slot e in (f.0, f.1)

-- the first slot of a thread's queue is there
pub first_within : (p : PoolModel) (t s : ℕ) → WellKept p → t < length p.queues → Some s ≡ first_of (queue_at p t) → s < length p.slots
first_within p t s w h e = owed_within p t s (first_owed p w t s (drop 1 (queue_at p t)) h (first_is (queue_at p t) s (sym e)))

pub key_some : (p : PoolModel) (t s : ℕ) → Some s ≡ first_of (queue_at p t) → key_for p t ≡ Some (key_in (slot_at p s).bytes)
key_some p t s e = ap (option_map (λ s. key_in (slot_at p s).bytes)) (sym e)
