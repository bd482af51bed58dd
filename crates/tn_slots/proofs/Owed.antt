-- The queues after a slot was put for the threads of a mask.
use Rattle.std.proofs.Common.{ℕ, ◌<◌, ◌≤◌, ◌≡◌, ◌≢◌, ◌^◌, List, [], ◌∷◌, ◌++◌, length, get_or, set, drop, refl, sym, ◌∙◌, ap, inl, inr, arith, length-set, Some}
use Rattle.std.specs.Int.{bit_at}
use Rattle.std.proofs.lemmas.Bool.{cases_eq, cases_lt, eq-eqb, ne_eqb}
use Rattle.std.proofs.lemmas.Nat.Bits.{bit_at-zero, bit_at_above}
use Rattle.std.proofs.lemmas.List.{ext_get_or, get_or-set_same, get_or-set_other}
use Rattle.std.proofs.lemmas.List.FromFn.{length-map-range_with_len, get_or-map-range_with_len}
use Rattle.tn_base.specs.Mask.{without_bit}
use Rattle.tn_base.proofs.Masks.{without_other, without_same}
use Rattle.tn_slots.specs.Queues.{AppendedBut, appended, first_of, put_in_queue}
use Rattle.tn_slots.proofs.Lists.{bit_cases}
use Rattle.tn_slots.proofs.Masks.{without_below, without_le}

pub put_in_yes : (mask s t : ℕ) (queue : List ℕ) → bit_at mask t ≡ 1 → put_in_queue mask s t queue ≡ queue ++ s ∷ []
put_in_yes mask s t queue b = rw (eq-eqb (bit_at mask t) 1 b)

pub put_in_no : (mask s t : ℕ) (queue : List ℕ) → bit_at mask t ≡ 0 → put_in_queue mask s t queue ≡ queue
put_in_no mask s t queue b = rw (ne_eqb (bit_at mask t) 1 (λ e. omega arith))

pub length-appended : (mask s : ℕ) (queues : List (List ℕ)) → length (appended mask s queues) ≡ length queues
length-appended mask s queues = length-map-range_with_len (λ t. put_in_queue mask s t (get_or queues t [])) 0 (length queues)

pub appended_at : (mask s : ℕ) (queues : List (List ℕ)) (t : ℕ) → t < length queues → get_or (appended mask s queues) t [] ≡ put_in_queue mask s t (get_or queues t [])
appended_at mask s queues t h = get_or-map-range_with_len (λ u. put_in_queue mask s u (get_or queues u [])) 0 (length queues) t t [] h (omega arith)

-- the queue of a thread in the mask, and of another one
pub appended_yes : (mask s : ℕ) (queues : List (List ℕ)) (t : ℕ) → t < length queues → bit_at mask t ≡ 1 → get_or (appended mask s queues) t [] ≡ get_or queues t [] ++ s ∷ []
appended_yes mask s queues t h b = appended_at mask s queues t h ∙ put_in_yes mask s t (get_or queues t []) b

pub appended_no : (mask s : ℕ) (queues : List (List ℕ)) (t : ℕ) → t < length queues → bit_at mask t ≡ 0 → get_or (appended mask s queues) t [] ≡ get_or queues t []
appended_no mask s queues t h b = appended_at mask s queues t h ∙ put_in_no mask s t (get_or queues t []) b

-- a queue that rest names, and another one
but_yes : (mask rest s t : ℕ) (old now : List (List ℕ)) → AppendedBut mask rest s old now → t < length old → bit_at rest t ≡ 1 → get_or now t [] ≡ get_or old t []
but_yes mask rest s t old now a h b = rw (eq-eqb (bit_at rest t) 1 b) at (a.each t h)

but_no : (mask rest s t : ℕ) (old now : List (List ℕ)) → AppendedBut mask rest s old now → t < length old → bit_at rest t ≡ 0 → get_or now t [] ≡ put_in_queue mask s t (get_or old t [])
but_no mask rest s t old now a h b = rw (ne_eqb (bit_at rest t) 1 (λ e. omega arith)) at (a.each t h)

pub append_none : (mask s : ℕ) (queues : List (List ℕ)) → mask < 2 ^ length queues → AppendedBut mask mask s queues queues
append_none mask s queues h = record {
  long = refl;
  named = h;
  part = λ t l b. b;
  each = λ t l. elim (bit_cases mask t) [
    | inl b ↦ rw (eq-eqb (bit_at mask t) 1 b)
    | inr b ↦ rw (ne_eqb (bit_at mask t) 1 (λ e. omega arith))
  ];
}

-- a thread that rest names is one of the pool's
pub rest_within : (mask rest s t : ℕ) (old now : List (List ℕ)) → AppendedBut mask rest s old now → bit_at rest t ≡ 1 → t < length now
rest_within mask rest s t old now a b = elim (cases_lt t (length now)) [
  | inl h ↦ h
  | inr past ↦ absurd (let l = a.long in let z = bit_at_above rest (length old) t a.named (omega arith) in omega arith)
]

-- its queue has the room that it had
pub rest_room : (mask rest s t room : ℕ) (old now : List (List ℕ)) → AppendedBut mask rest s old now → bit_at rest t ≡ 1 → ((u : ℕ) → u < length old → bit_at mask u ≡ 1 → length (get_or old u []) < room) → length (get_or now t []) < room
rest_room mask rest s t room old now a b room_for =
    let l = a.long in
    let within = rest_within mask rest s t old now a b in
    let here : t < length old = omega arith in
    rw (but_yes mask rest s t old now a here b) (room_for t here (a.part t here b))

pub append_step : (mask rest s t : ℕ) (old now : List (List ℕ)) → length old ≤ 64 → bit_at rest t ≡ 1 → AppendedBut mask rest s old now → AppendedBut mask (without_bit rest t) s old (set now t (get_or now t [] ++ s ∷ []))
append_step mask rest s t old now few b a =
    let l : length now ≡ length old = a.long in
    let within : t < length now = rest_within mask rest s t old now a b in
    let here : t < length old = omega arith in
    let new : List ℕ = get_or now t [] ++ s ∷ [] in
    let kept : (u : ℕ) → u < length old → u ≢ t → bit_at (without_bit rest t) u ≡ bit_at rest u = λ u h ne. without_other rest t u (omega arith) (omega arith) ne in
    record {
      long = length-set now t new ∙ l;
      named = without_below rest t (length old) a.named;
      part = λ u h one. elim (cases_eq u t) [
        | inl e ↦ rw e (a.part t here b)
        | inr ne ↦ a.part u h (sym (kept u h ne) ∙ one)
      ];
      each = λ u h. elim (cases_eq u t) [
        | inl e ↦
            let gone : bit_at (without_bit rest t) t ≡ 0 = without_same rest t (omega arith) in
            let new_is : get_or (set now t new) t [] ≡ put_in_queue mask s t (get_or old t []) = get_or-set_same now t new [] within ∙ (ap (λ q. q ++ s ∷ []) (but_yes mask rest s t old now a here b) ∙ sym (put_in_yes mask s t (get_or old t []) (a.part t here b))) in
            rw (e, ne_eqb (bit_at (without_bit rest t) t) 1 (λ one. omega arith)) new_is
        | inr ne ↦ rw (kept u h ne, get_or-set_other now t u new [] ne) (a.each u h)
      ];
    }

pub append_end : (mask rest s : ℕ) (old now : List (List ℕ)) → rest ≡ 0 → AppendedBut mask rest s old now → now ≡ appended mask s old
append_end mask rest s old now e a =
    let l : length now ≡ length old = a.long in
    ext_get_or [] now (appended mask s old) (l ∙ sym (length-appended mask s old))
    (λ t h. let here : t < length old = omega arith in
    but_no mask rest s t old now a here (ap (λ m. bit_at m t) e ∙ bit_at-zero t) ∙ sym (appended_at mask s old t here))

-- a mask is less without a thread that it names
pub without_less : (m t : ℕ) → t < 64 → bit_at m t ≡ 1 → without_bit m t < m
without_less m t h b = elim (cases_lt (without_bit m t) m) [
  | inl less ↦ less
  | inr not_less ↦ absurd (let le = without_le m t in let same : without_bit m t ≡ m = omega arith in let gone = without_same m t h in let e = ap (λ x. bit_at x t) same in omega arith)
]

pub first_is : (queue : List ℕ) (s : ℕ) → first_of queue ≡ Some s → queue ≡ s ∷ drop 1 queue
first_is [] s e = absurd cc
first_is (x ∷ queue) s e = let f : x ≡ s = cc in ap (λ y. y ∷ queue) f
