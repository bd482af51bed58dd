-- What each change of a slot does to what the threads of the tile hold.
use Rattle.std.proofs.Common.{ℕ, ◌<◌, ◌≡◌, ◌≢◌, ◌==◌, true, cond, List, [], ◌∷◌, length, get_or, set, map, zero, suc, refl, sym, ◌∙◌, ap, inl, inr, Option, Some, None}
use Rattle.std.specs.Int.{bit_at}
use Rattle.std.proofs.lemmas.Bool.{cases_eq, eq-eqb, ne_eqb}
use Rattle.std.proofs.lemmas.List.{get_or-set_same, get_or-set_other}
use Rattle.std.proofs.lemmas.Nat.Bits.{bit_at-zero}
use Rattle.tn_base.specs.declared.message.Letter.{Letter}
use Rattle.tn_base.proofs.Masks.{with_same, with_other, without_same, without_other}
use Rattle.tn_slots.specs.declared.slot.Slot.{Slot}
use Rattle.tn_slots.specs.Pool.{slot_at}
use Rattle.tn_slots.specs.Slot.{empty_slot, freed_slot, is_free, left_slot, taken_slot}
use Rattle.tn_slots.proofs.Kept.{free_masks}
use Rattle.tn_tile.specs.declared.sender.Sender.{Sender}
use Rattle.tn_tile.specs.TileView.{TileView, with_now}
use Rattle.tn_letters.specs.State.{put}
use Rattle.tn_letters.specs.Tiles.{held_in, letter_in, sender_at}
use Rattle.tn_letters.proofs.Slots.{letter_of}

-- what the thread at a place has of a slot of this content
abbrev pub held_x : TileView → Sender → Slot → ℕ → Option Letter
held_x v from x k = cond (bit_at x.holders k == 1) (Some (letter_of v from x.bytes k)) None

held_not : (v : TileView) (from : Sender) (x : Slot) (k : ℕ) → bit_at x.holders k ≡ 0 → held_x v from x k ≡ None
held_not v from x k e = ap (λ b. cond (b == 1) (Some (letter_of v from x.bytes k)) None) e

held_yes : (v : TileView) (from : Sender) (x : Slot) (k : ℕ) → bit_at x.holders k ≡ 1 → held_x v from x k ≡ Some (letter_of v from x.bytes k)
held_yes v from x k e = ap (λ b. cond b (Some (letter_of v from x.bytes k)) None) (eq-eqb (bit_at x.holders k) 1 e)

abbrev pub no_sender : Sender
no_sender = record { origin = 0; number = 0 }

-- the slots of a tile are others
abbrev pub with_slots : TileView → List Slot → List (List ℕ) → List Sender → TileView
with_slots v slots queues senders = with_now v (record v.now { pool = record { slots = slots; queues = queues; slot_bytes = v.now.pool.slot_bytes }; senders = senders })

-- what a thread holds in slot s is o now
put_one : (f g : ℕ → Option Letter) (s : ℕ) (o : Option Letter) → g s ≡ o → ((j : ℕ) → j ≢ s → g j ≡ f j) → g ≡ put f s o
put_one f g s o here others = λ i j. by j i
  where
    by : (j : ℕ) → g j ≡ put f s o j
    by j = elim (cases_eq j s) [
      | inl e ↦ ap g e ∙ (here ∙ sym (ap (λ c. cond c o (f j)) (eq-eqb j s e)))
      | inr ne ↦ others j ne ∙ sym (ap (λ c. cond c o (f j)) (ne_eqb j s ne))
    ]

-- slot s is another one with the same bytes
abbrev replaced : TileView → ℕ → Slot → List (List ℕ) → TileView
replaced v s x queues = with_slots v (set v.now.pool.slots s x) queues v.now.senders

replaced_here : (v : TileView) (s k : ℕ) (x : Slot) (queues : List (List ℕ)) → s < length v.now.pool.slots → held_in (replaced v s x queues) k s ≡ held_x v (sender_at v s) x k
replaced_here v s k x queues h = ap (λ (y : Slot). held_x v (sender_at v s) y k) (get_or-set_same v.now.pool.slots s x empty_slot h)

replaced_other : (v : TileView) (s k j : ℕ) (x : Slot) (queues : List (List ℕ)) → j ≢ s → held_in (replaced v s x queues) k j ≡ held_in v k j
replaced_other v s k j x queues ne = ap (λ (y : Slot). held_x v (sender_at v j) y k) (get_or-set_other v.now.pool.slots s j x empty_slot ne)

-- of the thread whose bit among the holders changes, and of the others
changed_one : (v : TileView) (s k : ℕ) (x : Slot) (queues : List (List ℕ)) (o : Option Letter) → s < length v.now.pool.slots → held_x v (sender_at v s) x k ≡ o → held_in (replaced v s x queues) k ≡ put (held_in v k) s o
changed_one v s k x queues o h e = put_one (held_in v k) (held_in (replaced v s x queues) k) s o (replaced_here v s k x queues h ∙ e) (λ j ne. replaced_other v s k j x queues ne)

changed_others : (v : TileView) (s u : ℕ) (x : Slot) (queues : List (List ℕ)) → s < length v.now.pool.slots → x.bytes ≡ (slot_at v.now.pool s).bytes → bit_at x.holders u ≡ bit_at (slot_at v.now.pool s).holders u → held_in (replaced v s x queues) u ≡ held_in v u
changed_others v s u x queues h bytes bit = λ i j. by j i
  where
    by : (j : ℕ) → held_in (replaced v s x queues) u j ≡ held_in v u j
    by j = elim (cases_eq j s) [
      | inr ne ↦ replaced_other v s u j x queues ne
      | inl e ↦
          ap (held_in (replaced v s x queues) u) e
          ∙ (replaced_here v s u x queues h
          ∙ (ap (λ b. cond (b == 1) (Some (letter_of v (sender_at v s) x.bytes u)) None) bit
          ∙ (ap (λ y. cond (bit_at (slot_at v.now.pool s).holders u == 1) (Some (letter_of v (sender_at v s) y u)) None) bytes ∙ ap (held_in v u) (sym e))))
    ]

pub taken_here : (v : TileView) (k s : ℕ) (queues : List (List ℕ)) → k < 64 → s < length v.now.pool.slots → held_in (replaced v s (taken_slot k (slot_at v.now.pool s)) queues) k ≡ put (held_in v k) s (Some (letter_in v k s))
taken_here v k s queues h within = changed_one v s k (taken_slot k (slot_at v.now.pool s)) queues (Some (letter_in v k s)) within (held_yes v (sender_at v s) (taken_slot k (slot_at v.now.pool s)) k (with_same (slot_at v.now.pool s).holders k h))

pub taken_others : (v : TileView) (k s u : ℕ) (queues : List (List ℕ)) → k < 64 → u ≢ k → s < length v.now.pool.slots → held_in (replaced v s (taken_slot k (slot_at v.now.pool s)) queues) u ≡ held_in v u
taken_others v k s u queues h ne within = changed_others v s u (taken_slot k (slot_at v.now.pool s)) queues within refl (with_other (slot_at v.now.pool s).holders k u h ne)

pub freed_here : (v : TileView) (k s : ℕ) (queues : List (List ℕ)) → k < 64 → s < length v.now.pool.slots → held_in (replaced v s (freed_slot k (slot_at v.now.pool s)) queues) k ≡ put (held_in v k) s None
freed_here v k s queues h within = changed_one v s k (freed_slot k (slot_at v.now.pool s)) queues None within (held_not v (sender_at v s) (freed_slot k (slot_at v.now.pool s)) k (without_same (slot_at v.now.pool s).holders k h))

pub freed_others : (v : TileView) (k s u : ℕ) (queues : List (List ℕ)) → k < 64 → u < 64 → u ≢ k → s < length v.now.pool.slots → held_in (replaced v s (freed_slot k (slot_at v.now.pool s)) queues) u ≡ held_in v u
freed_others v k s u queues h j ne within = changed_others v s u (freed_slot k (slot_at v.now.pool s)) queues within refl (without_other (slot_at v.now.pool s).holders k u h j ne)

-- a thread that ended holds nothing, and the others what they held
left_each_here : (xs : List Slot) (v : TileView) (from : Sender) (k s : ℕ) → k < 64 → held_x v from (get_or (map (left_slot k) xs) s empty_slot) k ≡ None
left_each_here [] v from k s h = held_not v from empty_slot k (bit_at-zero k)
left_each_here (x ∷ xs) v from k zero h = held_not v from (left_slot k x) k (without_same x.holders k h)
left_each_here (x ∷ xs) v from k (suc s) h = left_each_here xs v from k s h

left_each_other : (xs : List Slot) (v : TileView) (from : Sender) (k u s : ℕ) → k < 64 → u < 64 → u ≢ k → held_x v from (get_or (map (left_slot k) xs) s empty_slot) u ≡ held_x v from (get_or xs s empty_slot) u
left_each_other [] v from k u s h j ne = refl
left_each_other (x ∷ xs) v from k u zero h j ne = ap (λ b. cond (b == 1) (Some (letter_of v from x.bytes u)) None) (without_other x.holders k u h j ne)
left_each_other (x ∷ xs) v from k u (suc s) h j ne = left_each_other xs v from k u s h j ne

pub left_here : (v : TileView) (k : ℕ) (queues : List (List ℕ)) → k < 64 → held_in (with_slots v (map (left_slot k) v.now.pool.slots) queues v.now.senders) k ≡ (λ s. None)
left_here v k queues h = λ i s. left_each_here v.now.pool.slots v (sender_at v s) k s h i

pub left_others : (v : TileView) (k u : ℕ) (queues : List (List ℕ)) → k < 64 → u < 64 → u ≢ k → held_in (with_slots v (map (left_slot k) v.now.pool.slots) queues v.now.senders) u ≡ held_in v u
left_others v k u queues h j ne = λ i s. left_each_other v.now.pool.slots v (sender_at v s) k u s h j ne i

-- a message is put into a slot that is free: nobody holds it, before and after
pub stored_held : (v : TileView) (s mask : ℕ) (bytes : List ℕ) (from : Sender) (queues : List (List ℕ)) (u : ℕ) → s < length v.now.pool.slots → is_free (slot_at v.now.pool s) ≡ true →
    held_in (with_slots v (set v.now.pool.slots s (record { bytes = bytes; owed = mask; holders = 0 })) queues (set v.now.senders s from)) u ≡ held_in v u
stored_held v s mask bytes from queues u within free = λ i j. by j i
  where
    x : Slot
    x = record { bytes = bytes; owed = mask; holders = 0 }

    by : (j : ℕ) → held_in (with_slots v (set v.now.pool.slots s x) queues (set v.now.senders s from)) u j ≡ held_in v u j
    by j = elim (cases_eq j s) [
      | inr ne ↦
          ap (λ (y : Slot). held_x v (get_or (set v.now.senders s from) j no_sender) y u) (get_or-set_other v.now.pool.slots s j x empty_slot ne)
          ∙ ap (λ (d : Sender). held_x v d (slot_at v.now.pool j) u) (get_or-set_other v.now.senders s j from no_sender ne)
      | inl e ↦
          let here : get_or (set v.now.pool.slots s x) j empty_slot ≡ x = ap (λ i. get_or (set v.now.pool.slots s x) i empty_slot) e ∙ get_or-set_same v.now.pool.slots s x empty_slot within in
          let bit : bit_at (get_or (set v.now.pool.slots s x) j empty_slot).holders u ≡ 0 = ap (λ (y : Slot). bit_at y.holders u) here ∙ bit_at-zero u in
          let was : bit_at (slot_at v.now.pool j).holders u ≡ 0 = ap (λ i. bit_at (slot_at v.now.pool i).holders u) e ∙ (ap (λ b. bit_at b u) (free_masks (slot_at v.now.pool s) free).1 ∙ bit_at-zero u) in
          held_not v (get_or (set v.now.senders s from) j no_sender) (get_or (set v.now.pool.slots s x) j empty_slot) u bit ∙ sym (held_not v (sender_at v j) (slot_at v.now.pool j) u was)
    ]
