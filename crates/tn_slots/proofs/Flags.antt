-- The flags of a pool's free slots, after each operation.
use Rattle.std.proofs.Common.{ℕ, ◌+◌, ◌<◌, ◌≤◌, ◌≡◌, ◌==◌, ◌&&◌, ◌↔◌, Bool, true, false, cond, not, IsTrue, List, [], ◌∷◌, length, get_or, get_or, set, map, suc, refl, sym, ◌∙◌, ap, inl, inr, arith, replicate, zero}
use Rattle.std.specs.Int.{bit_at}
use Rattle.std.specs.List.{position, prefix_len}
use Rattle.std.proofs.lemmas.Nat.Bits.{bit_at-zero}
use Rattle.std.proofs.lemmas.Bool.{cases_eq, ne_eqb}
use Rattle.std.proofs.lemmas.List.{get_or-map, length-map}
use Rattle.std.proofs.Math.Seq.{map-set_same}
use Rattle.tn_base.proofs.Masks.{with_same}
use Rattle.tn_slots.specs.declared.slot.Slot.{Slot}
use Rattle.tn_slots.specs.PoolModel.{PoolModel}
use Rattle.tn_slots.specs.Slot.{empty_slot, fresh_slot, is_free, taken_slot}
use Rattle.tn_slots.specs.Pool.{Holds, queue_at, slot_at}
use Rattle.tn_slots.specs.WellKept.{WellKept}
use Rattle.tn_slots.proofs.Kept.{first_owed, held_within}

prefix_map : {X : Type 0} (f : X → Bool) (xs : List X) → prefix_len (λ (b : Bool). not b) (map f xs) ≡ prefix_len (λ x. not (f x)) xs
prefix_map f [] = refl
prefix_map f (x ∷ xs) = ap (λ n. cond (not (f x)) (1 + n) 0) (prefix_map f xs)

-- the first flag that is true is at the first item that passes
pub position_map : {X : Type 0} (f : X → Bool) (xs : List X) → position (λ (b : Bool). b) (map f xs) ≡ position f xs
position_map f xs = rw (prefix_map f xs, length-map xs f)

-- a mask with a bit is not zero
not_zero : (m t : ℕ) → bit_at m t ≡ 1 → (m == 0) ≡ false
not_zero m t b = ne_eqb m 0 (λ e. let z = bit_at-zero t in let f = ap (λ x. bit_at x t) e in omega arith)

and_false : (a : Bool) → (a && false) ≡ false
and_false true = refl
and_false false = refl

held_busy : (slot : Slot) (t : ℕ) → bit_at slot.holders t ≡ 1 → is_free slot ≡ false
held_busy slot t b = rw (not_zero slot.holders t b) (and_false (slot.owed == 0))

owed_busy : (slot : Slot) (t : ℕ) → bit_at slot.owed t ≡ 1 → is_free slot ≡ false
owed_busy slot t b = rw (not_zero slot.owed t b)

-- a slot that a thread takes was used, and is used then
pub taken_flags : (p : PoolModel) (t s : ℕ) (rest : List ℕ) → t < length p.queues → queue_at p t ≡ s ∷ rest → WellKept p → map is_free (set p.slots s (taken_slot t (slot_at p s))) ≡ map is_free p.slots
taken_flags p t s rest h e w =
    let few : length p.queues ≤ 64 = w.few_threads in
    let was : is_free (slot_at p s) ≡ false = owed_busy (slot_at p s) t (first_owed p w t s rest h e) in
    let now : is_free (taken_slot t (slot_at p s)) ≡ false = held_busy (taken_slot t (slot_at p s)) t (with_same (slot_at p s).holders t (omega arith)) in
    map-set_same is_free p.slots s (taken_slot t (slot_at p s)) empty_slot (now ∙ sym was)

-- a message for nobody leaves its slot free
pub put_flag : (bytes : List ℕ) (mask : ℕ) (empty : Bool) → (IsTrue empty ↔ (mask ≡ 0)) → empty ≡ is_free (let slot : Slot = record { bytes = bytes; owed = mask; holders = 0 } in slot)
put_flag bytes mask true e = let z : mask ≡ 0 = e.0 refl in rw z
put_flag bytes mask false e = elim (cases_eq mask 0) [
  | inl z ↦ absurd (let h = e.1 z in cc)
  | inr ne ↦ rw (ne_eqb mask 0 ne)
]

pub fresh_flags : (n : ℕ) → replicate n true ≡ map is_free (replicate n fresh_slot)
fresh_flags zero = refl
fresh_flags (suc n) = ap (λ xs. true ∷ xs) (fresh_flags n)

-- a slot that a thread holds is not free
pub held_flag : (p : PoolModel) (t s : ℕ) → Holds p t s → get_or (map is_free p.slots) s false ≡ false
held_flag p t s held = get_or-map is_free p.slots s empty_slot false (held_within p t s held) ∙ held_busy (slot_at p s) t held
