-- A slot is free exactly where no thread of the pool is owed it or holds it.
use Rattle.std.proofs.Common.{ℕ, ◌<◌, ◌≡◌, ◌^◌, true, false, length, sym, ◌∙◌, ap, MatchOption, Option, Some, None}
use Rattle.std.specs.Int.{bit_at}
use Rattle.std.proofs.lemmas.Bool.{and_from, eq-eqb}
use Rattle.std.proofs.lemmas.Nat.{pow_pos}
use Rattle.std.proofs.lemmas.Nat.Bits.{bit_at-zero, same_from_bits_below}
use Rattle.std.proofs.lemmas.List.Quantifiers.{position-Some}
use Rattle.tn_slots.specs.PoolModel.{PoolModel}
use Rattle.tn_slots.specs.Slot.{empty_slot, is_free}
use Rattle.tn_slots.specs.Pool.{first_free, slot_at}
use Rattle.tn_slots.specs.WellKept.{Unused, WellKept}
use Rattle.tn_slots.proofs.Lists.{position_none}
use Rattle.tn_slots.proofs.Kept.{free_masks}

no_bits : (n mask : ℕ) → mask < 2 ^ n → ((t : ℕ) → t < n → bit_at mask t ≡ 0) → mask ≡ 0
no_bits n mask h none = same_from_bits_below n mask 0 h (pow_pos n) (λ t below. none t below ∙ sym (bit_at-zero t))

pub free_unused : (p : PoolModel) (s : ℕ) → is_free (slot_at p s) ≡ true → Unused p s
free_unused p s free =
    let masks = free_masks (slot_at p s) free in
    record {
      not_owed = λ t h. ap (λ m. bit_at m t) masks.0 ∙ bit_at-zero t;
      not_held = λ t h. ap (λ m. bit_at m t) masks.1 ∙ bit_at-zero t;
    }

pub unused_free : (p : PoolModel) (s : ℕ) → WellKept p → Unused p s → is_free (slot_at p s) ≡ true
unused_free p s w u =
    let owed : (slot_at p s).owed ≡ 0 = no_bits (length p.queues) (slot_at p s).owed (w.named s).0 u.not_owed in
    let held : (slot_at p s).holders ≡ 0 = no_bits (length p.queues) (slot_at p s).holders (w.named s).1 u.not_held in
    and_from _ _ (eq-eqb (slot_at p s).owed 0 owed) (eq-eqb (slot_at p s).holders 0 held)

used : (p : PoolModel) (s : ℕ) → WellKept p → is_free (slot_at p s) ≡ false → Unused p s → ⊥
used p s w busy u = let free = unused_free p s w u in cc

pub first_unused : (p : PoolModel) (r : Option ℕ) → WellKept p → first_free p ≡ r → MatchOption r ((s : ℕ) → s < length p.slots → Unused p s → ⊥) (λ s. (s < length p.slots) × Unused p s × ((k : ℕ) → k < s → Unused p k → ⊥))
first_unused p None w e = λ s h. used p s w (position_none is_free p.slots s empty_slot e h)
first_unused p (Some s) w e =
    let first = position-Some is_free p.slots s empty_slot e in
    (first.0, free_unused p s first.1, λ k below. used p k w (first.2 k below))
