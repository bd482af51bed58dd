-- What stands in a queue after a packet was put into a slot that stands in no queue.
use Rattle.std.proofs.Common.{ℕ, ◌+◌, ◌<◌, ◌≡◌, ◌≢◌, ◌==◌, refl, sym, ◌∙◌, ap, inl, inr, arith, cond, List, [], ◌∷◌, ◌++◌, length, get_or, map, set}
use Rattle.std.proofs.lemmas.Bool.{cases_eq, eq-eqb, ne_eqb}
use Rattle.std.proofs.lemmas.List.{get_or-set_same, get_or-set_other}
use Rattle.std.proofs.lemmas.List.Sums.{sum_by-cons}
use Rattle.tn_base.specs.declared.message.Dest.{Dest}
use Rattle.tn_slots.specs.WellKept.{times}
use Rattle.tn_tile.specs.declared.sender.Sender.{Sender}
use Rattle.tn_order.specs.Spots.{Item, slot_item}

abbrev pub nobody : Sender
nobody = record { origin = 0; number = 0 }

-- the items of a list of slots
abbrev pub stamps : Dest → List Sender → List ℕ → List Item
stamps goal senders queue = map (λ s. slot_item goal (get_or senders s nobody)) queue

times-cons : (x y : ℕ) (ys : List ℕ) → times x (y ∷ ys) ≡ cond (y == x) 1 0 + times x ys
times-cons x y ys = sum_by-cons (λ z. cond (z == x) 1 0) y ys

times_same : (s y : ℕ) (ys : List ℕ) → y ≡ s → times s (y ∷ ys) ≡ 1 + times s ys
times_same s y ys e = rw (times-cons s y ys, eq-eqb y s e)

times_other : (s y : ℕ) (ys : List ℕ) → (y ≡ s → ⊥) → times s (y ∷ ys) ≡ times s ys
times_other s y ys ne = rw (times-cons s y ys, ne_eqb y s ne) (omega arith)

not_zero : (a b : ℕ) → a ≡ 1 + b → a ≡ 0 → ⊥
not_zero a b e f = omega arith

not_first : (s y : ℕ) (ys : List ℕ) → times s (y ∷ ys) ≡ 0 → (y ≢ s) × (times s ys ≡ 0)
not_first s y ys h = elim (cases_eq y s) [
  | inl e ↦ absurd (not_zero (times s (y ∷ ys)) (times s ys) (times_same s y ys e) h)
  | inr ne ↦ (ne, sym (times_other s y ys ne) ∙ h)
]

pub keeps_others : (goal : Dest) (senders : List Sender) (queue : List ℕ) (s : ℕ) (k : Sender) → times s queue ≡ 0 → stamps goal (set senders s k) queue ≡ stamps goal senders queue
keeps_others goal senders [] s k h = refl
keeps_others goal senders (y ∷ ys) s k h =
    let p = not_first s y ys h in
    ap (λ x. slot_item goal x ∷ stamps goal (set senders s k) ys) (get_or-set_other senders s y k nobody p.0) ∙ ap (λ l. slot_item goal (get_or senders y nobody) ∷ l) (keeps_others goal senders ys s k p.1)

pub puts_last : (goal : Dest) (senders : List Sender) (queue : List ℕ) (s : ℕ) (k : Sender) → s < length senders → times s queue ≡ 0 → stamps goal (set senders s k) (queue ++ s ∷ []) ≡ stamps goal senders queue ++ slot_item goal k ∷ []
puts_last goal senders [] s k l h = ap (λ x. slot_item goal x ∷ []) (get_or-set_same senders s k nobody l)
puts_last goal senders (y ∷ ys) s k l h =
    let p = not_first s y ys h in
    ap (λ x. slot_item goal x ∷ stamps goal (set senders s k) (ys ++ s ∷ [])) (get_or-set_other senders s y k nobody p.0) ∙ ap (λ q. slot_item goal (get_or senders y nobody) ∷ q) (puts_last goal senders ys s k l p.1)
