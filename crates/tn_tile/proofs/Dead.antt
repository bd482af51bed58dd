-- The set of the threads of a tile that ended, bit by bit, and how a step changes it.
use Rattle.std.proofs.Common.{ℕ, ◌≡◌, ◌<◌, ◌≤◌, ◌+◌, ◌*◌, ◌/◌, ◌%◌, ◌^◌, Bool, true, false, cond, List, [], ◌∷◌, length, get_or, map, set, zero, suc, refl, sym, ap, ◌∙◌, arith, inl, inr, length-set}
use Rattle.std.specs.Int.{bit_at}
use Rattle.std.proofs.Math.Nat.{pow-suc, pow-le-pow_right}
use Rattle.std.proofs.lemmas.Bool.{cases_eq}
use Rattle.std.proofs.lemmas.Nat.Bits.{bit_at-zero, bit_at_lowest, bit_at-suc, same_from_bits_below}
use Rattle.std.proofs.lemmas.List.{get_or-set_same, get_or-set_other}
use Rattle.tn_base.specs.Mask.{with_bit}
use Rattle.tn_base.proofs.Masks.{with_same, with_other}
use Rattle.tn_slots.proofs.Kept.{with_below}
use Rattle.tn_thread.specs.declared.state.ThreadState.{ThreadState}
use Rattle.tn_thread.specs.declared.state.ThreadState.TheVariants as state
use Rattle.tn_thread.specs.declared.thread.Thread.{Thread}
use Rattle.tn_tile.specs.Receivers.{dead_in, is_dead}
use Rattle.tn_tile.specs.Rows.{told}
use Rattle.tn_tile.specs.Step.{no_thread}

-- the bit of a thread in the set
abbrev pub dead_bit : Thread → ℕ
dead_bit t = cond (is_dead t.state) 1 0

bit_below : (b : Bool) → cond b 1 0 < 2
bit_below true = omega arith
bit_below false = omega arith

pub dead_below : (ts : List Thread) → dead_in ts < 2 ^ length ts
dead_below [] = omega arith
dead_below (t ∷ ts) =
    let low = bit_below (is_dead t.state) in
    let others = dead_below ts in
    let more = pow-suc 2 (length ts) in
    omega arith

lowest : (b d : ℕ) → b < 2 → (b + 2 * d) % 2 ≡ b
lowest b d h = omega arith

above : (b d : ℕ) → b < 2 → (b + 2 * d) / 2 ≡ d
above b d h = omega arith

-- past the last thread none ended
abbrev nobody : Thread
nobody = record no_thread { state = state.Run }

pub dead_at : (ts : List Thread) (k : ℕ) → bit_at (dead_in ts) k ≡ dead_bit (get_or ts k nobody)
dead_at [] k = bit_at-zero k
dead_at (t ∷ ts) zero = bit_at_lowest (dead_in (t ∷ ts)) ∙ lowest (dead_bit t) (dead_in ts) (bit_below (is_dead t.state))
dead_at (t ∷ ts) (suc k) = bit_at-suc (dead_in (t ∷ ts)) k ∙ ap (λ d. bit_at d k) (above (dead_bit t) (dead_in ts) (bit_below (is_dead t.state))) ∙ dead_at ts k

-- a thread is replaced by one that ended exactly where it had
pub dead_kept : (ts : List Thread) (k : ℕ) (t : Thread) → is_dead t.state ≡ is_dead (get_or ts k no_thread).state → dead_in (set ts k t) ≡ dead_in ts
dead_kept [] k t e = refl
dead_kept (x ∷ xs) zero t e = ap (λ b. cond b 1 0 + 2 * dead_in xs) e
dead_kept (x ∷ xs) (suc k) t e = ap (λ d. dead_bit x + 2 * d) (dead_kept xs k t e)

small : (ts : List Thread) → length ts ≤ 64 → dead_in ts < 2 ^ 64
small ts few = let low = dead_below ts in let more : 2 ^ length ts ≤ 2 ^ 64 = pow-le-pow_right (omega arith) few in omega arith

-- a thread is replaced by one that ended
pub dead_more : (ts : List Thread) (k : ℕ) (t : Thread) → k < length ts → length ts ≤ 64 → is_dead t.state ≡ true → dead_in (set ts k t) ≡ with_bit (dead_in ts) k
dead_more ts k t h few ended =
    same_from_bits_below 64 (dead_in (set ts k t)) (with_bit (dead_in ts) k) (small (set ts k t) (rw length-set few)) (with_below (dead_in ts) k 64 (small ts few) (omega arith))
    (λ i below. elim (cases_eq i k) [
      | inl e ↦ rw e (dead_at (set ts k t) k ∙ ap dead_bit (get_or-set_same ts k t nobody h) ∙ ap (λ b. cond b 1 0) ended ∙ sym (with_same (dead_in ts) k (omega arith)))
      | inr ne ↦ dead_at (set ts k t) i ∙ ap dead_bit (get_or-set_other ts k i t nobody ne) ∙ sym (dead_at ts i) ∙ sym (with_other (dead_in ts) k i (omega arith) ne)
    ])

-- threads of which none ended
pub none_dead : (ts : List Thread) → ((k : ℕ) → k < length ts → is_dead (get_or ts k no_thread).state ≡ false) → dead_in ts ≡ 0
none_dead [] all = refl
none_dead (t ∷ ts) all =
    let first : is_dead t.state ≡ false = all 0 (omega arith) in
    let others : dead_in ts ≡ 0 = none_dead ts (λ k h. all (suc k) (omega arith)) in
    rw (first, others) refl

-- an answer ends no thread
told_bit : (value : ℕ) (t : Thread) (s : ThreadState) → t.state ≡ s → dead_bit (told value t) ≡ dead_bit t
told_bit value t state.Run e = rw e refl
told_bit value t (state.Wait waits) e = rw e refl
told_bit value t (state.Idle vote) e = rw e refl
told_bit value t (state.Answered before) e = rw e refl
told_bit value t (state.Dead before) e = rw e refl
told_bit value t (state.Trapped why) e = rw e refl

pub dead_told : (ts : List Thread) (value : ℕ) → dead_in (map (told value) ts) ≡ dead_in ts
dead_told [] value = refl
dead_told (t ∷ ts) value = ap (λ b. b + 2 * dead_in (map (told value) ts)) (told_bit value t t.state refl) ∙ ap (λ d. dead_bit t + 2 * d) (dead_told ts value)
