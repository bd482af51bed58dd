-- Masks of the threads to which edges lead.
use Rattle.std.proofs.Common.{◌≡◌, ◌≢◌, ◌<◌, ℕ, ◌+◌, ◌*◌, ◌/◌, ◌%◌, eqb, cond, Bool, true, false, ◌||◌, List, [], ◌∷◌, length, refl, sym, ◌∙◌, ap, arith, w64}
use Rattle.std.proofs.lemmas.Bool.Decides.{nat_tests}
use Rattle.std.proofs.lemmas.Nat.Bits.{bit_at_set_same, bit_at_set_other, bit_at-zero}
use Rattle.std.proofs.lemmas.List.FromFn.{get_or-map-range_with_len, length-map-range_with_len}
use Rattle.std.specs.Int.{bit_at}
use Rattle.std.specs.List.{list_any}
use Rattle.tn_base.specs.Mask.{with_bit}
use Rattle.polite_routes.specs.declared.target.Target.{Target}
use Rattle.polite_routes.specs.Targets.{leads_to, mask_of, mask_with, reaches, spot, spot_at, spot_for, spots_for}

bit_same : (m k : ℕ) → k < 64 → bit_at (with_bit m k) k ≡ 1
unfolding with_bit
bit_same m k h = bit_at_set_same w64 m k h

bit_other : (m k i : ℕ) → k < 64 → i ≢ k → bit_at (with_bit m k) i ≡ bit_at m i
unfolding with_bit
bit_other m k i h n = bit_at_set_other w64 m k h i n

-- an edge leads to a thread
abbrev pub to : ℕ → Target → Bool
to a t = eqb t.thread.0 a

or_true : (b : Bool) → (b || true) ≡ true
or_true true = refl
or_true false = refl

or_false : (b : Bool) → (b || false) ≡ b
or_false true = refl
or_false false = refl

or_swap : (a b c : Bool) → ((a || b) || c) ≡ (a || (b || c))
or_swap true b c = refl
or_swap false b c = refl

-- one more edge
mask_one : (m i k : ℕ) (t : Target) (tile same : Bool) → tile ≡ eqb (t.thread.0 / 64) i → same ≡ eqb t.thread.0 (i * 64 + k) → k < 64
    → eqb (bit_at (cond tile (with_bit m (t.thread.0 % 64)) m) k) 1 ≡ (eqb (bit_at m k) 1 || eqb t.thread.0 (i * 64 + k))
mask_one m i k t true true e f h =
    let a : t.thread.0 ≡ i * 64 + k = grind (arith, nat_tests) in
    let b : t.thread.0 % 64 ≡ k = omega arith in
    let c : bit_at (with_bit m (t.thread.0 % 64)) k ≡ 1 = ap (λ j. bit_at (with_bit m j) k) b ∙ bit_same m k h in
    ap (λ x. eqb x 1) c ∙ sym (or_true (eqb (bit_at m k) 1)) ∙ ap (λ b. eqb (bit_at m k) 1 || b) f
mask_one m i k t true false e f h =
    let a : t.thread.0 / 64 ≡ i = grind (arith, nat_tests) in
    let n : t.thread.0 ≢ i * 64 + k = grind (arith, nat_tests) in
    let b : k ≢ t.thread.0 % 64 = omega arith in
    let c : bit_at (with_bit m (t.thread.0 % 64)) k ≡ bit_at m k = bit_other m (t.thread.0 % 64) k (omega arith) b in
    ap (λ x. eqb x 1) c ∙ sym (or_false (eqb (bit_at m k) 1)) ∙ ap (λ b. eqb (bit_at m k) 1 || b) f
mask_one m i k t false true e f h =
    let a : t.thread.0 ≡ i * 64 + k = grind (arith, nat_tests) in
    let n : t.thread.0 / 64 ≢ i = grind (arith, nat_tests) in
    absurd (omega arith)
mask_one m i k t false false e f h = sym (or_false (eqb (bit_at m k) 1)) ∙ ap (λ b. eqb (bit_at m k) 1 || b) f

pub mask_bits : (ts : List Target) (m i k : ℕ) → k < 64 → eqb (bit_at (mask_with m ts i) k) 1 ≡ (eqb (bit_at m k) 1 || list_any (to (i * 64 + k)) ts)
mask_bits [] m i k h = sym (or_false (eqb (bit_at m k) 1))
mask_bits (t ∷ ts) m i k h =
    mask_bits ts (cond (leads_to i t) (with_bit m (t.thread.0 % 64)) m) i k h
    ∙ ap (λ b. b || list_any (to (i * 64 + k)) ts) (mask_one m i k t (eqb (t.thread.0 / 64) i) (eqb t.thread.0 (i * 64 + k)) refl refl h)
    ∙ or_swap (eqb (bit_at m k) 1) (eqb t.thread.0 (i * 64 + k)) (list_any (to (i * 64 + k)) ts)

-- the bit of a thread is set exactly where an edge leads to it
pub mask_bit : (ts : List Target) (i k : ℕ) → k < 64 → eqb (bit_at (mask_of ts i) k) 1 ≡ list_any (to (i * 64 + k)) ts
mask_bit ts i k h = mask_bits ts 0 i k h ∙ ap (λ x. eqb x 1 || list_any (to (i * 64 + k)) ts) (bit_at-zero k)

-- an edge to a thread leads to its tile
pub to_tile : (ts : List Target) (a : ℕ) → list_any (to a) ts ≡ true → reaches ts (a / 64) ≡ true
to_tile [] a h = absurd (cc)
to_tile (t ∷ ts) a h = by (eqb t.thread.0 a) refl h (to_tile ts a) where
  by : (b : Bool) → b ≡ eqb t.thread.0 a → (b || list_any (to a) ts) ≡ true → (list_any (to a) ts ≡ true → reaches ts (a / 64) ≡ true) → (eqb (t.thread.0 / 64) (a / 64) || reaches ts (a / 64)) ≡ true
  by true e g r = let i : t.thread.0 ≡ a = grind (arith, nat_tests) in let j : eqb (t.thread.0 / 64) (a / 64) ≡ true = grind (arith, nat_tests) in ap (λ b. b || reaches ts (a / 64)) j
  by false e g r = ap (λ b. eqb (t.thread.0 / 64) (a / 64) || b) (r g) ∙ or_true (eqb (t.thread.0 / 64) (a / 64))

pub spot_is : (ts : List Target) (earlier : ℕ → ℕ) (i : ℕ) → i < 256 → spot_at (spots_for ts earlier) i ≡ spot_for ts earlier i
unfolding spots_for
spot_is ts earlier i h = get_or-map-range_with_len (spot_for ts earlier) 0 256 i i (spot 0 0) h (omega arith)

pub length_spots : (ts : List Target) (earlier : ℕ → ℕ) → length (spots_for ts earlier) ≡ 256
unfolding spots_for
length_spots ts earlier = length-map-range_with_len (spot_for ts earlier) 0 256

-- a mask without bits is that of a tile without targets
pub no_bits : (ts : List Target) (i k : ℕ) → k < 64 → eqb (mask_of ts i) 0 ≡ true → list_any (to (i * 64 + k)) ts ≡ false
no_bits ts i k h e =
    let z : mask_of ts i ≡ 0 = grind (arith, nat_tests) in
    sym (mask_bit ts i k h) ∙ ap (λ m. eqb (bit_at m k) 1) z ∙ ap (λ x. eqb x 1) (bit_at-zero k)
