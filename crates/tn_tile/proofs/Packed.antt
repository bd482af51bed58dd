-- The receivers of a message stand among the places of their tile.
use Rattle.std.proofs.Common.{ℕ, ◌≡◌, ◌<◌, ◌≤◌, ◌+◌, ◌-◌, ◌*◌, ◌/◌, ◌%◌, ◌^◌, ◌&&◌, Bool, true, false, cond, ltb, zero, suc, refl, sym, ap, ◌∙◌, arith, inl, inr, IsTrue}
use Rattle.std.proofs.Math.Nat.{pow-le-pow_right}
use Rattle.std.proofs.Math.Pow.{pow-lt}
use Rattle.std.specs.Int.{bit_at}
use Rattle.std.proofs.lemmas.Bool.{and_parts, cases_lt, ltb-true}
use Rattle.std.proofs.lemmas.Nat.{mul-add-lt, mul-le, pow-add, pow_pos, shr-shr, shr_split}
use Rattle.std.proofs.lemmas.Nat.Bits.{bit_at_above, bit_at_cat_high, bit_at_cat_low}
use Rattle.tn_base.specs.declared.shape.ShapeNumbers.{ShapeNumbers}
use Rattle.tn_base.specs.Address.{has_thread, place_in_tile, tile_threads}
use Rattle.tn_base.specs.Mask.{names_core, names_threads}
use Rattle.tn_base.specs.Shape.{WithinLimits}
use Rattle.tn_base.proofs.TilePlaces.{fields}
use Rattle.tn_tile.specs.Receivers.{core_bits, packed}

-- the digits of four cores, of which the first c are there, in base 2 ^ t
record Digits (c t a0 a1 a2 a3 : ℕ) : Type 0 where
  first : a0 < cond (ltb 0 c) (2 ^ t) 1
  second : a1 < cond (ltb 1 c) (2 ^ t) 1
  third : a2 < cond (ltb 2 c) (2 ^ t) 1
  fourth : a3 < cond (ltb 3 c) (2 ^ t) 1

twice : (t : ℕ) → 2 ^ (2 * t) ≡ 2 ^ t * 2 ^ t
twice t = let e : 2 * t ≡ t + t = omega arith in rw e (pow-add 2 t t)

thrice : (t : ℕ) → 2 ^ (3 * t) ≡ 2 ^ t * 2 ^ t * 2 ^ t
thrice t = let e : 3 * t ≡ 2 * t + t = omega arith in rw e (pow-add 2 (2 * t) t ∙ ap (λ x. x * 2 ^ t) (twice t))

four_times : (t : ℕ) → 2 ^ (4 * t) ≡ 2 ^ t * 2 ^ t * 2 ^ t * 2 ^ t
four_times t = let e : 4 * t ≡ 3 * t + t = omega arith in rw e (pow-add 2 (3 * t) t ∙ ap (λ x. x * 2 ^ t) (thrice t))

two_digits : (p a0 a1 : ℕ) → a0 < p → a1 < p → a0 + a1 * p < p * p
two_digits p a0 a1 h0 h1 = omega (arith, mul-add-lt a1 p a0 p h1 h0)

three_digits : (p a0 a1 a2 : ℕ) → a0 < p → a1 < p → a2 < p → a0 + a1 * p + a2 * (p * p) < p * p * p
three_digits p a0 a1 a2 h0 h1 h2 = omega (arith, mul-add-lt a2 (p * p) (a0 + a1 * p) p h2 (two_digits p a0 a1 h0 h1))

four_digits : (p a0 a1 a2 a3 : ℕ) → a0 < p → a1 < p → a2 < p → a3 < p → a0 + a1 * p + a2 * (p * p) + a3 * (p * p * p) < p * p * p * p
four_digits p a0 a1 a2 a3 h0 h1 h2 h3 = omega (arith, mul-add-lt a3 (p * p * p) (a0 + a1 * p + a2 * (p * p)) p h3 (three_digits p a0 a1 a2 h0 h1 h2))

none : (a : ℕ) → a < 1 → a ≡ 0
none a h = omega arith

digits_below : (c t a0 a1 a2 a3 : ℕ) → 1 ≤ c → c ≤ 4 → Digits c t a0 a1 a2 a3 → a0 + a1 * 2 ^ t + a2 * 2 ^ (2 * t) + a3 * 2 ^ (3 * t) < 2 ^ (c * t)
digits_below zero t a0 a1 a2 a3 low high d = absurd (omega arith)
digits_below (suc zero) t a0 a1 a2 a3 low high d =
    let e : 1 * t ≡ t = omega arith in
    rw (none a1 d.second, none a2 d.third, none a3 d.fourth, e) (let h : a0 < 2 ^ t = d.first in omega arith)
digits_below (suc (suc zero)) t a0 a1 a2 a3 low high d =
    rw (none a2 d.third, none a3 d.fourth, twice t) (let h = two_digits (2 ^ t) a0 a1 d.first d.second in omega arith)
digits_below (suc (suc (suc zero))) t a0 a1 a2 a3 low high d =
    rw (none a3 d.fourth, twice t, thrice t) (let h = three_digits (2 ^ t) a0 a1 a2 d.first d.second d.third in omega arith)
digits_below (suc (suc (suc (suc zero)))) t a0 a1 a2 a3 low high d =
    rw (twice t, thrice t, four_times t) (four_digits (2 ^ t) a0 a1 a2 a3 d.first d.second d.third d.fourth)
digits_below (suc (suc (suc (suc (suc c))))) t a0 a1 a2 a3 low high d = absurd (omega arith)

core_below : (n : ShapeNumbers) (m core : ℕ) → names_core n m core ≡ true → core_bits m core < cond (ltb core n.cores) (2 ^ n.threads) 1
core_below n m core h = ltb-true _ _ h

pub packed_below : (n : ShapeNumbers) (m : ℕ) → WithinLimits n → names_threads n m ≡ true → packed n m < 2 ^ tile_threads n
packed_below n m limits h =
    let last = and_parts (names_core n m 0 && names_core n m 1 && names_core n m 2) (names_core n m 3) h in
    let third = and_parts (names_core n m 0 && names_core n m 1) (names_core n m 2) last.0 in
    let second = and_parts (names_core n m 0) (names_core n m 1) third.0 in
    digits_below n.cores n.threads (core_bits m 0) (core_bits m 1) (core_bits m 2) (core_bits m 3) limits.cores.0 limits.cores.1
    (record { first = core_below n m 0 second.0; second = core_below n m 1 second.1; third = core_below n m 2 third.1; fourth = core_below n m 3 last.1 })

-- a tile has at most 64 threads
pub few_places : (n : ShapeNumbers) → WithinLimits n → tile_threads n ≤ 64
few_places n limits = mul-le n.cores n.threads 4 16 limits.cores.1 limits.threads.1

pub within_word : (k x : ℕ) → k ≤ 64 → x < 2 ^ k → x < 2 ^ 64
within_word k x h below = let most : 2 ^ k ≤ 2 ^ 64 = pow-le-pow_right (omega arith) h in omega arith

-- the parts of a small sum are as they stand: no bit is shifted out
pub record Whole (a b c d sum : ℕ) : Type 0 where
  pub second : b % 2 ^ 64 ≡ b
  pub third : c % 2 ^ 64 ≡ c
  pub fourth : d % 2 ^ 64 ≡ d
  pub all : a + b + c + d ≡ sum

pub whole_parts : (a b c d sum : ℕ) → a + b + c + d ≡ sum → sum < 2 ^ 64 → Whole a b c d sum
whole_parts a b c d sum e h = record { second = omega arith; third = omega arith; fourth = omega arith; all = e }

-- the sum as the code makes it
pub record Sums (n : ShapeNumbers) (m a b c d t : ℕ) : Type 0 where
  pub value : a + b * 2 ^ t % 2 ^ 64 + c * 2 ^ (2 * t) % 2 ^ 64 + d * 2 ^ (3 * t) % 2 ^ 64 ≡ packed n m
  pub three : a + b * 2 ^ t % 2 ^ 64 + c * 2 ^ (2 * t) % 2 ^ 64 < 2 ^ 64
  pub all : a + b * 2 ^ t % 2 ^ 64 + c * 2 ^ (2 * t) % 2 ^ 64 + d * 2 ^ (3 * t) % 2 ^ 64 < 2 ^ 64

pub sums : (n : ShapeNumbers) (m a b c d t : ℕ) → WithinLimits n → names_threads n m ≡ true → a ≡ core_bits m 0 → b ≡ core_bits m 1 → c ≡ core_bits m 2 → d ≡ core_bits m 3 → t ≡ n.threads → Sums n m a b c d t
sums n m a b c d t limits names ea eb ec ed et =
    let small : packed n m < 2 ^ 64 = within_word (tile_threads n) (packed n m) (few_places n limits) (packed_below n m limits names) in
    let same : a + b * 2 ^ t + c * 2 ^ (2 * t) + d * 2 ^ (3 * t) ≡ packed n m = rw (ea, eb, ec, ed, et) refl in
    let w : Whole a (b * 2 ^ t) (c * 2 ^ (2 * t)) (d * 2 ^ (3 * t)) (packed n m) = whole_parts _ _ _ _ _ same small in
    record {
      value = rw (w.second, w.third, w.fourth) same;
      three = rw (w.second, w.third) (omega arith);
      all = rw (w.second, w.third, w.fourth) (omega arith);
    }

-- the set of one thread
pub one_place : (n : ShapeNumbers) (k : ℕ) → WithinLimits n → k < tile_threads n → (1 * 2 ^ k % 2 ^ 64 ≡ 2 ^ k) × (2 ^ k < 2 ^ tile_threads n)
one_place n k limits h =
    let below : 2 ^ k < 2 ^ tile_threads n = pow-lt h in
    let small : 2 ^ k < 2 ^ 64 = within_word (tile_threads n) (2 ^ k) (few_places n limits) below in
    (omega arith, below)

-- the bits of four digits in base 2 ^ t
horner : (p a0 a1 a2 a3 : ℕ) → a0 + a1 * p + a2 * (p * p) + a3 * (p * p * p) ≡ ((a3 * p + a2) * p + a1) * p + a0
horner p a0 a1 a2 a3 = omega arith

first_bit : (hi t b i : ℕ) → i < t → bit_at (hi * 2 ^ t + b) i ≡ bit_at b i
first_bit hi t b i h = bit_at_cat_low hi t b i h

later_bit : (hi t b i : ℕ) → b < 2 ^ t → bit_at (hi * 2 ^ t + b) (t + i) ≡ bit_at hi i
later_bit hi t b i h = let e : t + i - t ≡ i = omega arith in bit_at_cat_high hi t b (t + i) h (omega arith) ∙ ap (bit_at hi) e

packed_is : (n : ShapeNumbers) (m : ℕ) → packed n m ≡ ((core_bits m 3 * 2 ^ n.threads + core_bits m 2) * 2 ^ n.threads + core_bits m 1) * 2 ^ n.threads + core_bits m 0
packed_is n m = rw (twice n.threads, thrice n.threads) (horner (2 ^ n.threads) (core_bits m 0) (core_bits m 1) (core_bits m 2) (core_bits m 3))

one_at_most : (there : Bool) (a t : ℕ) → a < cond there (2 ^ t) 1 → a < 2 ^ t
one_at_most true a t h = h
one_at_most false a t h = let some = pow_pos t in omega arith

-- the digit of each core is below 2 ^ threads
pub record Rows (n : ShapeNumbers) (m : ℕ) : Type 0 where
  pub each : (core : ℕ) → core < 4 → core_bits m core < 2 ^ n.threads

rows : (n : ShapeNumbers) (m : ℕ) → names_threads n m ≡ true → Rows n m
rows n m h =
    let last = and_parts (names_core n m 0 && names_core n m 1 && names_core n m 2) (names_core n m 3) h in
    let third = and_parts (names_core n m 0 && names_core n m 1) (names_core n m 2) last.0 in
    let second = and_parts (names_core n m 0) (names_core n m 1) third.0 in
    let by = λ (core : ℕ) (e : names_core n m core ≡ true). one_at_most (ltb core n.cores) (core_bits m core) n.threads (core_below n m core e) in
    record {
      each = λ core few. elim (cases_lt core 1) [
        | inl a ↦ let e : core ≡ 0 = omega arith in rw e (by 0 second.0)
        | inr a ↦ elim (cases_lt core 2) [
          | inl b ↦ let e : core ≡ 1 = omega arith in rw e (by 1 second.1)
          | inr b ↦ elim (cases_lt core 3) [
            | inl d ↦ let e : core ≡ 2 = omega arith in rw e (by 2 third.1)
            | inr d ↦ let e : core ≡ 3 = omega arith in rw e (by 3 last.1)
          ]
        ]
      ];
    }

-- the bit of a thread of a core
digit_bit : (n : ShapeNumbers) (m core i : ℕ) → Rows n m → core < 4 → i < n.threads → bit_at (packed n m) (core * n.threads + i) ≡ bit_at (core_bits m core) i
digit_bit n m core i r few h =
    let t = n.threads in
    let a0 = core_bits m 0 in
    let a1 = core_bits m 1 in
    let a2 = core_bits m 2 in
    let a3 = core_bits m 3 in
    let two = a3 * 2 ^ t + a2 in
    let one = two * 2 ^ t + a1 in
    rw (packed_is n m) (elim (cases_lt core 1) [
      | inl a ↦ let e : core ≡ 0 = omega arith in let k : core * t + i ≡ i = rw e (omega arith) in rw (k, e) (first_bit one t a0 i h)
      | inr a ↦ elim (cases_lt core 2) [
        | inl b ↦
            let e : core ≡ 1 = omega arith in
            let k : core * t + i ≡ t + i = rw e (omega arith) in
            rw (k, e) (later_bit one t a0 i (r.each 0 (omega arith)) ∙ first_bit two t a1 i h)
        | inr b ↦ elim (cases_lt core 3) [
          | inl d ↦
              let e : core ≡ 2 = omega arith in
              let k : core * t + i ≡ t + (t + i) = rw e (omega arith) in
              rw (k, e) (later_bit one t a0 (t + i) (r.each 0 (omega arith)) ∙ later_bit two t a1 i (r.each 1 (omega arith)) ∙ first_bit a3 t a2 i h)
          | inr d ↦
              let e : core ≡ 3 = omega arith in
              let k : core * t + i ≡ t + (t + (t + i)) = rw e (omega arith) in
              rw (k, e) (later_bit one t a0 (t + (t + i)) (r.each 0 (omega arith)) ∙ later_bit two t a1 (t + i) (r.each 1 (omega arith)) ∙ later_bit a3 t a2 i (r.each 2 (omega arith)))
        ]
      ]
    ])

-- a bit of a core's sixteen bits is one of the mask's
row_bit : (m core i : ℕ) → i < 16 → bit_at (core_bits m core) i ≡ bit_at m (16 * core + i)
row_bit m core i h =
    let x = m / 2 ^ (16 * core) in
    sym (bit_at_cat_low (x / 2 ^ 16) 16 (x % 2 ^ 16) i h) ∙ ap (λ y. bit_at y i) (shr_split x 16) ∙ ap (λ y. y % 2) (shr-shr m (16 * core) i)

-- a thread's bit among the places is its bit in the mask
pub receiver_bit : (n : ShapeNumbers) (m a : ℕ) → WithinLimits n → names_threads n m ≡ true → IsTrue (has_thread n a) → bit_at (packed n m) (place_in_tile n a) ≡ bit_at m (a % 64)
receiver_bit n m a limits names h =
    let f = fields n a h in
    let here : a % 16 < n.threads = f.thread in
    let there : a / 16 % 4 < n.cores = f.core in
    let cores = limits.cores.1 in
    let threads = limits.threads.1 in
    let place : 16 * (a / 16 % 4) + a % 16 ≡ a % 64 = omega arith in
    digit_bit n m (a / 16 % 4) (a % 16) (rows n m names) (omega arith) here ∙ row_bit m (a / 16 % 4) (a % 16) (omega arith) ∙ ap (bit_at m) place

pub no_more_bits : (n : ShapeNumbers) (m k : ℕ) → WithinLimits n → names_threads n m ≡ true → tile_threads n ≤ k → bit_at (packed n m) k ≡ 0
no_more_bits n m k limits names h = bit_at_above (packed n m) (tile_threads n) k (packed_below n m limits names) h
