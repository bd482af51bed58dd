-- A mask names only threads of the machine exactly where each of its bits does.
use Rattle.std.proofs.Common.{ℕ, ◌≡◌, ◌≤◌, ◌<◌, ◌+◌, ◌*◌, ◌/◌, ◌%◌, ◌^◌, ◌&&◌, ◌⊎◌, Bool, true, false, cond, refl, arith, lit<, nat_lt, inl, inr, sym, ap, ◌∙◌}
use Rattle.std.specs.Int.{bit_at}
use Rattle.std.proofs.lemmas.Bool.{and_parts, cases_lt, ltb-true, lt-ltb}
use Rattle.std.proofs.lemmas.Nat.{shr-shr, shr_split, pow_pos, mod_below}
use Rattle.std.proofs.Math.Nat.{mod-le}
use Rattle.std.proofs.lemmas.Nat.Bits.{bit_at_cat_low, bit_at_above, bit_at-lt, same_from_bits_below}
use Rattle.tn_base.specs.declared.shape.ShapeNumbers.{ShapeNumbers}
use Rattle.tn_base.specs.Mask.{names_core, names_threads}

-- the low k bits are those of the number
low_bit : (x k i : ℕ) → i < k → bit_at (x % 2 ^ k) i ≡ bit_at x i
low_bit x k i h = sym (bit_at_cat_low (x / 2 ^ k) k (x % 2 ^ k) i h) ∙ ap (λ y. bit_at y i) (shr_split x k)

-- a bit of a core's sixteen bits is one of the mask's
row_bit : (m core t : ℕ) → t < 16 → bit_at (m / 2 ^ (16 * core) % 2 ^ 16) t ≡ bit_at m (16 * core + t)
row_bit m core t h = low_bit (m / 2 ^ (16 * core)) 16 t h ∙ ap (λ y. y % 2) (shr-shr m (16 * core) t)

bit_cases : (x t : ℕ) → (bit_at x t ≡ 1) ⊎ (bit_at x t ≡ 0)
bit_cases x t =
    let few : bit_at x t < 2 = bit_at-lt x t in
    elim (cases_lt (bit_at x t) 1) [ inl none ↦ inr (omega arith) | inr one ↦ inl (omega arith) ]

-- a number below 2 ^ k has no bit from k on, and the other way round
bits_below : (x k t : ℕ) → x < 2 ^ k → bit_at x t ≡ 1 → t < k
bits_below x k t h one =
    elim (cases_lt t k) [ inl less ↦ less | inr past ↦ let none : bit_at x t ≡ 0 = bit_at_above x k t h past in absurd (omega arith) ]

same_bit : (x k i : ℕ) → i < 16 → ((t : ℕ) → t < 16 → bit_at x t ≡ 1 → t < k) → bit_at x i ≡ bit_at (x % 2 ^ k) i
same_bit x k i few each =
    elim (cases_lt i k) [
      | inl less ↦ sym (low_bit x k i less)
      | inr past ↦ elim (bit_cases x i) [
        | inl one ↦ let less : i < k = each i few one in absurd (omega arith)
        | inr none ↦ none ∙ sym (bit_at_above (x % 2 ^ k) k i (mod_below x (2 ^ k) (pow_pos k)) past)
      ]
    ]

below_bits : (x k : ℕ) → x < 2 ^ 16 → ((t : ℕ) → t < 16 → bit_at x t ≡ 1 → t < k) → x < 2 ^ k
below_bits x k h each =
    let low : x % 2 ^ k < 2 ^ k = mod_below x (2 ^ k) (pow_pos k) in
    let small : x % 2 ^ k ≤ x = mod-le x (2 ^ k) in
    let same : x ≡ x % 2 ^ k = same_from_bits_below 16 x (x % 2 ^ k) h (omega arith) (λ i few. same_bit x k i few each) in
    omega arith

-- the sixteen bits of a core, which is there or not
core_by : (there : Bool) (row threads : ℕ) → row < cond there (2 ^ threads) 1 → (t : ℕ) → bit_at row t ≡ 1 → (t < threads) × (there ≡ true)
core_by true row threads h t one = (bits_below row threads t h one, refl)
core_by false row threads h t one = let less : t < 0 = bits_below row 0 t h one in absurd (omega arith)

core_from : (there : Bool) (row threads : ℕ) → row < 2 ^ 16 → ((t : ℕ) → t < 16 → bit_at row t ≡ 1 → (t < threads) × (there ≡ true)) → row < cond there (2 ^ threads) 1
core_from true row threads h each = below_bits row threads h (λ t few one. (each t few one).0)
core_from false row threads h each = below_bits row 0 h (λ t few one. let e : false ≡ true = (each t few one).1 in cc)

each_core : (n : ShapeNumbers) (m : ℕ) → names_threads n m ≡ true → (core : ℕ) → core < 4 → names_core n m core ≡ true
each_core n m h core few =
    let last = and_parts (names_core n m 0 && names_core n m 1 && names_core n m 2) (names_core n m 3) h in
    let third = and_parts (names_core n m 0 && names_core n m 1) (names_core n m 2) last.0 in
    let second = and_parts (names_core n m 0) (names_core n m 1) third.0 in
    elim (cases_lt core 1) [
      | inl a ↦ let e : core ≡ 0 = omega arith in rw e second.0
      | inr a ↦ elim (cases_lt core 2) [
        | inl b ↦ let e : core ≡ 1 = omega arith in rw e second.1
        | inr b ↦ elim (cases_lt core 3) [
          | inl d ↦ let e : core ≡ 2 = omega arith in rw e third.1
          | inr d ↦ let e : core ≡ 3 = omega arith in rw e last.1
        ]
      ]
    ]

pub names_to : (n : ShapeNumbers) (m : ℕ) → names_threads n m ≡ true → (b : ℕ) → b < 64 → bit_at m b ≡ 1 → (b % 16 < n.threads) × (b / 16 < n.cores)
names_to n m h b few one =
    let place : 16 * (b / 16) + b % 16 ≡ b = omega arith in
    let core : names_core n m (b / 16) ≡ true = each_core n m h (b / 16) (omega arith) in
    let bit : bit_at (m / 2 ^ (16 * (b / 16)) % 2 ^ 16) (b % 16) ≡ 1 = row_bit m (b / 16) (b % 16) (omega arith) ∙ ap (λ y. bit_at m y) place ∙ one in
    let got = core_by (nat_lt (b / 16) n.cores) (m / 2 ^ (16 * (b / 16)) % 2 ^ 16) n.threads (ltb-true _ _ core) (b % 16) bit in
    (got.0, ltb-true _ _ got.1)

core_named : (n : ShapeNumbers) (m core : ℕ) → core < 4 → ((b : ℕ) → b < 64 → bit_at m b ≡ 1 → (b % 16 < n.threads) × (b / 16 < n.cores)) → names_core n m core ≡ true
core_named n m core h each =
    lt-ltb _ _ (core_from (nat_lt core n.cores) (m / 2 ^ (16 * core) % 2 ^ 16) n.threads (mod_below (m / 2 ^ (16 * core)) (2 ^ 16) (lit< tt))
    (λ t few one.
    let got = each (16 * core + t) (omega arith) (sym (row_bit m core t few) ∙ one) in
    (omega (arith, got.0), lt-ltb _ _ (omega (arith, got.1)))))

pub names_from : (n : ShapeNumbers) (m : ℕ) → ((b : ℕ) → b < 64 → bit_at m b ≡ 1 → (b % 16 < n.threads) × (b / 16 < n.cores)) → names_threads n m ≡ true
names_from n m each =
    rw (core_named n m 0 (omega arith) each, core_named n m 1 (omega arith) each, core_named n m 2 (omega arith) each, core_named n m 3 (omega arith) each) refl
