-- A number by its digits, and the address that has the same digits at places of their own: one rises with the other.
use Rattle.std.proofs.Common.{ℕ, ◌≡◌, ◌≤◌, ◌<◌, ◌+◌, ◌*◌, ◌/◌, ◌%◌, ◌&&◌, Bool, true, refl, arith, nat_lt, eqb, inl, inr, ap}
use Rattle.std.proofs.lemmas.Nat.{div-mul-add, mod-mul-add, div_below, div-add-mod', mod_below, mul-add-lt}
use Rattle.std.proofs.Math.Nat.{mul-le-mul_right}
use Rattle.std.proofs.lemmas.Bool.{and_parts, cases_order}
use Rattle.std.proofs.lemmas.Bool.Decides.{nat_tests}
use Rattle.std.proofs.lemmas.Bool.{ltb-true, lt-ltb, eqb-true}
use Rattle.tn_base.specs.declared.shape.ShapeNumbers.{ShapeNumbers}
use Rattle.tn_base.specs.Shape.{thread_count, WithinLimits}
use Rattle.tn_base.proofs.Products.{six_sides}
use Rattle.tn_base.specs.Address.{above, has_thread, has_tile, thread_at}
use Rattle.tn_base.specs.Parts.{tile_at, tile_count}

-- `address` gives, in rising order, exactly the numbers that pass a test, for the numbers below `count`
pub record Orders (address : ℕ → ℕ) (count : ℕ) (test : ℕ → Bool) : Type 0 where
  pub there : (i : ℕ) → i < count → test (address i) ≡ true
  pub rising : (i j : ℕ) → i < j → j < count → address i < address j
  pub each : (a : ℕ) → test a ≡ true → (i : ℕ) × (i < count) × (address i ≡ a)

-- the lowest digit is below m, and the others pass their test
abbrev pub digit : ℕ → ℕ → (ℕ → Bool) → ℕ → Bool
digit w m others a = others (a / w) && nat_lt (a % w) m

-- the higher digits decide
rises : (x y w a b : ℕ) → x < y → a < w → x * w + a < y * w + b
rises x y w a b h k = let more : (x + 1) * w ≤ y * w = mul-le-mul_right w (omega arith) in omega (arith, more)

and_both : (x y : Bool) → x ≡ true → y ≡ true → (x && y) ≡ true
and_both x y p q = rw p q

-- one digit more
orders_more : (w m count : ℕ) (others : ℕ → ℕ) (test : ℕ → Bool) → 0 < m → m ≤ w → Orders others count test → Orders (above w m others) (m * count) (digit w m test)
orders_more w m count others test pos few o = record {
  there = λ i h.
      let below : i % m < m = mod_below i m pos in
      let fits : i % m < w = omega arith in
      let high : (others (i / m) * w + i % m) / w ≡ others (i / m) = div-mul-add (others (i / m)) w (i % m) fits in
      let low : (others (i / m) * w + i % m) % w ≡ i % m = mod-mul-add (others (i / m)) w (i % m) fits in
      and_both (test ((others (i / m) * w + i % m) / w)) (nat_lt ((others (i / m) * w + i % m) % w) m)
      (rw high (o.there (i / m) (div_below i m count pos (omega arith))))
      (rw low (lt-ltb _ _ below));
  rising = λ i j h k.
      let of_i : i / m * m + i % m ≡ i = div-add-mod' i m in
      let of_j : j / m * m + j % m ≡ j = div-add-mod' j m in
      let low_i : i % m < m = mod_below i m pos in
      let low_j : j % m < m = mod_below j m pos in
      elim (cases_order (i / m) (j / m)) [
        | inl e ↦
            let same : others (i / m) * w ≡ others (j / m) * w = ap (λ q. others q * w) e in
            let same_high : i / m * m ≡ j / m * m = ap (λ q. q * m) e in
            omega arith
        | inr less ↦ elim less [
          | inl up ↦ rises (others (i / m)) (others (j / m)) w (i % m) (j % m) (o.rising (i / m) (j / m) up (div_below j m count pos (omega arith))) (omega arith)
          | inr down ↦
              let turned : j / m * m + j % m < i / m * m + i % m = rises (j / m) (i / m) m (j % m) (i % m) down low_j in
              absurd (omega arith)
        ]
      ];
  each = λ a t.
      let parts = and_parts (test (a / w)) (nat_lt (a % w) m) t in
      let got = o.each (a / w) parts.0 in
      let below : a % w < m = ltb-true _ _ parts.1 in
      let high : (got.0 * m + a % w) / m ≡ got.0 = div-mul-add got.0 m (a % w) below in
      let low : (got.0 * m + a % w) % m ≡ a % w = mod-mul-add got.0 m (a % w) below in
      let whole : a / w * w + a % w ≡ a = div-add-mod' a w in (
        got.0 * m + a % w,
        mul-add-lt got.0 m (a % w) count got.1 below,
        rw (high, low, got.2) whole,
      );
}

-- the address of a tile is that of its digits, with six zero bits below
orders_shifted : (count : ℕ) (others : ℕ → ℕ) (test : ℕ → Bool) → Orders others count test → Orders (λ i. others i * 64) count (λ a. test (a / 64) && eqb (a % 64) 0)
orders_shifted count others test o = record {
  there = λ i h.
      let high : others i * 64 / 64 ≡ others i = omega arith in
      let low : others i * 64 % 64 ≡ 0 = omega arith in
      and_both (test (others i * 64 / 64)) (eqb (others i * 64 % 64) 0) (rw high (o.there i h)) (rw low refl);
  rising = λ i j h k. omega (arith, o.rising i j h k);
  each = λ a t.
      let parts = and_parts (test (a / 64)) (eqb (a % 64) 0) t in
      let got = o.each (a / 64) parts.0 in
      let low : a % 64 ≡ 0 = eqb-true _ _ parts.1 in
      (got.0, got.1, omega (arith, got.2));
}

-- the last digit stands for itself
orders_last : (count : ℕ) → Orders (λ i. i) count (λ a. nat_lt a count)
orders_last count = record {
  there = λ i h. lt-ltb _ _ h;
  rising = λ i j h k. h;
  each = λ a t. (a, ltb-true _ _ t, refl);
}

-- a test of an address digit by digit
abbrev pub by_digits : ShapeNumbers → ℕ → Bool
by_digits n = digit 16 n.threads (digit 4 n.cores (digit 4 n.tiles_x (digit 4 n.tiles_y (digit 4 n.boards_x (λ a. nat_lt a n.boards_y)))))

digits_of : (n : ShapeNumbers) (a : ℕ) → WithinLimits n → has_thread n a ≡ true → by_digits n a ≡ true
digits_of n a l h = grind (arith, nat_tests)

fields_of : (n : ShapeNumbers) (a : ℕ) → WithinLimits n → by_digits n a ≡ true → has_thread n a ≡ true
fields_of n a l h = grind (arith, nat_tests)

-- `thread_at` lists the threads of the machine by ascending address
pub orders_threads : (n : ShapeNumbers) → WithinLimits n → Orders (thread_at n) (thread_count n) (has_thread n)
orders_threads n l =
    let o : Orders (thread_at n) (n.threads * (n.cores * (n.tiles_x * (n.tiles_y * (n.boards_x * n.boards_y))))) (by_digits n) =
    orders_more 16 n.threads _ _ _ (omega arith) (omega arith)
    (orders_more 4 n.cores _ _ _ (omega arith) (omega arith)
    (orders_more 4 n.tiles_x _ _ _ (omega arith) (omega arith)
    (orders_more 4 n.tiles_y _ _ _ (omega arith) (omega arith)
    (orders_more 4 n.boards_x _ _ _ (omega arith) (omega arith)
    (orders_last n.boards_y))))) in
    record {
      there = λ i h. fields_of n _ l (o.there i (omega arith));
      rising = λ i j h k. o.rising i j h (omega arith);
      each = λ a t. let got = o.each a (digits_of n a l t) in (got.0, omega (arith, got.1), got.2);
    }

-- a test of a tile's address digit by digit
abbrev pub tile_by_digits : ShapeNumbers → ℕ → Bool
tile_by_digits n a =
    digit 4 n.tiles_x (digit 4 n.tiles_y (digit 4 n.boards_x (λ a. nat_lt a n.boards_y))) (a / 64) && eqb (a % 64) 0

tile_digits_of : (n : ShapeNumbers) (a : ℕ) → WithinLimits n → has_tile n a ≡ true → tile_by_digits n a ≡ true
tile_digits_of n a l h = grind (arith, nat_tests)

tile_fields_of : (n : ShapeNumbers) (a : ℕ) → WithinLimits n → tile_by_digits n a ≡ true → has_tile n a ≡ true
tile_fields_of n a l h = grind (arith, nat_tests)

-- `tile_at` lists the tiles of the machine by ascending address
pub orders_tiles : (n : ShapeNumbers) → WithinLimits n → Orders (tile_at n) (tile_count n) (has_tile n)
orders_tiles n l =
    let o : Orders (tile_at n) (n.tiles_x * (n.tiles_y * (n.boards_x * n.boards_y))) (tile_by_digits n) =
    orders_shifted _ _ _
    (orders_more 4 n.tiles_x _ _ _ (omega arith) (omega arith)
    (orders_more 4 n.tiles_y _ _ _ (omega arith) (omega arith)
    (orders_more 4 n.boards_x _ _ _ (omega arith) (omega arith)
    (orders_last n.boards_y)))) in
    record {
      there = λ i h. tile_fields_of n _ l (o.there i (omega arith));
      rising = λ i j h k. o.rising i j h (omega arith);
      each = λ a t. let got = o.each a (tile_digits_of n a l t) in (got.0, omega (arith, got.1), got.2);
    }

pub few_threads : (n : ShapeNumbers) → WithinLimits n → thread_count n ≤ 16384
few_threads n l = six_sides _ _ _ _ _ _ l.boards_x.1 l.boards_y.1 l.tiles_x.1 l.tiles_y.1 l.cores.1 l.threads.1
