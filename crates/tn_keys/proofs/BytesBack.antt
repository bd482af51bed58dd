-- Bytes are those of the numbers that they hold, and numbers those of their bytes.
use Rattle.std.proofs.Common.{ℕ, zero, suc, ◌≡◌, ◌≤◌, ◌<◌, ◌+◌, ◌*◌, ◌^◌, ◌/◌, ◌%◌, List, [], ◌∷◌, ◌++◌, drop, take, length, slice_index, refl, ap, sym, ◌∙◌, arith}
use Rattle.std.proofs.Math.Nat.{div-div-eq-div-mul, pow-suc}
use Rattle.std.proofs.lemmas.List.{drop-drop, drop_all, get_or-drop, length-drop, take-append-drop}
use Rattle.std.specs.Int.{byte_at, bytes_low_first}
use Rattle.std.specs.List.{flat_map}
use Rattle.byteorder.specs.Endian.{little_bytes, little_from, little_number}
use Rattle.byteorder.specs.Numbers.{little_from-cons, little_from-lt, little_number-reads_back}
use Rattle.tn_keys.specs.Read.{chunks_in}
use Rattle.tn_keys.specs.Written.{bytes_with}

byte_at-suc : (i x : ℕ) → byte_at (suc i) x ≡ byte_at i (x / 256)
byte_at-suc zero x = refl
byte_at-suc (suc i) x =
    ap (λ p. x / p % 256) (pow-suc 256 (suc i)) ∙ ap (λ p. x / p % 256) (times (256 ^ suc i)) ∙ ap (λ y. y % 256) (sym (div-div-eq-div-mul x 256 (256 ^ suc i))) where
      times : (p : ℕ) → p * 256 ≡ 256 * p
      times p = omega arith

bytes-suc : (i n x : ℕ) → bytes_low_first (suc i) n x ≡ bytes_low_first i n (x / 256)
bytes-suc i zero x = refl
bytes-suc i (suc n) x = let here = byte_at-suc i x in let rest = bytes-suc (suc i) n x in cc

pub bytes_back : (n : ℕ) (xs : List ℕ) → ((i : ℕ) → slice_index xs i < 256) → n ≤ length xs → bytes_low_first 0 n (little_from 0 n xs) ≡ take n xs
bytes_back zero xs small l = refl
bytes_back (suc n) [] small l = absurd (omega arith)
bytes_back (suc n) (x ∷ xs) small l =
    let rest = bytes_back n xs (λ i. small (suc i)) (omega arith) in
    let first = small 0 in
    let whole : little_from 0 (suc n) (x ∷ xs) ≡ x + 256 * little_from 0 n xs = ap (λ k. x + 256 * k) (little_from-cons 0 n x xs) in
    let low : (x + 256 * little_from 0 n xs) % 256 ≡ x = omega arith in
    let high : (x + 256 * little_from 0 n xs) / 256 ≡ little_from 0 n xs = omega arith in
    ap (bytes_low_first 0 (suc n)) whole ∙ rw (low, bytes-suc 0 n (x + 256 * little_from 0 n xs), high, rest) refl

-- a part of the bytes is the bytes of its number
part : (n at : ℕ) (xs : List ℕ) → ((i : ℕ) → slice_index xs i < 256) → at + n ≤ length xs → bytes_low_first 0 n (little_from 0 n (drop at xs)) ++ drop (at + n) xs ≡ drop at xs
part n at xs small l =
    let here = bytes_back n (drop at xs) (λ i. rw (get_or-drop at xs i 0) (small (at + i))) (omega (arith, length-drop at xs)) in
    ap (λ ys. ys ++ drop (at + n) xs) here ∙ ap (λ ys. take n (drop at xs) ++ ys) (sym (drop-drop n at xs)) ∙ take-append-drop n (drop at xs)

pub beat_bytes_back : (xs : List ℕ) → ((i : ℕ) → slice_index xs i < 256) → length xs ≡ 32 → bytes_with (little_number 2 xs) (chunks_in xs) ≡ xs
beat_bytes_back xs small l =
    let p0 = part 2 0 xs small (omega arith) in
    let p1 = part 6 2 xs small (omega arith) in
    let p2 = part 6 8 xs small (omega arith) in
    let p3 = part 6 14 xs small (omega arith) in
    let p4 = part 6 20 xs small (omega arith) in
    let p5 = part 6 26 xs small (omega arith) in
    let none : drop 32 xs ≡ [] = drop_all 32 xs (omega arith) in
    ap (front 0) (ap (rest 2) (ap (rest 8) (ap (rest 14) (ap (rest 20) (ap (rest 26) (sym none) ∙ p5) ∙ p4) ∙ p3) ∙ p2) ∙ p1) ∙ p0 where
      front : ℕ → List ℕ → List ℕ
      front at ys = little_bytes 2 (little_number 2 (drop at xs)) ++ ys

      rest : ℕ → List ℕ → List ℕ
      rest at ys = little_bytes 6 (little_number 6 (drop at xs)) ++ ys

pub chunk_small : (xs : List ℕ) → ((i : ℕ) → slice_index xs i < 256) → (at : ℕ) → little_number 6 (drop at xs) < 2 ^ 48
chunk_small xs small at = little_from-lt 0 6 (drop at xs) (λ i. rw (get_or-drop at xs i 0) (small (at + i)))

same_five : (a b c d e v w x y z : ℕ) → v ≡ a → w ≡ b → x ≡ c → y ≡ d → z ≡ e → v ∷ w ∷ x ∷ y ∷ z ∷ [] ≡ a ∷ b ∷ c ∷ d ∷ e ∷ []
same_five a b c d e v w x y z p q r s t = cc

-- five chunks are those that the bytes hold
pub five_back : (n a b c d e : ℕ) → a < 2 ^ 48 → b < 2 ^ 48 → c < 2 ^ 48 → d < 2 ^ 48 → e < 2 ^ 48 → chunks_in (bytes_with n (a ∷ b ∷ c ∷ d ∷ e ∷ [])) ≡ a ∷ b ∷ c ∷ d ∷ e ∷ []
five_back n a b c d e sa sb sc sd se =
    same_five a b c d e _ _ _ _ _
    (little_number-reads_back 6 a (flat_map (little_bytes 6) (b ∷ c ∷ d ∷ e ∷ [])) sa)
    (little_number-reads_back 6 b (flat_map (little_bytes 6) (c ∷ d ∷ e ∷ [])) sb)
    (little_number-reads_back 6 c (flat_map (little_bytes 6) (d ∷ e ∷ [])) sc)
    (little_number-reads_back 6 d (flat_map (little_bytes 6) (e ∷ [])) sd)
    (little_number-reads_back 6 e [] se)

pub chunks_back : (n : ℕ) (cs : List ℕ) → length cs ≡ 5 → ((i : ℕ) → slice_index cs i < 2 ^ 48) → chunks_in (bytes_with n cs) ≡ cs
chunks_back n [] l small = absurd (omega arith)
chunks_back n (a ∷ []) l small = absurd (omega arith)
chunks_back n (a ∷ b ∷ []) l small = absurd (omega arith)
chunks_back n (a ∷ b ∷ c ∷ []) l small = absurd (omega arith)
chunks_back n (a ∷ b ∷ c ∷ d ∷ []) l small = absurd (omega arith)
chunks_back n (a ∷ b ∷ c ∷ d ∷ e ∷ []) l small = five_back n a b c d e (small 0) (small 1) (small 2) (small 3) (small 4)
chunks_back n (a ∷ b ∷ c ∷ d ∷ e ∷ f ∷ cs) l small = absurd (omega arith)

pub count_back : (n : ℕ) (cs : List ℕ) → n < 2 ^ 16 → little_number 2 (bytes_with n cs) ≡ n
count_back n cs h = little_number-reads_back 2 n (flat_map (little_bytes 6) cs) h
