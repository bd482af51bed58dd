-- The memory that starts with an image.
use Rattle.std.proofs.Common.{ℕ, ◌+◌, ◌-◌, ◌*◌, ◌/◌, ◌%◌, ◌<◌, ◌≤◌, ◌≡◌, ◌≢◌, ◌==◌, ◌||◌, if◌then◌else◌, Bool, true, false, not, List, [], ◌∷◌, ◌++◌, length, get_or, set, map, replicate, take, zero, suc, refl, sym, ◌∙◌, ap, inl, inr, arith, cond, length-append, length-set}
use Rattle.std.specs.List.{count_by, range_with_len}
use Rattle.std.proofs.lemmas.Bool.{cases_eq, cases_lt, ne_eqb, or_right}
use Rattle.std.proofs.lemmas.List.{append_assoc, ext_get_or, get_or_past, get_or-replicate, get_or-set_other, get_or-set_same, length-replicate, length-take-le, take_more}
use Rattle.std.proofs.Math.Seq.{get_or-append_right}
use Rattle.std.proofs.lemmas.List.Sums.{sum_by-append}
use Rattle.std.proofs.lemmas.List.FromFn.{length-map-range_with_len, get_or-map-range_with_len}
use Rattle.tn_pages.specs.Paged.{Paged, filled, has_in, has_value, pages_for, started, started_with, stored_in}
use Rattle.tn_pages.specs.Pages.{byte_in, bytes_in, is_made}
use Rattle.tn_pages.proofs.Bytes.{byte_at, length-bytes}

no_page : (n p : ℕ) → get_or (replicate n (let none : List ℕ = [] in none)) p [] ≡ []
no_page n p = elim (cases_lt p n) [
  | inl h ↦ get_or-replicate n p (let none : List ℕ = [] in none) [] h
  | inr past ↦ get_or_past (replicate n (let none : List ℕ = [] in none)) p [] (let l = length-replicate n (let none : List ℕ = [] in none) in omega arith)
]

no_byte : (n k : ℕ) → byte_in (replicate n (let none : List ℕ = [] in none)) k ≡ 0
no_byte n k = rw (no_page n (k / 256))

no_flags : (n : ℕ) → map is_made (replicate n (let none : List ℕ = [] in none)) ≡ replicate n false
no_flags zero = refl
no_flags (suc n) = ap (λ bs. false ∷ bs) (no_flags n)

no_bytes : (n size : ℕ) → bytes_in (replicate n (let none : List ℕ = [] in none)) size ≡ replicate size 0
no_bytes n size =
    let pages : List (List ℕ) = replicate n (let none : List ℕ = [] in none) in
    let l : length (bytes_in pages size) ≡ size = length-bytes pages size in
    let m : length (replicate {A = ℕ} size 0) ≡ size = length-replicate {A = ℕ} size 0 in
    ext_get_or 0 (bytes_in pages size) (replicate size 0) (l ∙ sym m)
    (λ k h. let k_in : k < size = omega arith in byte_at pages size k k_in ∙ (no_byte n k ∙ sym (get_or-replicate {A = ℕ} size k 0 0 k_in)))

-- ---- pages that have a byte other than 0

pub in_same : (old new : List ℕ) (at n : ℕ) → ((i : ℕ) → at ≤ i → i < at + n → get_or new i 0 ≡ get_or old i 0) → has_in new at n ≡ has_in old at n
unfolding has_in
in_same old new at zero same = refl
in_same old new at (suc n) same =
    let here = same at (omega arith) (omega arith) in
    let rest = in_same old new (at + 1) n (λ i low high. same i (omega arith) (omega arith)) in
    rw (here, rest) refl

pub in_found : (bytes : List ℕ) (at n i : ℕ) → at ≤ i → i < at + n → get_or bytes i 0 ≢ 0 → has_in bytes at n ≡ true
unfolding has_in
in_found bytes at zero i low high some = absurd (omega arith)
in_found bytes at (suc n) i low high some = elim (cases_eq i at) [
  | inl e ↦ let none = ne_eqb (get_or bytes at 0) 0 (λ z. some (ap (λ k. get_or bytes k 0) e ∙ z)) in rw none refl
  | inr ne ↦ or_right (not (get_or bytes at 0 == 0)) (has_in bytes (at + 1) n) (in_found bytes (at + 1) n i (omega arith) (omega arith) some)
]

pub in_zeros : (bytes : List ℕ) (at n : ℕ) → ((i : ℕ) → at ≤ i → get_or bytes i 0 ≡ 0) → has_in bytes at n ≡ false
unfolding has_in
in_zeros bytes at zero none = refl
in_zeros bytes at (suc n) none =
    let here = none at (omega arith) in
    let rest = in_zeros bytes (at + 1) n (λ i low. none i (omega arith)) in
    rw (here, rest) refl

-- which pages are made at the start
pub flag_of : (bytes : List ℕ) (n p : ℕ) → p < n → get_or (map (has_value bytes) (range_with_len 0 n)) p false ≡ has_value bytes p
flag_of bytes n p h = get_or-map-range_with_len (has_value bytes) 0 n p p false h (omega arith)

flags_long : (bytes : List ℕ) (n : ℕ) → length (map (has_value bytes) (range_with_len 0 n)) ≡ n
flags_long bytes n = length-map-range_with_len (has_value bytes) 0 n

zero_at : (size i : ℕ) → get_or (replicate {A = ℕ} size 0) i 0 ≡ 0
zero_at size i = elim (cases_lt i size) [
  | inl h ↦ get_or-replicate {A = ℕ} size i 0 0 h
  | inr past ↦ get_or_past (replicate {A = ℕ} size 0) i 0 (let l = length-replicate {A = ℕ} size 0 in omega arith)
]

no_values : (n size : ℕ) → map (has_value (replicate size 0)) (range_with_len 0 n) ≡ replicate n false
no_values n size =
    let bytes : List ℕ = replicate size 0 in
    let l = flags_long bytes n in
    let m = length-replicate n false in
    ext_get_or false (map (has_value bytes) (range_with_len 0 n)) (replicate n false) (l ∙ sym m)
    (λ p h. let below : p < n = omega arith in flag_of bytes n p below ∙ (in_zeros bytes (256 * p) 256 (λ i low. zero_at size i) ∙ sym (get_or-replicate n p false false below)))

-- without a page, all bytes are zeros
pub none_made : (size : ℕ) → (let m : Paged = record { bytes = bytes_in (replicate (pages_for size) (let none : List ℕ = [] in none)) size; made = map is_made (replicate (pages_for size) (let none : List ℕ = [] in none)) } in m) ≡ started size []
none_made size =
    let a : size - 0 ≡ size = omega arith in
    rw (no_bytes (pages_for size) size, no_flags (pages_for size), a, no_values (pages_for size) size)

-- ---- one more byte of the image

one_more : (m n at x : ℕ) (front : List ℕ) → length front ≡ at → set (front ++ replicate (suc m) 0) at x ≡ (front ++ x ∷ []) ++ replicate m 0
one_more m n at x [] e = rw (← e)
one_more m n at x (y ∷ front) e =
    let f : at ≡ suc (length front) = sym e in
    rw f (ap (λ xs. y ∷ xs) (one_more m n (length front) x front refl))

bytes_more : (size at x : ℕ) (front : List ℕ) → length front ≡ at → at < size → set (front ++ replicate (size - at) 0) at x ≡ (front ++ x ∷ []) ++ replicate (size - (at + 1)) 0
bytes_more size at x front e h =
    let m : size - at ≡ suc (size - (at + 1)) = omega arith in
    rw m (one_more (size - (at + 1)) 0 at x front e)

-- the bytes with one more byte of the image
filled_more : (size at : ℕ) (image : List ℕ) → length image ≤ size → at < length image → set (filled size (take at image)) at (get_or image at 0) ≡ filled size (take (at + 1) image)
filled_more size at image short h =
    let l : length (take at image) ≡ at = length-take-le at image (omega arith) in
    let m : length (take (at + 1) image) ≡ at + 1 = length-take-le (at + 1) image (omega arith) in
    let t : take (at + 1) image ≡ take at image ++ get_or image at 0 ∷ [] = take_more image at 0 h in
    rw (l, m) (bytes_more size at (get_or image at 0) (take at image) l (omega arith) ∙ ap (λ xs. xs ++ replicate (size - (at + 1)) 0) (sym t))

filled_long : (size : ℕ) (image : List ℕ) → length image ≤ size → length (filled size image) ≡ size
filled_long size image short = let a = length-append image (replicate (size - length image) 0) in let z = length-replicate {A = ℕ} (size - length image) 0 in omega arith

-- a byte other than 0 is written: its page is made, and the other pages stay
flags_more : (bytes : List ℕ) (n at x : ℕ) → at < length bytes → at / 256 < n → x ≢ 0 → set (map (has_value bytes) (range_with_len 0 n)) (at / 256) true ≡ map (has_value (set bytes at x)) (range_with_len 0 n)
flags_more bytes n at x within there some =
    let old : List Bool = map (has_value bytes) (range_with_len 0 n) in
    let now : List ℕ = set bytes at x in
    let l : length old ≡ n = flags_long bytes n in
    let m : length (map (has_value now) (range_with_len 0 n)) ≡ n = flags_long now n in
    let s : length (set old (at / 256) true) ≡ length old = length-set old (at / 256) true in
    ext_get_or false (set old (at / 256) true) (map (has_value now) (range_with_len 0 n)) (s ∙ (l ∙ sym m))
    (λ p h.
    let below : p < n = omega arith in
    elim (cases_eq p (at / 256)) [
      | inl e ↦
          let byte : get_or now at 0 ≡ x = get_or-set_same bytes at x 0 within in
          let found : has_value now p ≡ true = in_found now (256 * p) 256 at (omega arith) (omega arith) (λ z. some (sym byte ∙ z)) in
          ap (λ k. get_or (set old (at / 256) true) k false) e ∙ (get_or-set_same old (at / 256) true false (omega arith) ∙ sym (flag_of now n p below ∙ found))
      | inr ne ↦
          let same : has_value now p ≡ has_value bytes p = in_same bytes now (256 * p) 256 (λ i low high. get_or-set_other bytes at i x 0 (λ is. ne (omega arith))) in
          get_or-set_other old (at / 256) p true false ne ∙ (flag_of bytes n p below ∙ (sym same ∙ sym (flag_of now n p below)))
    ])

pub started_more : (size at : ℕ) (image : List ℕ) → length image ≤ size → at < length image → get_or image at 0 ≢ 0 → (let m : Paged = record { bytes = set (started size (take at image)).bytes at (get_or image at 0); made = set (started size (take at image)).made (at / 256) true } in m) ≡ started size (take (at + 1) image)
started_more size at image short h some =
    let l : length (take at image) ≡ at = length-take-le at image (omega arith) in
    let long : length (filled size (take at image)) ≡ size = filled_long size (take at image) (omega arith) in
    let b = filled_more size at image short h in
    let f = flags_more (filled size (take at image)) (pages_for size) at (get_or image at 0) (omega arith) (omega arith) some in
    rw (f, b) refl

-- a zero changes nothing
pub started_same : (size at : ℕ) (image : List ℕ) → length image ≤ size → at < length image → get_or image at 0 ≡ 0 → started size (take at image) ≡ started size (take (at + 1) image)
started_same size at image short h zero_byte =
    let l : length (take at image) ≡ at = length-take-le at image (omega arith) in
    let m : length (take (at + 1) image) ≡ at + 1 = length-take-le (at + 1) image (omega arith) in
    let t : take (at + 1) image ≡ take at image ++ get_or image at 0 ∷ [] = take_more image at 0 h in
    let n : size - at ≡ suc (size - (at + 1)) = omega arith in
    let bytes : filled size (take at image) ≡ filled size (take (at + 1) image) =
    rw (l, m, t, zero_byte, n) (sym (append_assoc (take at image) (0 ∷ []) (replicate (size - (at + 1)) 0))) in
    ap (started_with size) bytes

-- a byte of the image is put, zero or not
pub started_next : (size at x : ℕ) (image : List ℕ) → length image ≤ size → at < length image → x < 256 → get_or image at 0 ≡ x → (if x == 0 then started size (take at image) else stored_in (started size (take at image)) at 1 x) ≡ started size (take (at + 1) image)
started_next size at x image short h byte is = elim (cases_eq x 0) [
  | inl none ↦ rw none (started_same size at image short h (is ∙ none))
  | inr some ↦
      let small : x % 256 ≡ x = omega arith in
      rw (ne_eqb x 0 some, small) (rw is at (started_more size at image short h (λ z. some (sym is ∙ z))))
]

-- ---- how many pages are made

behind_zero : (size : ℕ) (image : List ℕ) (i : ℕ) → length image ≤ i → get_or (filled size image) i 0 ≡ 0
behind_zero size image i past = get_or-append_right image (replicate (size - length image) 0) i 0 past ∙ zero_at (size - length image) (i - length image)

one_or_none : (b : Bool) → cond b 1 0 ≤ 1
one_or_none true = omega arith
one_or_none false = omega arith

counted_front : (bs : List Bool) (k : ℕ) → ((p : ℕ) → k ≤ p → get_or bs p false ≡ false) → count_by (λ (b : Bool). b) bs ≤ k
counted_front [] k none = omega arith
counted_front (b ∷ bs) zero none =
    let here : b ≡ false = none 0 (omega arith) in
    let rest = counted_front bs zero (λ p low. none (suc p) (omega arith)) in
    rw here (rest)
counted_front (b ∷ bs) (suc k) none =
    let rest = counted_front bs k (λ p low. none (suc p) (omega arith)) in
    let few = one_or_none b in
    let all = sum_by-append (λ (x : Bool). cond x 1 0) (b ∷ []) bs in
    omega (arith, all)

pub started_few : (size : ℕ) (image : List ℕ) → count_by (λ (b : Bool). b) (started size image).made ≤ pages_for (length image)
started_few size image =
    counted_front (started size image).made (pages_for (length image)) (λ p low.
    elim (cases_lt p (pages_for size)) [
      | inl below ↦ flag_of (filled size image) (pages_for size) p below ∙ in_zeros (filled size image) (256 * p) 256 (λ i from. behind_zero size image i (omega arith))
      | inr past ↦ get_or_past (started size image).made p false (let l = flags_long (filled size image) (pages_for size) in omega arith)
    ])
