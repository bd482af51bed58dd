-- The words of the free slots, bit by bit.
use Rattle.std.proofs.Common.{ℕ, ◌+◌, ◌-◌, ◌*◌, ◌/◌, ◌%◌, ◌<◌, ◌≤◌, ◌≡◌, ◌≢◌, ◌==◌, Bool, true, false, List, ◌∷◌, ◌++◌, length, get_or, set, replicate, zero, suc, refl, sym, ◌∙◌, ap, inl, inr, arith, length-set, Some, None}
use Rattle.std.specs.Int.{bit_at}
use Rattle.std.specs.List.{position, position_or_len}
use Rattle.std.proofs.lemmas.Nat.Bits.{bit_at-zero}
use Rattle.std.proofs.lemmas.Bool.{cases_eq, cases_lt, eq-eqb}
use Rattle.std.proofs.lemmas.Grind.{common_steps}
use Rattle.std.proofs.lemmas.List.{ext_get_or, get_or-set_same, get_or-set_other, get_or_past, get_or-replicate, length-replicate}
use Rattle.std.proofs.lemmas.List.Quantifiers.{position-Some}
use Rattle.std.proofs.lemmas.List.Sums.{position_or_len_is}
use Rattle.std.proofs.lemmas.List.FromFn.{length-map-range_with_len, get_or-map-range_with_len}
use Rattle.tn_slots.specs.Free.{WordsFit, flags, is_marked}

pub length-flags : (words : List ℕ) (count : ℕ) → length (flags words count) ≡ count
length-flags words count = length-map-range_with_len (is_marked words) 0 count

pub flag_at : (words : List ℕ) (count s : ℕ) → s < count → get_or (flags words count) s false ≡ is_marked words s
flag_at words count s h = get_or-map-range_with_len (is_marked words) 0 count s s false h (omega arith)

-- the mark of a slot, by its word and its place there
pub marked_in : (words : List ℕ) (s w b : ℕ) → s ≡ 64 * w + b → b < 64 → is_marked words s ≡ (bit_at (get_or words w 0) b == 1)
marked_in words s w b e h =
    let q : s / 64 ≡ w = omega arith in
    let r : s % 64 ≡ b = omega arith in
    rw (q, r)

pub no_mark : (b : ℕ) → (bit_at 0 b == 1) ≡ false
no_mark b = rw (bit_at-zero b)

-- where the first i fail and the next passes, it is the first that passes
pub position_found : {X : Type 0} (p : X → Bool) (xs : List X) (i : ℕ) (d : X) → i < length xs → ((k : ℕ) → k < i → p (get_or xs k d) ≡ false) → p (get_or xs i d) ≡ true → position p xs ≡ Some i
position_found p xs i d h below here =
    let e : position_or_len p xs ≡ i = position_or_len_is p xs i d (omega arith) below (λ _. here) in
    grind (arith, common_steps, e)

pub position_absent : {X : Type 0} (p : X → Bool) (xs : List X) (d : X) → ((k : ℕ) → k < length xs → p (get_or xs k d) ≡ false) → position p xs ≡ None
position_absent p xs d below =
    let e : position_or_len p xs ≡ length xs = position_or_len_is p xs (length xs) d (omega arith) below (λ h. absurd (omega arith)) in
    grind (arith, common_steps, e)

-- each slot of the words before word w, which are zero, is used
used_before : (words : List ℕ) (w s : ℕ) → ((k : ℕ) → k < w → get_or words k 0 ≡ 0) → s < 64 * w → is_marked words s ≡ false
used_before words w s zeros h =
    let q : s / 64 < w = omega arith in
    rw (zeros (s / 64) q) (no_mark (s % 64))

pub found : (words : List ℕ) (count w b : ℕ) → WordsFit words count → ((k : ℕ) → k < w → get_or words k 0 ≡ 0) → b < 64 → bit_at (get_or words w 0) b ≡ 1 → ((k : ℕ) → k < b → bit_at (get_or words w 0) k ≡ 0) → position (λ (x : Bool). x) (flags words count) ≡ Some (64 * w + b)
found words count w b fit zeros below one lowest =
    let s : ℕ = 64 * w + b in
    let here : is_marked words s ≡ true = marked_in words s w b refl below ∙ eq-eqb (bit_at (get_or words w 0) b) 1 one in
    let within : s < count = elim (cases_lt s count) [ inl h ↦ h | inr past ↦ absurd (let e = fit.none_past s past in cc) ] in
    let l : length (flags words count) ≡ count = length-flags words count in
    let before : (k : ℕ) → k < s → is_marked words k ≡ false = λ k h. elim (cases_lt k (64 * w)) [
      | inl early ↦ used_before words w k zeros early
      | inr late ↦
          let e : k ≡ 64 * w + (k % 64) = omega arith in
          marked_in words k w (k % 64) e (omega arith) ∙ ap (λ x. x == 1) (lowest (k % 64) (omega arith))
    ] in
    position_found (λ (x : Bool). x) (flags words count) s false (omega arith) (λ k h. flag_at words count k (omega arith) ∙ before k h) (flag_at words count s within ∙ here)

pub absent : (words : List ℕ) (count : ℕ) → length words ≤ 8 → ((k : ℕ) → k < 8 → get_or words k 0 ≡ 0) → position (λ (x : Bool). x) (flags words count) ≡ None
absent words count long zeros =
    let none : (s : ℕ) → is_marked words s ≡ false = λ s. elim (cases_lt (s / 64) 8) [
      | inl h ↦ rw (zeros (s / 64) h) (no_mark (s % 64))
      | inr past ↦ rw (get_or_past words (s / 64) 0 (omega arith)) (no_mark (s % 64))
    ] in
    let l : length (flags words count) ≡ count = length-flags words count in
    position_absent (λ (x : Bool). x) (flags words count) false (λ k h. flag_at words count k (omega arith) ∙ none k)

-- the mark of one slot is written
written : (words : List ℕ) (s word k : ℕ) (free : Bool) → s / 64 < length words → (bit_at word (s % 64) == 1) ≡ free → k ≡ s → is_marked (set words (s / 64) word) k ≡ free
written words s word k free h same e = rw (e, get_or-set_same words (s / 64) word 0 h) same

unwritten : (words : List ℕ) (s word k : ℕ) → s / 64 < length words → ((i : ℕ) → i < 64 → i ≢ s % 64 → bit_at word i ≡ bit_at (get_or words (s / 64) 0) i) → k ≢ s → is_marked (set words (s / 64) word) k ≡ is_marked words k
unwritten words s word k h others ne = elim (cases_eq (k / 64) (s / 64)) [
  | inr far ↦ rw (get_or-set_other words (s / 64) (k / 64) word 0 far)
  | inl near ↦ rw (near, get_or-set_same words (s / 64) word 0 h, others (k % 64) (omega arith) (λ e. ne (omega arith)))
]

pub flags_set : (words : List ℕ) (count s word : ℕ) (free : Bool) → s < count → s / 64 < length words → (bit_at word (s % 64) == 1) ≡ free → ((i : ℕ) → i < 64 → i ≢ s % 64 → bit_at word i ≡ bit_at (get_or words (s / 64) 0) i) → flags (set words (s / 64) word) count ≡ set (flags words count) s free
flags_set words count s word free h there same others =
    let new : List ℕ = set words (s / 64) word in
    let l : length (flags words count) ≡ count = length-flags words count in
    let long : length (flags new count) ≡ length (set (flags words count) s free) = length-flags new count ∙ sym (length-set (flags words count) s free ∙ l) in
    ext_get_or false (flags new count) (set (flags words count) s free) long
    (λ k below. let k_in : k < count = let m = length-flags new count in omega arith in
    elim (cases_eq k s) [
      | inl e ↦ flag_at new count k k_in ∙ (written words s word k free there same e ∙ sym (rw e (get_or-set_same (flags words count) s free false (omega arith))))
      | inr ne ↦ flag_at new count k k_in ∙ (unwritten words s word k there others ne ∙ sym (get_or-set_other (flags words count) s k free false ne ∙ flag_at words count k k_in))
    ])

pub fit_set : (words : List ℕ) (count s word : ℕ) → s < count → s / 64 < length words → ((i : ℕ) → i < 64 → i ≢ s % 64 → bit_at word i ≡ bit_at (get_or words (s / 64) 0) i) → WordsFit words count → WordsFit (set words (s / 64) word) count
fit_set words count s word h there others fit = record {
  few = fit.few;
  none_past = λ k past. unwritten words s word k there others (λ e. omega arith) ∙ fit.none_past k past;
}

-- where every word is zero, every slot is used
pub none_marked : (n s : ℕ) → is_marked (replicate n 0) s ≡ false
none_marked n s = elim (cases_lt (s / 64) n) [
  | inl h ↦ rw (get_or-replicate {A = ℕ} n (s / 64) 0 0 h) (no_mark (s % 64))
  | inr past ↦ rw (get_or_past {X = ℕ} (replicate n 0) (s / 64) 0 (let l = length-replicate {A = ℕ} n 0 in omega arith)) (no_mark (s % 64))
]

pub none_flagged : (n count : ℕ) → flags (replicate n 0) count ≡ replicate count false
none_flagged n count =
    let l : length (flags (replicate n 0) count) ≡ count = length-flags (replicate n 0) count in
    let m : length (replicate count false) ≡ count = length-replicate count false in
    ext_get_or false (flags (replicate n 0) count) (replicate count false) (l ∙ sym m)
    (λ k h. flag_at (replicate n 0) count k (omega arith) ∙ (none_marked n k ∙ sym (get_or-replicate count k false false (omega arith))))

-- one more slot is free
filled : (s m : ℕ) → set (replicate s true ++ replicate (suc m) false) s true ≡ replicate (suc s) true ++ replicate m false
filled zero m = refl
filled (suc s) m = ap (λ xs. true ∷ xs) (filled s m)

pub fill_step : (s count : ℕ) → s < count → set (replicate s true ++ replicate (count - s) false) s true ≡ replicate (s + 1) true ++ replicate (count - (s + 1)) false
fill_step s count h =
    let m : count - s ≡ suc (count - (s + 1)) = omega arith in
    let n : s + 1 ≡ suc s = omega arith in
    rw (m, n) (filled s (count - suc s))

-- the found slot is one of the pool's
pub found_within : (words : List ℕ) (count s : ℕ) → position (λ (x : Bool). x) (flags words count) ≡ Some s → s < length (flags words count)
found_within words count s e = (position-Some (λ (x : Bool). x) (flags words count) s false e).0
