-- The parts of a text, and where a byte cuts it.
use Rattle.std.proofs.Common.{◌≡◌, ℕ, Bool, true, false, not, eqb, ltb, ◌+◌, ◌<◌, ◌≤◌, suc, List, [], ◌∷◌, ◌++◌, Some, None, length, take, drop, get_or, refl, sym, ap, ◌∙◌, ⊎_elim, one-add, add-one, append_assoc, length-append, arith, length-drop, drop-cons}
use Rattle.std.specs.List.{before_first, after_first, position_or_len, slice_split, onto_first}
use Rattle.std.proofs.lemmas.Bool.{cases_Bool, and_parts, and_from, eqb-true, lt-ltb}
use Rattle.std.proofs.lemmas.Bool.Decides.{nat_tests}
use Rattle.std.proofs.lemmas.List.{take-append-drop, take_at, drop_at}
use Rattle.std.proofs.lemmas.List.Folds.{list_all-append}
use Rattle.std.proofs.lemmas.List.Splits.{slice_split_first, slice_split-cons_no}
use Rattle.std.proofs.lemmas.List.Sums.{passes_at_first}
use Rattle.tn_text.specs.Cut.{is_byte, lacks, cut_at, parts_at, IsUncut, CutsAt}

-- a list without such an element is the one part
pub split_whole : (p : ℕ → Bool) (xs : List ℕ) → length xs ≤ position_or_len p xs → slice_split p xs ≡ xs ∷ []
split_whole p [] h = refl
split_whole p (x ∷ xs) h =
    ⊎_elim (λ s. let k : length (x ∷ xs) ≤ 0 = rw s at h in absurd (omega (arith, k)))
    (λ s. let k : length (x ∷ xs) ≤ 1 + position_or_len p xs = rw s at h in
    let more = split_whole p xs (omega (arith, k)) in slice_split-cons_no p x xs s ∙ ap (onto_first x) more) (cases_Bool (p x))

-- What a cut of a text is.

all_lack : (byte : ℕ) (text : List ℕ) → length text ≤ position_or_len (is_byte byte) text → lacks byte text ≡ true
all_lack byte [] h = refl
all_lack byte (b ∷ bs) h =
    ⊎_elim (λ s. let k : length (b ∷ bs) ≤ 0 = rw s at h in absurd (omega (arith, k)))
    (λ s. let k : length (b ∷ bs) ≤ 1 + position_or_len (is_byte byte) bs = rw s at h in
    let more = all_lack byte bs (omega (arith, k)) in rw s more) (cases_Bool (eqb b byte))

front_byte : (byte b : ℕ) (bs : List ℕ) → eqb b byte ≡ false → before_first (is_byte byte) (b ∷ bs) ≡ b ∷ before_first (is_byte byte) bs
front_byte byte b bs s = rw (s, one-add) refl

front_lacks : (byte : ℕ) (text : List ℕ) → lacks byte (before_first (is_byte byte) text) ≡ true
front_lacks byte [] = refl
front_lacks byte (b ∷ bs) =
    ⊎_elim (λ s. rw s refl)
    (λ s. ap (lacks byte) (front_byte byte b bs s) ∙ and_from (not (eqb b byte)) (lacks byte (before_first (is_byte byte) bs)) (rw s refl) (front_lacks byte bs))
    (cases_Bool (eqb b byte))

byte_there : (byte : ℕ) (text : List ℕ) → position_or_len (is_byte byte) text < length text
    → text ≡ before_first (is_byte byte) text ++ byte ∷ after_first (is_byte byte) text
byte_there byte text h =
    let n = position_or_len (is_byte byte) text in
    let here : get_or text n 0 ≡ byte = eqb-true (get_or text n 0) byte (passes_at_first (is_byte byte) text 0 h) in
    let next : drop (suc n) text ≡ drop (n + 1) text = rw add-one refl in
    let rest : drop n text ≡ byte ∷ drop (n + 1) text = drop-cons text n 0 h ∙ rw (here, next) refl in
    sym (take-append-drop n text) ∙ ap (λ (xs : List ℕ). take n text ++ xs) rest

pub uncut : (byte : ℕ) (text : List ℕ) → length text ≤ position_or_len (is_byte byte) text → IsUncut byte text
uncut byte text h = record { lacks = all_lack byte text h; parts = split_whole (is_byte byte) text h }

pub cuts_at : (byte : ℕ) (text front rest : List ℕ) → position_or_len (is_byte byte) text < length text → front ≡ before_first (is_byte byte) text
    → rest ≡ after_first (is_byte byte) text → CutsAt byte text front rest
cuts_at byte text front rest within e f = record {
  whole = rw (e, f) (byte_there byte text within);
  first = rw e (front_lacks byte text);
  parts = rw (e, f) (slice_split_first (is_byte byte) text 0 within);
  shorter = omega (arith, ap length f, length-drop (position_or_len (is_byte byte) text + 1) text);
}

-- Texts that lack a byte.

pub lacks_both : (byte : ℕ) (xs ys : List ℕ) → lacks byte xs ≡ true → lacks byte ys ≡ true → lacks byte (xs ++ ys) ≡ true
lacks_both byte xs ys h k = list_all-append (λ b. not (eqb b byte)) xs ys ∙ and_from (lacks byte xs) (lacks byte ys) h k

pub lacks_all : (byte : ℕ) (w : List ℕ) → lacks byte w ≡ true → position_or_len (is_byte byte) w ≡ length w
lacks_all byte [] h = refl
lacks_all byte (b ∷ bs) h =
    let both = and_parts (not (eqb b byte)) (lacks byte bs) h in
    let more = lacks_all byte bs both.1 in
    rw (both.0, more) (one-add (length bs))

lacks_place : (byte : ℕ) (w rest : List ℕ) → lacks byte w ≡ true → position_or_len (is_byte byte) (w ++ byte ∷ rest) ≡ length w
lacks_place byte [] rest h = let e : eqb byte byte ≡ true = grind (arith, nat_tests) in rw e refl
lacks_place byte (b ∷ bs) rest h =
    let both = and_parts (not (eqb b byte)) (lacks byte bs) h in
    let more = lacks_place byte bs rest both.1 in
    rw (both.0, more) (one-add (length bs))

-- the first such byte of a text ends what lacks it
record Ends (byte : ℕ) (text front rest : List ℕ) : Type 0 where
  pub within : position_or_len (is_byte byte) text < length text
  pub front_is : before_first (is_byte byte) text ≡ front
  pub rest_is : after_first (is_byte byte) text ≡ rest

ends : (byte : ℕ) (w rest : List ℕ) → lacks byte w ≡ true → Ends byte (w ++ byte ∷ rest) w rest
ends byte w rest h =
    let n = lacks_place byte w rest h in
    record {
      within = omega (arith, n, length-append w (byte ∷ rest));
      front_is = rw n (take_at w (byte ∷ rest) (length w) refl);
      rest_is = rw n (ap (drop (length w + 1)) (sym (append_assoc w (byte ∷ []) rest)) ∙ drop_at (w ++ byte ∷ []) rest (length w + 1) (length-append w (byte ∷ [])));
    }

not_below : (n : ℕ) → ltb n n ≡ false
not_below n = grind (arith, nat_tests)

pub cut_none : (byte : ℕ) (w : List ℕ) → lacks byte w ≡ true → cut_at byte w ≡ None
cut_none byte w h = let e = lacks_all byte w h in let f = not_below (length w) in rw (e, f) refl

pub cut_found : (byte : ℕ) (w rest : List ℕ) → lacks byte w ≡ true → cut_at byte (w ++ byte ∷ rest) ≡ Some (w, rest)
cut_found byte w rest h =
    let text = w ++ byte ∷ rest in
    let e = ends byte w rest h in
    let t = lt-ltb (position_or_len (is_byte byte) text) (length text) e.within in
    rw (t, e.front_is, e.rest_is) refl

pub part_whole : (byte : ℕ) (w : List ℕ) → lacks byte w ≡ true → parts_at byte w ≡ w ∷ []
part_whole byte w h = split_whole (is_byte byte) w (omega (arith, lacks_all byte w h))

pub part_first : (byte : ℕ) (w rest : List ℕ) → lacks byte w ≡ true → parts_at byte (w ++ byte ∷ rest) ≡ w ∷ parts_at byte rest
part_first byte w rest h =
    let e = ends byte w rest h in
    (cuts_at byte (w ++ byte ∷ rest) w rest e.within (sym e.front_is) (sym e.rest_is)).parts
