-- Reading gives what was written, and only that.
use Rattle.std.proofs.Common.{ℕ, suc, ◌≡◌, ◌<◌, ◌+◌, ◌-◌, ◌*◌, ◌^◌, ◌/◌, ◌%◌, ◌&&◌, Bool, true, false, not, cond, eqb, ltb, List, [], ◌∷◌, ◌++◌, take, length, slice_index, refl, ap, sym, ◌∙◌, arith, inl, inr}
use Rattle.std.specs.List.{flat_map, list_all}
use Rattle.std.specs.declared.option.Option.{Option}
use Rattle.std.specs.declared.option.Option.TheVariants.{Some, None}
use Rattle.std.specs.declared.result.Result.{Result}
use Rattle.std.specs.declared.result.Result.TheVariants.{Ok, Err}
use Rattle.std.proofs.lemmas.Bool.{ne_eqb, not-true, true≢false, and_from, and_parts, ltb-true}
use Rattle.std.proofs.lemmas.Bool.Decides.{nat_tests}
use Rattle.tn_keys.specs.declared.beat.BeatFault.{BeatFault}
use Rattle.tn_keys.specs.declared.beat.BeatFault.TheVariants as fault
use Rattle.tn_keys.specs.declared.record.RouteRec.{RouteRec}
use Rattle.tn_keys.specs.declared.record.RouteRec.TheVariants.{Urm1, Urm2, Rr, Mrm, Ind}
use Rattle.tn_keys.specs.declared.record.Tag.{Tag}
use Rattle.tn_keys.specs.declared.record.Tag.TheVariants as tag
use Rattle.tn_keys.specs.Record.{bits, chunks, end_of, field_in, fits, is_ind, is_urm2, record_in, tag_number, tag_of, word_of}
use Rattle.tn_keys.specs.Beat.{lacks_ind, lacks_urm2}
use Rattle.tn_keys.specs.Read.{before, records_in, tag_in, tagged, with_record}
use Rattle.tn_keys.specs.Written.{cut, record_chunks}
use Rattle.tn_keys.proofs.Reading.{fits_read, goes_on, last_chunk, one_chunk, one_or_two, tag_of_read, two_chunks}
use Rattle.tn_keys.proofs.Writing.{word_below}

-- the number of the record that was read
word_back : (t : Tag) (w : ℕ) → w % 8 ≡ tag_number t → w < 2 ^ end_of t → word_of (record_in t w) ≡ w
word_back tag.Urm1 w h l = omega arith
word_back tag.Urm2 w h l = omega arith
word_back tag.Rr w h l = omega arith
word_back tag.Mrm w h l = omega arith
word_back tag.Ind w h l = omega arith

same_urm1 : (a b c x y z : ℕ) → x ≡ a → y ≡ b → z ≡ c → Urm1 x y z ≡ Urm1 a b c
same_urm1 a b c x y z p q r = cc

same_urm2 : (a b c x y z : ℕ) → x ≡ a → y ≡ b → z ≡ c → Urm2 x y z ≡ Urm2 a b c
same_urm2 a b c x y z p q r = cc

same_rr : (a b x y : ℕ) → x ≡ a → y ≡ b → Rr x y ≡ Rr a b
same_rr a b x y p q = cc

same_mrm : (a b c x y z : ℕ) → x ≡ a → y ≡ b → z ≡ c → Mrm x y z ≡ Mrm a b c
same_mrm a b c x y z p q r = cc

-- the record of a number that was written
record_back : (r : RouteRec) → fits r ≡ true → record_in (tag_of r) (word_of r) ≡ r
record_back (Urm1 tile thread key) h =
    let a : field_in (word_of (Urm1 tile thread key)) (bits 3 6) ≡ tile = grind (arith, nat_tests) in
    let b : field_in (word_of (Urm1 tile thread key)) (bits 7 12) ≡ thread = grind (arith, nat_tests) in
    let c : field_in (word_of (Urm1 tile thread key)) (bits 13 44) ≡ key = grind (arith, nat_tests) in
    same_urm1 _ _ _ _ _ _ a b c
record_back (Urm2 tile thread key) h =
    let a : field_in (word_of (Urm2 tile thread key)) (bits 3 6) ≡ tile = grind (arith, nat_tests) in
    let b : field_in (word_of (Urm2 tile thread key)) (bits 7 12) ≡ thread = grind (arith, nat_tests) in
    let c : field_in (word_of (Urm2 tile thread key)) (bits 13 76) ≡ key = grind (arith, nat_tests) in
    same_urm2 _ _ _ _ _ _ a b c
record_back (Rr dir key) h =
    let a : field_in (word_of (Rr dir key)) (bits 3 4) ≡ dir = grind (arith, nat_tests) in
    let b : field_in (word_of (Rr dir key)) (bits 5 36) ≡ key = grind (arith, nat_tests) in
    same_rr _ _ _ _ a b
record_back (Mrm tile key mask) h =
    let a : field_in (word_of (Mrm tile key mask)) (bits 3 6) ≡ tile = grind (arith, nat_tests) in
    let b : field_in (word_of (Mrm tile key mask)) (bits 7 22) ≡ key = grind (arith, nat_tests) in
    let c : field_in (word_of (Mrm tile key mask)) (bits 23 86) ≡ mask = grind (arith, nat_tests) in
    same_mrm _ _ _ _ _ _ a b c
record_back (Ind key) h =
    let a : field_in (word_of (Ind key)) (bits 3 34) ≡ key = grind (arith, nat_tests) in
    ap Ind a

-- the tag of a number, and the tag that a number has
tag_is : (version c : ℕ) (t : Tag) → tag_in version c ≡ Some t → (c % 8 ≡ tag_number t) × (version ≡ 1 → is_urm2 t ≡ false)
tag_is version c tag.Urm1 h = (grind (arith, nat_tests), λ e. refl)
tag_is version c tag.Urm2 h = (grind (arith, nat_tests), λ e. absurd (grind (arith, nat_tests)))
tag_is version c tag.Rr h = (grind (arith, nat_tests), λ e. refl)
tag_is version c tag.Mrm h = (grind (arith, nat_tests), λ e. refl)
tag_is version c tag.Ind h = (grind (arith, nat_tests), λ e. refl)

is_tag : (version c : ℕ) (t : Tag) → c % 8 ≡ tag_number t → (version ≡ 1 → is_urm2 t ≡ false) → tag_in version c ≡ Some t
is_tag version c tag.Urm1 h v = rw h refl
is_tag version c tag.Urm2 h v = let other : eqb version 1 ≡ false = ne_eqb version 1 (λ e. true≢false (v e)) in rw (h, other) refl
is_tag version c tag.Rr h v = rw h refl
is_tag version c tag.Mrm h v = rw h refl
is_tag version c tag.Ind h v = rw h refl

-- no record but the last is an IND, by recursion
abbrev pub tail_ends : List RouteRec → Bool
tail_ends [] = true
tail_ends (r ∷ []) = true
tail_ends (r ∷ s ∷ rs) = not (is_ind (tag_of r)) && tail_ends (s ∷ rs)

pub tail_ends-is : (rs : List RouteRec) → tail_ends rs ≡ lacks_ind (take (length rs - 1) rs)
tail_ends-is [] = refl
tail_ends-is (r ∷ []) = refl
tail_ends-is (r ∷ s ∷ rs) =
    let e : length (r ∷ s ∷ rs) - 1 ≡ suc (length (s ∷ rs) - 1) = omega arith in
    rw e (ap (λ b. not (is_ind (tag_of r)) && b) (tail_ends-is (s ∷ rs)))

-- records that are those of chunks
pub record Chunked (version : ℕ) (ended : Bool) (cs : List ℕ) (rs : List RouteRec) : Type 0 where
  pub whole : flat_map record_chunks rs ≡ cs
  pub fit : list_all fits rs ≡ true
  pub ends : tail_ends rs ≡ true
  pub first : ended ≡ true → rs ≡ []
  pub plain : version ≡ 1 → lacks_urm2 rs ≡ true

before_ok : (r : RouteRec) (x : Result (List RouteRec) BeatFault) (rs : List RouteRec) → before r x ≡ Ok rs → (ss : List RouteRec) × (x ≡ Ok ss) × (rs ≡ r ∷ ss)
before_ok r (Ok ss) rs h = (ss, refl, cc)
before_ok r (Err f) rs h = absurd (cc)

guard_ok : (small ended : Bool) (r : RouteRec) (x : Result (List RouteRec) BeatFault) (rs : List RouteRec) → cond small (cond ended (Err fault.AfterInd) (before r x)) (Err fault.Unused) ≡ Ok rs → (small ≡ true) × (ended ≡ false) × (before r x ≡ Ok rs)
guard_ok true true r x rs h = absurd (cc)
guard_ok true false r x rs h = (refl, refl, h)
guard_ok false ended r x rs h = absurd (cc)

-- the record that was read is not followed by another where it is an IND
ends_more : (t : Tag) (w : ℕ) (ss : List RouteRec) → (is_ind t ≡ true → ss ≡ []) → tail_ends ss ≡ true → tail_ends (record_in t w ∷ ss) ≡ true
ends_more t w [] first ends = refl
ends_more t w (s ∷ ss) first ends = by (is_ind t) refl where
  by : (b : Bool) → is_ind t ≡ b → (not (is_ind (tag_of (record_in t w))) && tail_ends (s ∷ ss)) ≡ true
  by true e = absurd (let none = first e in cc)
  by false e = rw (tag_of_read t w, e, ends) refl

chunks_read : (t : Tag) (w : ℕ) → w % 8 ≡ tag_number t → w < 2 ^ end_of t → record_chunks (record_in t w) ≡ cut (chunks t) w
chunks_read t w h l = rw (word_back t w h l, tag_of_read t w) refl

-- one record and what was read behind it
more_read : (version : ℕ) (ended : Bool) (t : Tag) (w : ℕ) (front cs : List ℕ) (rs : List RouteRec) → w % 8 ≡ tag_number t → (version ≡ 1 → is_urm2 t ≡ false) → cut (chunks t) w ≡ front
    → with_record ended t w (records_in version (is_ind t) cs) ≡ Ok rs → ((ss : List RouteRec) → records_in version (is_ind t) cs ≡ Ok ss → Chunked version (is_ind t) cs ss) → Chunked version ended (front ++ cs) rs
more_read version ended t w front cs rs h v f e rest =
    let g = guard_ok (ltb w (2 ^ end_of t)) ended (record_in t w) (records_in version (is_ind t) cs) rs e in
    let b = before_ok (record_in t w) (records_in version (is_ind t) cs) rs g.2 in
    let q = rest b.0 b.1 in
    let small = ltb-true w (2 ^ end_of t) g.0 in
    let same : rs ≡ record_in t w ∷ b.0 = b.2 in
    record {
      whole = ap (flat_map record_chunks) same ∙ ap (λ xs. xs ++ flat_map record_chunks b.0) (chunks_read t w h small ∙ f) ∙ ap (λ xs. front ++ xs) q.whole;
      fit = ap (list_all fits) same ∙ and_from _ _ (fits_read t w) q.fit;
      ends = ap tail_ends same ∙ ends_more t w b.0 q.first q.ends;
      first = λ i. absurd (true≢false (sym i ∙ g.1));
      plain = λ i. ap lacks_urm2 same ∙ and_from _ _ (ap (λ s. not (is_urm2 s)) (tag_of_read t w) ∙ ap not (v i)) (q.plain i);
    }

cut_one : (t : Tag) (w : ℕ) → chunks t ≡ 1 → cut (chunks t) w ≡ w ∷ []
cut_one t w e = rw e refl

cut_two : (t : Tag) (c d : ℕ) → chunks t ≡ 2 → c < 2 ^ 48 → cut (chunks t) (c + d * 2 ^ 48) ≡ c ∷ d ∷ []
cut_two t c d e s =
    let low : (c + d * 2 ^ 48) % 2 ^ 48 ≡ c = omega arith in
    let high : (c + d * 2 ^ 48) / 2 ^ 48 ≡ d = omega arith in
    rw (e, low, high) refl

tag_some : (o : Option Tag) (f : Tag → Result (List RouteRec) BeatFault) (rs : List RouteRec) → tagged o f ≡ Ok rs → (t : Tag) × (o ≡ Some t) × (f t ≡ Ok rs)
tag_some None f rs h = absurd (cc)
tag_some (Some t) f rs h = (t, refl, h)

nothing_read : (version : ℕ) (ended : Bool) (rs : List RouteRec) → records_in version ended [] ≡ Ok rs → Chunked version ended [] rs
nothing_read version ended rs h =
    let e : rs ≡ [] = cc in
    record { whole = ap (flat_map record_chunks) e; fit = ap (list_all fits) e; ends = ap tail_ends e; first = λ i. e; plain = λ i. ap lacks_urm2 e }

last_read : (version : ℕ) (ended : Bool) (c : ℕ) (rs : List RouteRec) → records_in version ended (c ∷ []) ≡ Ok rs → Chunked version ended (c ∷ []) rs
last_read version ended c rs h =
    let g = tag_some (tag_in version c) _ rs h in
    let tag = tag_is version c g.0 g.1 in
    elim (one_or_two g.0) [
      | inl one ↦ more_read version ended g.0 c (c ∷ []) [] rs tag.0 tag.1 (cut_one g.0 c one) (sym (one_chunk version ended c [] g.0 g.1 one) ∙ h) (λ ss. nothing_read version (is_ind g.0) ss)
      | inr two ↦ absurd (let last = last_chunk version ended c g.0 g.1 two in cc)
    ]

next_read : (version : ℕ) (ended : Bool) (c d : ℕ) (cs : List ℕ) (rs : List RouteRec) → c < 2 ^ 48 → records_in version ended (c ∷ d ∷ cs) ≡ Ok rs
    → ((e : Bool) (ss : List RouteRec) → records_in version e (d ∷ cs) ≡ Ok ss → Chunked version e (d ∷ cs) ss) → ((e : Bool) (ss : List RouteRec) → records_in version e cs ≡ Ok ss → Chunked version e cs ss)
    → Chunked version ended (c ∷ d ∷ cs) rs
next_read version ended c d cs rs s h one_on two_on =
    let g = tag_some (tag_in version c) _ rs h in
    let tag = tag_is version c g.0 g.1 in
    elim (one_or_two g.0) [
      | inl one ↦ more_read version ended g.0 c (c ∷ []) (d ∷ cs) rs tag.0 tag.1 (cut_one g.0 c one) (sym (one_chunk version ended c (d ∷ cs) g.0 g.1 one) ∙ h) (one_on (is_ind g.0))
      | inr two ↦
          let low : (c + d * 2 ^ 48) % 8 ≡ tag_number g.0 = let t = tag.0 in omega arith in
          more_read version ended g.0 (c + d * 2 ^ 48) (c ∷ d ∷ []) cs rs low tag.1 (cut_two g.0 c d two s) (sym (two_chunks version ended c d cs g.0 g.1 two) ∙ h) (two_on (is_ind g.0))
    ]

-- the records that were read are those of the chunks
pub records_read : (version : ℕ) (ended : Bool) (cs : List ℕ) (rs : List RouteRec) → ((i : ℕ) → slice_index cs i < 2 ^ 48) → records_in version ended cs ≡ Ok rs → Chunked version ended cs rs
records_read version ended [] rs s h = nothing_read version ended rs h
records_read version ended (c ∷ []) rs s h = last_read version ended c rs h
records_read version ended (c ∷ d ∷ cs) rs s h =
    next_read version ended c d cs rs (s 0) h (λ e ss g. records_read version e (d ∷ cs) ss (λ i. s (suc i)) g) (λ e ss g. records_read version e cs ss (λ i. s (suc (suc i))) g)

-- and the chunks of records give them again
word_tag : (r : RouteRec) → word_of r % 8 ≡ tag_number (tag_of r)
word_tag (Urm1 tile thread key) = omega arith
word_tag (Urm2 tile thread key) = omega arith
word_tag (Rr dir key) = omega arith
word_tag (Mrm tile key mask) = omega arith
word_tag (Ind key) = omega arith

first_written : (version : ℕ) (r : RouteRec) (cs : List ℕ) (rs : List RouteRec) → fits r ≡ true → (version ≡ 1 → is_urm2 (tag_of r) ≡ false) → records_in version (is_ind (tag_of r)) cs ≡ Ok rs → records_in version false (record_chunks r ++ cs) ≡ Ok (r ∷ rs)
first_written version r cs rs h v e =
    let small = word_below r h in
    let tag = word_tag r in
    let on : with_record false (tag_of r) (word_of r) (records_in version (is_ind (tag_of r)) cs) ≡ Ok (r ∷ rs) =
    goes_on (tag_of r) (word_of r) (records_in version (is_ind (tag_of r)) cs) small ∙ ap (before (record_in (tag_of r) (word_of r))) e ∙ ap (λ q. Ok (q ∷ rs)) (record_back r h) in
    elim (one_or_two (tag_of r)) [
      | inl one ↦
          ap (λ xs. records_in version false (xs ++ cs)) (cut_one (tag_of r) (word_of r) one) ∙ one_chunk version false (word_of r) cs (tag_of r) (is_tag version (word_of r) (tag_of r) tag v) one ∙ on
      | inr two ↦
          let low : word_of r % 2 ^ 48 % 8 ≡ tag_number (tag_of r) = omega arith in
          let whole : word_of r % 2 ^ 48 + word_of r / 2 ^ 48 * 2 ^ 48 ≡ word_of r = omega arith in
          let parts : cut (chunks (tag_of r)) (word_of r) ≡ (word_of r % 2 ^ 48) ∷ (word_of r / 2 ^ 48) ∷ [] = rw two refl in
          ap (λ xs. records_in version false (xs ++ cs)) parts ∙ two_chunks version false (word_of r % 2 ^ 48) (word_of r / 2 ^ 48) cs (tag_of r) (is_tag version (word_of r % 2 ^ 48) (tag_of r) low v) two
          ∙ ap (λ w. with_record false (tag_of r) w (records_in version (is_ind (tag_of r)) cs)) whole ∙ on
    ]

pub records_written : (version : ℕ) (rs : List RouteRec) (ended : Bool) → list_all fits rs ≡ true → tail_ends rs ≡ true → (version ≡ 1 → lacks_urm2 rs ≡ true) → (ended ≡ true → rs ≡ []) → records_in version ended (flat_map record_chunks rs) ≡ Ok rs
records_written version [] ended h e v f = refl
records_written version (r ∷ rs) true h e v f = absurd (let none = f refl in cc)
records_written version (r ∷ rs) false h e v f =
    first_written version r (flat_map record_chunks rs) rs (and_parts _ _ h).0 (λ i. not-true _ (and_parts _ _ (v i)).0)
    (records_written version rs (is_ind (tag_of r)) (and_parts _ _ h).1 (tail_on r rs e) (λ i. (and_parts _ _ (v i)).1) (tail_last r rs e)) where
      tail_on : (r : RouteRec) (rs : List RouteRec) → tail_ends (r ∷ rs) ≡ true → tail_ends rs ≡ true
      tail_on r [] e = refl
      tail_on r (s ∷ rs) e = (and_parts _ _ e).1

      tail_last : (r : RouteRec) (rs : List RouteRec) → tail_ends (r ∷ rs) ≡ true → is_ind (tag_of r) ≡ true → rs ≡ []
      tail_last r [] e i = refl
      tail_last r (s ∷ rs) e i = absurd (true≢false (sym i ∙ not-true _ (and_parts _ _ e).0))
