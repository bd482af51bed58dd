-- Reading records one after the other.
use Rattle.std.proofs.Common.{ℕ, ◌≡◌, ◌≤◌, ◌<◌, ◌+◌, ◌-◌, ◌*◌, ◌^◌, Bool, true, false, not, cond, eqb, List, [], ◌∷◌, ◌++◌, drop, take, length, refl, ap, sym, ◌∙◌, arith, append_assoc, ◌⊎◌, inl, inr, ◌&&◌}
use Rattle.std.specs.Prelude.{slice_index}
use Rattle.std.specs.List.{list_all}
use Rattle.std.specs.declared.option.Option.TheVariants.{Some, None}
use Rattle.std.specs.declared.result.Result.{Result}
use Rattle.std.specs.declared.result.Result.TheVariants.{Ok, Err}
use Rattle.std.proofs.lemmas.Bool.{le-ltb, lt-ltb}
use Rattle.std.proofs.lemmas.Bool.Decides.{nat_tests}
use Rattle.std.proofs.lemmas.List.Sums.{sum_by_push}
use Rattle.std.proofs.lemmas.List.{length-drop, take_all, drop_more, drop_all}
use Rattle.tn_keys.specs.declared.beat.BeatFault.{BeatFault}
use Rattle.tn_keys.specs.declared.beat.BeatFault.TheVariants as fault
use Rattle.tn_keys.specs.declared.record.RouteRec.{RouteRec}
use Rattle.tn_keys.specs.declared.record.Tag.{Tag}
use Rattle.tn_keys.specs.declared.record.Tag.TheVariants as tag
use Rattle.tn_keys.specs.Record.{chunks, end_of, fits, is_ind, record_in, tag_of}
use Rattle.tn_keys.specs.Beat.{chunks_of, lacks_ind}
use Rattle.byteorder.specs.Endian.{little_number}
use Rattle.tn_keys.specs.Read.{beat_of, before, chunks_in, records_in, tag_in, with_record, word_at}

-- records in front of what is read behind them
abbrev pub joined : List RouteRec → Result (List RouteRec) BeatFault → Result (List RouteRec) BeatFault
joined rs (Ok ss) = Ok (rs ++ ss)
joined rs (Err f) = Err f

pub joined-before : (rs : List RouteRec) (r : RouteRec) (x : Result (List RouteRec) BeatFault) → joined rs (before r x) ≡ joined (rs ++ r ∷ []) x
joined-before rs r (Ok ss) = ap Ok (sym (append_assoc rs (r ∷ []) ss))
joined-before rs r (Err f) = refl

pub joined-nil : (x : Result (List RouteRec) BeatFault) → joined [] x ≡ x
joined-nil (Ok ss) = refl
joined-nil (Err f) = refl

list_all_push : (p : RouteRec → Bool) (rs : List RouteRec) (r : RouteRec) → list_all p (rs ++ r ∷ []) ≡ (list_all p rs && p r)
list_all_push p [] r = and_true (p r) where
  and_true : (b : Bool) → (b && true) ≡ b
  and_true true = refl
  and_true false = refl
list_all_push p (s ∷ rs) r = ap (λ b. p s && b) (list_all_push p rs r) ∙ assoc (p s) (list_all p rs) (p r) where
  assoc : (a b c : Bool) → (a && (b && c)) ≡ ((a && b) && c)
  assoc true b c = refl
  assoc false b c = refl

pub tag_of_read : (t : Tag) (w : ℕ) → tag_of (record_in t w) ≡ t
tag_of_read tag.Urm1 w = refl
tag_of_read tag.Urm2 w = refl
tag_of_read tag.Rr w = refl
tag_of_read tag.Mrm w = refl
tag_of_read tag.Ind w = refl

pub fits_read : (t : Tag) (w : ℕ) → fits (record_in t w) ≡ true
fits_read tag.Urm1 w = grind (arith, nat_tests)
fits_read tag.Urm2 w = grind (arith, nat_tests)
fits_read tag.Rr w = grind (arith, nat_tests)
fits_read tag.Mrm w = grind (arith, nat_tests)
fits_read tag.Ind w = grind (arith, nat_tests)

-- the rest of the chunks begins with no tag
pub no_tag : (version : ℕ) (ended : Bool) (c : ℕ) (cs : List ℕ) → tag_in version c ≡ None → records_in version ended (c ∷ cs) ≡ Err fault.Tag
no_tag version ended c [] h = rw h refl
no_tag version ended c (d ∷ cs) h = rw h refl

pub one_chunk : (version : ℕ) (ended : Bool) (c : ℕ) (cs : List ℕ) (t : Tag) → tag_in version c ≡ Some t → chunks t ≡ 1 → records_in version ended (c ∷ cs) ≡ with_record ended t c (records_in version (is_ind t) cs)
one_chunk version ended c [] t h one = rw (h, one) refl
one_chunk version ended c (d ∷ cs) t h one = rw (h, one) refl

pub two_chunks : (version : ℕ) (ended : Bool) (c d : ℕ) (cs : List ℕ) (t : Tag) → tag_in version c ≡ Some t → chunks t ≡ 2 → records_in version ended (c ∷ d ∷ cs) ≡ with_record ended t (c + d * 2 ^ 48) (records_in version (is_ind t) cs)
two_chunks version ended c d cs t h two = rw (h, two) refl

pub last_chunk : (version : ℕ) (ended : Bool) (c : ℕ) (t : Tag) → tag_in version c ≡ Some t → chunks t ≡ 2 → records_in version ended (c ∷ []) ≡ Err fault.Chunk
last_chunk version ended c t h two = rw (h, two) refl

stepped_one : (version : ℕ) (ended : Bool) (cs : List ℕ) (at : ℕ) (t : Tag) → tag_in version (slice_index cs at) ≡ Some t → chunks t ≡ 1 → at + 1 ≤ length cs → records_in version ended (drop at cs) ≡ with_record ended t (slice_index cs at) (records_in version (is_ind t) (drop (at + 1) cs))
stepped_one version ended cs at t h one l =
    ap (records_in version ended) (drop_more cs at 0 (omega arith)) ∙ one_chunk version ended (slice_index cs at) (drop (at + 1) cs) t h one

stepped_two : (version : ℕ) (ended : Bool) (cs : List ℕ) (at : ℕ) (t : Tag) → tag_in version (slice_index cs at) ≡ Some t → chunks t ≡ 2 → at + 2 ≤ length cs → records_in version ended (drop at cs) ≡ with_record ended t (slice_index cs at + slice_index cs (at + 1) * 2 ^ 48) (records_in version (is_ind t) (drop (at + 2) cs))
stepped_two version ended cs at t h two l =
    let next : drop (at + 1) cs ≡ slice_index cs (at + 1) ∷ drop (at + 2) cs = let e : at + 2 ≡ at + 1 + 1 = omega arith in rw e (drop_more cs (at + 1) 0 (omega arith)) in
    ap (records_in version ended) (drop_more cs at 0 (omega arith) ∙ ap (λ xs. slice_index cs at ∷ xs) next)
    ∙ two_chunks version ended (slice_index cs at) (slice_index cs (at + 1)) (drop (at + 2) cs) t h two

by_size : (version : ℕ) (ended : Bool) (cs : List ℕ) (at size : ℕ) (t : Tag) → tag_in version (slice_index cs at) ≡ Some t → size ≡ chunks t → at + size ≤ length cs → (chunks t ≡ 1) ⊎ (chunks t ≡ 2) → records_in version ended (drop at cs) ≡ with_record ended t (word_at cs at size) (records_in version (is_ind t) (drop (at + size) cs))
by_size version ended cs at size t h s l (inl one) =
    let e : size ≡ 1 = omega arith in rw e (stepped_one version ended cs at t h one (omega arith))
by_size version ended cs at size t h s l (inr two) =
    let e : size ≡ 2 = omega arith in rw e (stepped_two version ended cs at t h two (omega arith))

pub one_or_two : (t : Tag) → (chunks t ≡ 1) ⊎ (chunks t ≡ 2)
one_or_two tag.Urm1 = inl refl
one_or_two tag.Urm2 = inr refl
one_or_two tag.Rr = inl refl
one_or_two tag.Mrm = inr refl
one_or_two tag.Ind = inl refl

-- the record at a place, and what is read behind it
pub stepped : (version : ℕ) (ended : Bool) (cs : List ℕ) (at size : ℕ) (t : Tag) → tag_in version (slice_index cs at) ≡ Some t → size ≡ chunks t → at + size ≤ length cs → records_in version ended (drop at cs) ≡ with_record ended t (word_at cs at size) (records_in version (is_ind t) (drop (at + size) cs))
stepped version ended cs at size t h s l = by_size version ended cs at size t h s l (one_or_two t)

pub stops_tag : (version : ℕ) (ended : Bool) (cs : List ℕ) (at : ℕ) (rs : List RouteRec) (x : Result (List RouteRec) BeatFault) → joined rs (records_in version ended (drop at cs)) ≡ x → at < length cs → tag_in version (slice_index cs at) ≡ None → Err fault.Tag ≡ x
stops_tag version ended cs at rs x so l h =
    sym (ap (joined rs) (ap (records_in version ended) (drop_more cs at 0 l) ∙ no_tag version ended (slice_index cs at) (drop (at + 1) cs) h)) ∙ so

pub stops_chunk : (version : ℕ) (ended : Bool) (cs : List ℕ) (at size : ℕ) (t : Tag) (rs : List RouteRec) (x : Result (List RouteRec) BeatFault) → joined rs (records_in version ended (drop at cs)) ≡ x → at < length cs → tag_in version (slice_index cs at) ≡ Some t → size ≡ chunks t → length cs < at + size → Err fault.Chunk ≡ x
stops_chunk version ended cs at size t rs x so l h s long =
    let two : chunks t ≡ 2 = elim (one_or_two t) [ inl one ↦ absurd (omega arith) | inr two ↦ two ] in
    let none : drop (at + 1) cs ≡ [] = drop_all (at + 1) cs (omega arith) in
    sym (ap (joined rs) (ap (records_in version ended) (drop_more cs at 0 l ∙ ap (λ xs. slice_index cs at ∷ xs) none) ∙ last_chunk version ended (slice_index cs at) t h two)) ∙ so

-- what a record makes of what is read behind it
stops_unused : (ended : Bool) (t : Tag) (w : ℕ) (x : Result (List RouteRec) BeatFault) → 2 ^ end_of t ≤ w → with_record ended t w x ≡ Err fault.Unused
stops_unused ended t w x h = rw (le-ltb w (2 ^ end_of t) h) refl

stops_ended : (t : Tag) (w : ℕ) (x : Result (List RouteRec) BeatFault) → w < 2 ^ end_of t → with_record true t w x ≡ Err fault.AfterInd
stops_ended t w x h = rw (lt-ltb w (2 ^ end_of t) h) refl

pub goes_on : (t : Tag) (w : ℕ) (x : Result (List RouteRec) BeatFault) → w < 2 ^ end_of t → with_record false t w x ≡ before (record_in t w) x
goes_on t w x h = rw (lt-ltb w (2 ^ end_of t) h) refl

pub unused : (version : ℕ) (ended : Bool) (cs : List ℕ) (at size : ℕ) (t : Tag) (rs : List RouteRec) (x : Result (List RouteRec) BeatFault) → joined rs (records_in version ended (drop at cs)) ≡ x → tag_in version (slice_index cs at) ≡ Some t → size ≡ chunks t → at + size ≤ length cs → 2 ^ end_of t ≤ word_at cs at size → Err fault.Unused ≡ x
unused version ended cs at size t rs x so h s l big =
    sym (ap (joined rs) (stepped version ended cs at size t h s l ∙ stops_unused ended t (word_at cs at size) (records_in version (is_ind t) (drop (at + size) cs)) big)) ∙ so

pub after_ind : (version : ℕ) (ended : Bool) (cs : List ℕ) (at size : ℕ) (t : Tag) (rs : List RouteRec) (x : Result (List RouteRec) BeatFault) → joined rs (records_in version ended (drop at cs)) ≡ x → ended ≡ true → tag_in version (slice_index cs at) ≡ Some t → size ≡ chunks t → at + size ≤ length cs → word_at cs at size < 2 ^ end_of t → Err fault.AfterInd ≡ x
after_ind version ended cs at size t rs x so e h s l small =
    sym (ap (joined rs) (stepped version ended cs at size t h s l ∙ ap (λ b. with_record b t (word_at cs at size) (records_in version (is_ind t) (drop (at + size) cs))) e ∙ stops_ended t (word_at cs at size) (records_in version (is_ind t) (drop (at + size) cs)) small)) ∙ so

pub next_record : (version : ℕ) (ended : Bool) (cs : List ℕ) (at size : ℕ) (t : Tag) (rs : List RouteRec) (x : Result (List RouteRec) BeatFault) → joined rs (records_in version ended (drop at cs)) ≡ x → ended ≡ false → tag_in version (slice_index cs at) ≡ Some t → size ≡ chunks t → at + size ≤ length cs → word_at cs at size < 2 ^ end_of t → joined (rs ++ record_in t (word_at cs at size) ∷ []) (records_in version (is_ind t) (drop (at + size) cs)) ≡ x
next_record version ended cs at size t rs x so e h s l small =
    sym (joined-before rs (record_in t (word_at cs at size)) (records_in version (is_ind t) (drop (at + size) cs)))
    ∙ sym (ap (joined rs) (stepped version ended cs at size t h s l ∙ ap (λ b. with_record b t (word_at cs at size) (records_in version (is_ind t) (drop (at + size) cs))) e ∙ goes_on t (word_at cs at size) (records_in version (is_ind t) (drop (at + size) cs)) small)) ∙ so

-- the record more keeps what a beat asks
pub fit_more : (t : Tag) (w : ℕ) (rs : List RouteRec) → list_all fits rs ≡ true → list_all fits (rs ++ record_in t w ∷ []) ≡ true
fit_more t w rs h = list_all_push fits rs (record_in t w) ∙ rw (h, fits_read t w) refl

pub chunks_more : (t : Tag) (w : ℕ) (rs : List RouteRec) (size at : ℕ) → size ≡ chunks t → chunks_of rs ≡ at → chunks_of (rs ++ record_in t w ∷ []) ≡ at + size
chunks_more t w rs size at s e =
    let more = sum_by_push (λ r. chunks (tag_of r)) rs (record_in t w) in
    let same : chunks (tag_of (record_in t w)) ≡ chunks t = ap chunks (tag_of_read t w) in
    omega arith

pub ended_more : (t : Tag) (w : ℕ) (rs : List RouteRec) → lacks_ind rs ≡ true → lacks_ind (rs ++ record_in t w ∷ []) ≡ not (is_ind t)
ended_more t w rs h = list_all_push (λ r. not (is_ind (tag_of r))) rs (record_in t w) ∙ rw (h, tag_of_read t w) refl

-- the beat of bytes whose chunks in use give records
pub beat_by_spare : (version : ℕ) (bytes : List ℕ) (rs : List RouteRec) (b : Bool) (used : ℕ) (cs : List ℕ) → used ≡ little_number 2 bytes → cs ≡ chunks_in bytes → used ≤ 5 → records_in version false (take used cs) ≡ Ok rs → list_all (λ c. eqb c 0) (take (5 - used) (drop used cs)) ≡ b → beat_of version bytes ≡ cond b (Ok rs) (Err fault.Unused)
beat_by_spare version bytes rs b used cs u w few h e =
    let long : length cs ≡ 5 = ap length w in
    let whole : take (5 - used) (drop used cs) ≡ drop used cs = take_all (5 - used) (drop used cs) (omega (arith, length-drop used cs)) in
    rw (← u, ← w, le-ltb 5 used few, h, ← whole, e) refl
