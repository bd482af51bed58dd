-- Beats: how many records they have, and one record more.
use Rattle.std.proofs.Common.{ℕ, ◌≡◌, ◌≤◌, ◌<◌, ◌+◌, ◌-◌, true, false, IsTrue, List, [], ◌∷◌, ◌++◌, length, take, refl, ap, sym, ◌∙◌, arith}
use Rattle.std.specs.Prelude.{slice_set}
use Rattle.std.proofs.lemmas.List.{length_push, length-set, length-take-le, take_more_set}
use Rattle.std.specs.List.{list_all}
use Rattle.std.proofs.lemmas.Bool.{lt-leb, le-leb, leb-true, and_parts, and_from}
use Rattle.std.proofs.lemmas.List.Sums.{sum_by-cons}
use Rattle.tn_keys.specs.declared.record.RouteRec.{RouteRec}
use Rattle.tn_keys.specs.declared.record.Tag.{Tag}
use Rattle.tn_keys.specs.declared.record.Tag.TheVariants as tag
use Rattle.tn_keys.specs.Record.{chunks, fits, tag_of}
use Rattle.tn_keys.specs.Beat.{chunks_of, is_beat, lacks_ind}

pub chunks_some : (t : Tag) → (1 ≤ chunks t) × (chunks t ≤ 2)
chunks_some tag.Urm1 = (omega arith, omega arith)
chunks_some tag.Urm2 = (omega arith, omega arith)
chunks_some tag.Rr = (omega arith, omega arith)
chunks_some tag.Mrm = (omega arith, omega arith)
chunks_some tag.Ind = (omega arith, omega arith)

pub chunks_of-cons : (r : RouteRec) (rs : List RouteRec) → chunks_of (r ∷ rs) ≡ chunks (tag_of r) + chunks_of rs
chunks_of-cons r rs = sum_by-cons (λ s. chunks (tag_of s)) r rs

pub length_chunks : (rs : List RouteRec) → length rs ≤ chunks_of rs
length_chunks [] = omega arith
length_chunks (r ∷ rs) = let e = chunks_of-cons r rs in let some = chunks_some (tag_of r) in let rest = length_chunks rs in omega arith

pub beat_few : (rs : List RouteRec) → IsTrue (is_beat rs) → chunks_of rs ≤ 5
beat_few rs h = leb-true _ _ (and_parts _ _ (and_parts _ _ h).0).0

pub beat_short : (rs : List RouteRec) → IsTrue (is_beat rs) → length rs ≤ 5
beat_short rs h = let few = beat_few rs h in let some = length_chunks rs in omega arith

pub beat_fits : (rs : List RouteRec) → IsTrue (is_beat rs) → IsTrue (list_all fits rs)
beat_fits rs h = (and_parts _ _ (and_parts _ _ h).0).1

pub beat_ends : (rs : List RouteRec) → IsTrue (is_beat rs) → IsTrue (lacks_ind (take (length rs - 1) rs))
beat_ends rs h = (and_parts _ _ h).1

pub beat_from : (rs : List RouteRec) → chunks_of rs ≤ 5 → IsTrue (list_all fits rs) → IsTrue (lacks_ind (take (length rs - 1) rs)) → IsTrue (is_beat rs)
beat_from rs few all last = and_from _ _ (and_from _ _ (le-leb _ _ few) all) last

pub many_records : (rs : List RouteRec) → 5 < length rs → is_beat rs ≡ false
many_records rs h = let some = length_chunks rs in rw (lt-leb (chunks_of rs) 5 (omega arith)) refl

pub many_chunks : (rs : List RouteRec) → 5 < chunks_of rs → is_beat rs ≡ false
many_chunks rs h = rw (lt-leb (chunks_of rs) 5 h) refl

pub not_fit : (rs : List RouteRec) → chunks_of rs ≤ 5 → list_all fits rs ≡ false → is_beat rs ≡ false
not_fit rs few h = rw (le-leb (chunks_of rs) 5 few, h) refl

pub by_end : (rs : List RouteRec) → chunks_of rs ≤ 5 → list_all fits rs ≡ true → is_beat rs ≡ lacks_ind (take (length rs - 1) rs)
by_end rs few h = rw (le-leb (chunks_of rs) 5 few, h) refl

pub ruleset beat_tests = (many_records, many_chunks, not_fit, by_end, beat_short)

-- one record more in the array of a beat
pub push_room : (records : List RouteRec) (count : ℕ) (rs : List RouteRec) (r : RouteRec) → take count records ≡ rs → length records ≡ 5 → count ≤ 5 → IsTrue (is_beat (rs ++ r ∷ [])) → count < 5
push_room records count rs r e five few h =
    let short = beat_short (rs ++ r ∷ []) h in
    let more = length_push rs r in
    let same : length rs ≡ count = ap length (sym e) ∙ length-take-le count records (omega arith) in
    omega arith

pub pushed : (records : List RouteRec) (count : ℕ) (rs : List RouteRec) (r : RouteRec) → take count records ≡ rs → length records ≡ 5 → count ≤ 5 → IsTrue (is_beat (rs ++ r ∷ [])) → take (count + 1) (slice_set records count r) ≡ rs ++ r ∷ []
pushed records count rs r e five few h =
    let room = push_room records count rs r e five few h in
    take_more_set records count r (omega arith) ∙ ap (λ xs. xs ++ r ∷ []) e

pub push_whole : (records : List RouteRec) (count : ℕ) (rs : List RouteRec) (r : RouteRec) → take count records ≡ rs → length records ≡ 5 → count ≤ 5 → IsTrue (is_beat (rs ++ r ∷ [])) → (length (slice_set records count r) ≡ 5) × (count + 1 ≤ 5) × IsTrue (is_beat (take (count + 1) (slice_set records count r)))
push_whole records count rs r e five few h =
    let room = push_room records count rs r e five few h in
    (length-set records count r ∙ five, omega arith, rw (pushed records count rs r e five few h) h)
