-- Writing records one after the other.
use Rattle.std.proofs.Common.{ℕ, zero, suc, ◌≡◌, ◌≤◌, ◌<◌, ◌+◌, ◌-◌, ◌*◌, ◌^◌, true, IsTrue, List, [], ◌∷◌, ◌++◌, drop, get_or, take, replicate, length, refl, ap, sym, ◌∙◌, arith}
use Rattle.std.specs.List.{flat_map, list_all}
use Rattle.std.proofs.lemmas.Bool.{and_parts}
use Rattle.std.proofs.lemmas.Bool.Decides.{nat_tests}
use Rattle.std.proofs.lemmas.Grind.{flat_map-append}
use Rattle.std.proofs.lemmas.List.{append-nil, drop-drop, drop-replicate, drop_at, length-append, take_at, take_more}
use Rattle.std.proofs.lemmas.List.Sums.{sum_by-take-le, sum_by_push}
use Rattle.tn_keys.specs.declared.record.RouteRec.{RouteRec}
use Rattle.tn_keys.specs.declared.record.RouteRec.TheVariants.{Urm1, Urm2, Rr, Mrm, Ind}
use Rattle.tn_keys.specs.Record.{chunks, end_of, fits, tag_of, word_of}
use Rattle.tn_keys.specs.Beat.{chunks_of, is_beat}
use Rattle.tn_keys.specs.Written.{beat_chunks, cut, record_chunks}
use Rattle.tn_keys.proofs.Beats.{beat_few, chunks_of-cons}

-- a record whose fields fit has no bit behind them
pub word_below : (r : RouteRec) → fits r ≡ true → word_of r < 2 ^ end_of (tag_of r)
word_below (Urm1 tile thread key) h = grind (arith, nat_tests)
word_below (Urm2 tile thread key) h = grind (arith, nat_tests)
word_below (Rr dir key) h = grind (arith, nat_tests)
word_below (Mrm tile key mask) h = grind (arith, nat_tests)
word_below (Ind key) h = grind (arith, nat_tests)

-- and its number fits its chunks
pub word_fits : (r : RouteRec) → fits r ≡ true → word_of r < 2 ^ (48 * chunks (tag_of r))
word_fits (Urm1 tile thread key) h = let small = word_below (Urm1 tile thread key) h in omega arith
word_fits (Urm2 tile thread key) h = let small = word_below (Urm2 tile thread key) h in omega arith
word_fits (Rr dir key) h = let small = word_below (Rr dir key) h in omega arith
word_fits (Mrm tile key mask) h = let small = word_below (Mrm tile key mask) h in omega arith
word_fits (Ind key) h = let small = word_below (Ind key) h in omega arith

length-record_chunks : (r : RouteRec) → length (record_chunks r) ≡ chunks (tag_of r)
length-record_chunks (Urm1 tile thread key) = refl
length-record_chunks (Urm2 tile thread key) = refl
length-record_chunks (Rr dir key) = refl
length-record_chunks (Mrm tile key mask) = refl
length-record_chunks (Ind key) = refl

pub length-all_chunks : (rs : List RouteRec) → length (flat_map record_chunks rs) ≡ chunks_of rs
length-all_chunks [] = refl
length-all_chunks (r ∷ rs) =
    let here = length-record_chunks r in let rest = length-all_chunks rs in let sum = chunks_of-cons r rs in
    omega (arith, length-append (record_chunks r) (flat_map record_chunks rs))

-- the chunks of one record more
pub chunks_put : (rs : List RouteRec) (r : RouteRec) (cs : List ℕ) (used size : ℕ) → cs ≡ beat_chunks rs → used ≡ chunks_of rs → size ≡ chunks (tag_of r) → used + size ≤ 5 → take used cs ++ cut size (word_of r) ++ drop (used + size) cs ≡ beat_chunks (rs ++ r ∷ [])
chunks_put rs r cs used size e u s few =
    let long = length-all_chunks rs in
    let front : take used cs ≡ flat_map record_chunks rs = ap (take used) e ∙ take_at (flat_map record_chunks rs) (replicate (5 - chunks_of rs) 0) used (omega arith) in
    let back : drop (used + size) cs ≡ replicate (5 - chunks_of (rs ++ r ∷ [])) 0 =
    let more = sum_by_push (λ q. chunks (tag_of q)) rs r in
    let count : 5 - chunks_of rs - size ≡ 5 - chunks_of (rs ++ r ∷ []) = omega arith in
    sym (drop-drop size used cs) ∙ ap (drop size) (ap (drop used) e ∙ drop_at (flat_map record_chunks rs) (replicate (5 - chunks_of rs) 0) used (omega arith))
    ∙ drop-replicate size (5 - chunks_of rs) 0 ∙ ap (λ n. replicate n 0) count in
    let all : flat_map record_chunks (rs ++ r ∷ []) ≡ flat_map record_chunks rs ++ record_chunks r = flat_map-append record_chunks rs (r ∷ []) ∙ ap (λ xs. flat_map record_chunks rs ++ xs) (append-nil (record_chunks r)) in
    rw (front, back, s, all) refl

pub chunks_room : (rs : List RouteRec) (i used size : ℕ) (d : RouteRec) → IsTrue (is_beat rs) → i < length rs → used ≡ chunks_of (take i rs) → size ≡ chunks (tag_of (get_or rs i d)) → used + size ≤ 5
chunks_room rs i used size d h l u s =
    let few = beat_few rs h in
    let part = sum_by-take-le (λ q. chunks (tag_of q)) rs (i + 1) in
    let more : chunks_of (take (i + 1) rs) ≡ chunks_of (take i rs) + chunks (tag_of (get_or rs i d)) = ap chunks_of (take_more rs i d l) ∙ sum_by_push (λ q. chunks (tag_of q)) (take i rs) (get_or rs i d) in
    omega arith

pub fits_at : (rs : List RouteRec) (i : ℕ) (d : RouteRec) → list_all fits rs ≡ true → i < length rs → fits (get_or rs i d) ≡ true
fits_at [] i d h l = absurd (omega arith)
fits_at (q ∷ rs) zero d h l = (and_parts _ _ h).0
fits_at (q ∷ rs) (suc i) d h l = fits_at rs i d (and_parts _ _ h).1 (omega arith)

pub fill_step : (rs : List RouteRec) (i : ℕ) (d : RouteRec) (cs new : List ℕ) (used size w : ℕ) → cs ≡ beat_chunks (take i rs) → used ≡ chunks_of (take i rs) → size ≡ chunks (tag_of (get_or rs i d)) → IsTrue (is_beat rs) → i < length rs → w ≡ word_of (get_or rs i d) → new ≡ take used cs ++ cut size w ++ drop (used + size) cs → (used + size ≡ chunks_of (take (i + 1) rs)) × (new ≡ beat_chunks (take (i + 1) rs))
fill_step rs i d cs new used size w so u s h l e n =
    let room = chunks_room rs i used size d h l u s in
    let more : take (i + 1) rs ≡ take i rs ++ get_or rs i d ∷ [] = take_more rs i d l in
    let sum = sum_by_push (λ q. chunks (tag_of q)) (take i rs) (get_or rs i d) in
    (rw more (omega arith), n ∙ rw e (chunks_put (take i rs) (get_or rs i d) cs used size so u s room) ∙ ap beat_chunks (sym more))
