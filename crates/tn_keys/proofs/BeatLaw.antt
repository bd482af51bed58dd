-- The 32 bytes of a beat, and no others, are read as it.
use Rattle.std.proofs.Common.{ℕ, zero, suc, ◌≡◌, ◌≤◌, ◌<◌, ◌-◌, ◌*◌, ◌^◌, ◌/◌, ◌%◌, Bool, true, false, cond, eqb, ltb, IsTrue, List, [], ◌∷◌, ◌++◌, drop, take, replicate, length, slice_index, refl, ap, sym, ◌∙◌, arith, inl, inr}
use Rattle.std.specs.Prelude.{◌↔◌}
use Rattle.std.specs.List.{flat_map, list_all}
use Rattle.std.specs.declared.result.Result.{Result}
use Rattle.std.specs.declared.result.Result.TheVariants.{Ok, Err}
use Rattle.std.proofs.lemmas.Bool.{and_parts, eqb-true, le-ltb, ltb-false}
use Rattle.std.proofs.lemmas.List.{drop_at, length-append, length-drop, length-replicate, length-take-le, take-append-drop, take_at}
use Rattle.byteorder.specs.Endian.{little_number}
use Rattle.tn_keys.specs.declared.beat.BeatFault.{BeatFault}
use Rattle.tn_keys.specs.declared.beat.BeatFault.TheVariants as fault
use Rattle.tn_keys.specs.declared.record.RouteRec.{RouteRec}
use Rattle.tn_keys.specs.Record.{chunks, fits, tag_of, word_of}
use Rattle.tn_keys.specs.Beat.{chunks_of, is_beat, lacks_urm2}
use Rattle.tn_keys.specs.Read.{beat_of, chunks_in, records_in, with_spare}
use Rattle.tn_keys.specs.Written.{beat_chunks, bytes_with, cut, record_chunks, written}
use Rattle.tn_keys.proofs.Beats.{beat_ends, beat_few, beat_fits, beat_from}
use Rattle.tn_keys.proofs.BytesBack.{beat_bytes_back, chunk_small, chunks_back, count_back}
use Rattle.tn_keys.proofs.Reading.{one_or_two}
use Rattle.tn_keys.proofs.RoundTrip.{records_read, records_written, tail_ends-is}
use Rattle.tn_keys.proofs.Writing.{length-all_chunks, word_fits}

zeros : (xs : List ℕ) → list_all (λ c. eqb c 0) xs ≡ true → xs ≡ replicate (length xs) 0
zeros [] h = refl
zeros (x ∷ xs) h = let first = eqb-true x 0 (and_parts _ _ h).0 in let rest = zeros xs (and_parts _ _ h).1 in cc

all_zeros : (n : ℕ) → list_all (λ c. eqb c 0) (replicate n 0) ≡ true
all_zeros zero = refl
all_zeros (suc n) = all_zeros n

abbrev Small : List ℕ → Type 0
Small xs = (i : ℕ) → slice_index xs i < 2 ^ 48

small_nil : Small []
small_nil i = omega arith

small_cons : (x : ℕ) (xs : List ℕ) → x < 2 ^ 48 → Small xs → Small (x ∷ xs)
small_cons x xs h s zero = h
small_cons x xs h s (suc i) = s i

small_append : (xs ys : List ℕ) → Small xs → Small ys → Small (xs ++ ys)
small_append [] ys s q i = q i
small_append (x ∷ xs) ys s q zero = s 0
small_append (x ∷ xs) ys s q (suc i) = small_append xs ys (λ j. s (suc j)) q i

small_zeros : (n : ℕ) → Small (replicate n 0)
small_zeros zero i = omega arith
small_zeros (suc n) zero = omega arith
small_zeros (suc n) (suc i) = small_zeros n i

small_take : (n : ℕ) (xs : List ℕ) → Small xs → Small (take n xs)
small_take zero xs s i = omega arith
small_take (suc n) [] s i = omega arith
small_take (suc n) (x ∷ xs) s zero = s 0
small_take (suc n) (x ∷ xs) s (suc i) = small_take n xs (λ j. s (suc j)) i

small_five : (a b c d e : ℕ) → a < 2 ^ 48 → b < 2 ^ 48 → c < 2 ^ 48 → d < 2 ^ 48 → e < 2 ^ 48 → Small (a ∷ b ∷ c ∷ d ∷ e ∷ [])
small_five a b c d e sa sb sc sd se =
    small_cons a (b ∷ c ∷ d ∷ e ∷ []) sa (small_cons b (c ∷ d ∷ e ∷ []) sb (small_cons c (d ∷ e ∷ []) sc (small_cons d (e ∷ []) sd (small_cons e [] se small_nil))))

small_read : (bytes : List ℕ) → ((i : ℕ) → slice_index bytes i < 256) → Small (chunks_in bytes)
small_read bytes s =
    small_five (little_number 6 (drop 2 bytes)) (little_number 6 (drop 8 bytes)) (little_number 6 (drop 14 bytes)) (little_number 6 (drop 20 bytes)) (little_number 6 (drop 26 bytes))
    (chunk_small bytes s 2) (chunk_small bytes s 8) (chunk_small bytes s 14) (chunk_small bytes s 20) (chunk_small bytes s 26)

small_record : (r : RouteRec) → fits r ≡ true → Small (record_chunks r)
small_record r h =
    let w = word_fits r h in
    elim (one_or_two (tag_of r)) [
      | inl one ↦
          let e : cut (chunks (tag_of r)) (word_of r) ≡ word_of r ∷ [] = rw one refl in
          let small : word_of r < 2 ^ (48 * 1) = rw one at w in
          let low : word_of r < 2 ^ 48 = omega arith in
          rw e (small_cons (word_of r) [] low small_nil)
      | inr two ↦
          let e : cut (chunks (tag_of r)) (word_of r) ≡ (word_of r % 2 ^ 48) ∷ (word_of r / 2 ^ 48) ∷ [] = rw two refl in
          let small : word_of r < 2 ^ (48 * 2) = rw two at w in
          let low : word_of r % 2 ^ 48 < 2 ^ 48 = omega arith in
          let high : word_of r / 2 ^ 48 < 2 ^ 48 = omega arith in
          rw e (small_cons (word_of r % 2 ^ 48) ((word_of r / 2 ^ 48) ∷ []) low (small_cons (word_of r / 2 ^ 48) [] high small_nil))
    ]

small_records : (rs : List RouteRec) → list_all fits rs ≡ true → Small (flat_map record_chunks rs)
small_records [] h = small_nil
small_records (r ∷ rs) h = small_append (record_chunks r) (flat_map record_chunks rs) (small_record r (and_parts _ _ h).0) (small_records rs (and_parts _ _ h).1)

spare_ok : (clear : Bool) (x : Result (List RouteRec) BeatFault) (rs : List RouteRec) → with_spare clear x ≡ Ok rs → (clear ≡ true) × (x ≡ Ok rs)
spare_ok true (Ok ss) rs h = (refl, h)
spare_ok false (Ok ss) rs h = absurd (cc)
spare_ok clear (Err f) rs h = absurd (cc)

count_ok : (many clear : Bool) (x : Result (List RouteRec) BeatFault) (rs : List RouteRec) → cond many (Err fault.Count) (with_spare clear x) ≡ Ok rs → (many ≡ false) × (clear ≡ true) × (x ≡ Ok rs)
count_ok true clear x rs h = absurd (cc)
count_ok false clear x rs h = let s = spare_ok clear x rs h in (refl, s.0, s.1)

-- what was read is a beat, and the bytes are its own
pub read_only : (version : ℕ) (bytes : List ℕ) (rs : List RouteRec) → length bytes ≡ 32 → ((i : ℕ) → slice_index bytes i < 256) → beat_of version bytes ≡ Ok rs → IsTrue (is_beat rs) × (version ≡ 1 → IsTrue (lacks_urm2 rs)) × (bytes ≡ written rs)
read_only version bytes rs long small h =
    let g = count_ok (ltb 5 (little_number 2 bytes)) (list_all (λ c. eqb c 0) (drop (little_number 2 bytes) (chunks_in bytes))) (records_in version false (take (little_number 2 bytes) (chunks_in bytes))) rs h in
    let few = ltb-false 5 (little_number 2 bytes) g.0 in
    let q = records_read version false (take (little_number 2 bytes) (chunks_in bytes)) rs (small_take (little_number 2 bytes) (chunks_in bytes) (small_read bytes small)) g.2 in
    let five : length (chunks_in bytes) ≡ 5 = refl in
    let count : chunks_of rs ≡ little_number 2 bytes = sym (length-all_chunks rs) ∙ ap length q.whole ∙ length-take-le (little_number 2 bytes) (chunks_in bytes) (omega arith) in
    let rest : replicate (5 - little_number 2 bytes) 0 ≡ drop (little_number 2 bytes) (chunks_in bytes) =
    sym (zeros (drop (little_number 2 bytes) (chunks_in bytes)) g.1 ∙ ap (λ n. replicate n 0) (length-drop (little_number 2 bytes) (chunks_in bytes))) in
    let same : beat_chunks rs ≡ chunks_in bytes =
    ap (λ n. flat_map record_chunks rs ++ replicate (5 - n) 0) count ∙ ap (λ xs. xs ++ replicate (5 - little_number 2 bytes) 0) q.whole ∙ ap (λ xs. take (little_number 2 bytes) (chunks_in bytes) ++ xs) rest
    ∙ take-append-drop (little_number 2 bytes) (chunks_in bytes) in
    (beat_from rs (omega arith) q.fit (sym (tail_ends-is rs) ∙ q.ends), q.plain, sym (ap (λ n. bytes_with n (beat_chunks rs)) count ∙ ap (bytes_with (little_number 2 bytes)) same ∙ beat_bytes_back bytes small long))

-- what was written is read
pub read_written : (version : ℕ) (rs : List RouteRec) → IsTrue (is_beat rs) → (version ≡ 1 → IsTrue (lacks_urm2 rs)) → beat_of version (written rs) ≡ Ok rs
read_written version rs h v =
    let few = beat_few rs h in
    let fit = beat_fits rs h in
    let all = length-all_chunks rs in
    let five : length (beat_chunks rs) ≡ 5 = omega (arith, length-append (flat_map record_chunks rs) (replicate (5 - chunks_of rs) 0), length-replicate {A = ℕ} (5 - chunks_of rs) 0) in
    let small : Small (beat_chunks rs) = small_append (flat_map record_chunks rs) (replicate (5 - chunks_of rs) 0) (small_records rs fit) (small_zeros (5 - chunks_of rs)) in
    let count : little_number 2 (written rs) ≡ chunks_of rs = count_back (chunks_of rs) (beat_chunks rs) (omega arith) in
    let same : chunks_in (written rs) ≡ beat_chunks rs = chunks_back (chunks_of rs) (beat_chunks rs) five small in
    let front : take (chunks_of rs) (beat_chunks rs) ≡ flat_map record_chunks rs = take_at (flat_map record_chunks rs) (replicate (5 - chunks_of rs) 0) (chunks_of rs) all in
    let back : drop (chunks_of rs) (beat_chunks rs) ≡ replicate (5 - chunks_of rs) 0 = drop_at (flat_map record_chunks rs) (replicate (5 - chunks_of rs) 0) (chunks_of rs) all in
    let read : records_in version false (flat_map record_chunks rs) ≡ Ok rs = records_written version rs false fit (tail_ends-is rs ∙ beat_ends rs h) v (λ i. absurd (cc)) in
    by_parts version (little_number 2 (written rs)) (chunks_in (written rs)) (chunks_of rs) (beat_chunks rs) (flat_map record_chunks rs) rs count same few front (ap (list_all (λ c. eqb c 0)) back ∙ all_zeros (5 - chunks_of rs)) read where
      by_parts : (version used : ℕ) (cs : List ℕ) (n : ℕ) (ds xs : List ℕ) (rs : List RouteRec) → used ≡ n → cs ≡ ds → n ≤ 5 → take n ds ≡ xs → list_all (λ c. eqb c 0) (drop n ds) ≡ true → records_in version false xs ≡ Ok rs
          → cond (ltb 5 used) (Err fault.Count) (with_spare (list_all (λ c. eqb c 0) (drop used cs)) (records_in version false (take used cs))) ≡ Ok rs
      by_parts version used cs n ds xs rs u w few front back read = rw (u, w, le-ltb 5 n few, front, back, read) refl

pub beat_law : (version : ℕ) (bytes : List ℕ) (rs : List RouteRec) → length bytes ≡ 32 → ((i : ℕ) → slice_index bytes i < 256) → (beat_of version bytes ≡ Ok rs) ↔ (IsTrue (is_beat rs) × (version ≡ 1 → IsTrue (lacks_urm2 rs)) × (bytes ≡ written rs))
beat_law version bytes rs long small = (read_only version bytes rs long small, λ h. ap (beat_of version) h.2 ∙ read_written version rs h.0 h.1)
