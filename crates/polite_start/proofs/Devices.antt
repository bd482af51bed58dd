-- The devices of a thread, and the bytes of their states.
use Rattle.std.proofs.Common.{◌≡◌, ◌<◌, ◌≤◌, ℕ, suc, zero, ◌+◌, ◌*◌, ◌%◌, Option, IfOk, Ok, Err, Result, List, [], ◌∷◌, ◌++◌, flat_map, length, get_or, slice_get, refl, ◌∙◌, ap, arith}
use Rattle.std.proofs.lemmas.List.{length-append}
use Rattle.std.proofs.lemmas.List.Concat.{flat_map-cons}
use Rattle.std.specs.declared.alloc.AllocError.{AllocError}
use Rattle.std.specs.Int.{to_le_bytes, w32}
use Rattle.std.specs.List.{All}
use Rattle.graph_text.specs.declared.graph.Graph.{Graph}
use Rattle.graph_text.specs.declared.graph.KindRow.{KindRow}
use Rattle.graph_text.specs.declared.graph.VertexRow.{VertexRow}
use Rattle.graph_text.specs.Graph.{IsGraph, IsKind, IsVertex, words_of_kind}
use Rattle.polite_switch.specs.declared.course.Entry.{Entry}
use Rattle.polite_switch.specs.Course.{number_of}
use Rattle.polite_switch.specs.Device.{AllAligned, device_at, entry_at}
use Rattle.polite_start.specs.Start.{AreAligned, devices_from, kind_in, state_of, words_in}

pub long : (g : Graph) (keys : List (List (Option ℕ))) (entries : List (List ℕ)) (state : ℕ) (vs : List ℕ) → length (devices_from g keys entries state vs) ≡ length vs
long g keys entries state [] = refl
long g keys entries state (v ∷ vs) = let h = long g keys entries (state + length (state_of g v)) vs in omega arith

entry_aligned : (g : Graph) (keys : List (List (Option ℕ))) (entries : List (List ℕ)) (state : ℕ) (vs : List ℕ) → AreAligned entries → (d : ℕ) (e : Entry) → entry_at (device_at (devices_from g keys entries state vs) d) e % 4 ≡ 0
entry_aligned g keys entries state [] a d e = refl
entry_aligned g keys entries state (v ∷ vs) a zero e = a.each (kind_in (slice_get g.vertices v)) (number_of e)
entry_aligned g keys entries state (v ∷ vs) a (suc d) e = entry_aligned g keys entries (state + length (state_of g v)) vs a d e

pub aligned : (g : Graph) (keys : List (List (Option ℕ))) (entries : List (List ℕ)) (vs : List ℕ) → AreAligned entries → AllAligned (devices_from g keys entries 0 vs)
aligned g keys entries vs a = record { each = entry_aligned g keys entries 0 vs a }

pub word_bytes : (ws : List ℕ) → length (flat_map (to_le_bytes w32) ws) ≡ 4 * length ws
word_bytes [] = refl
word_bytes (w ∷ ws) = let h = word_bytes ws in ap length (flat_map-cons (to_le_bytes w32) w ws) ∙ omega arith

few_words : (ks : List KindRow) (kind : ℕ) → All IsKind ks → words_of_kind (slice_get ks kind) ≤ 16
few_words [] kind a = omega arith
few_words (k ∷ ks) zero a = let d = a 0 k (omega arith) in d.words
few_words (k ∷ ks) (suc i) a = few_words ks i (λ j d l. a (suc j) d (omega arith))

words_small : (g : Graph) (vs : List VertexRow) (v : ℕ) → All IsKind g.kinds → All (IsVertex g) vs → length (words_in (slice_get vs v)) ≤ 16
words_small g [] v ks h = omega arith
words_small g (x ∷ xs) zero ks h = let d = h 0 x (omega arith) in let e = d.words in let f = few_words g.kinds x.kind ks in omega arith
words_small g (x ∷ xs) (suc v) ks h = words_small g xs v ks (λ j d l. h (suc j) d (omega arith))

-- the state of a vertex has at most 64 bytes
pub small : (g : Graph) (v : ℕ) → IsGraph g → length (state_of g v) ≤ 64
small g v h = let w = words_small g g.vertices v h.kinds h.vertices in let e = word_bytes (words_in (slice_get g.vertices v)) in omega arith

pub row_words : (vs : List VertexRow) (v : ℕ) (d : VertexRow) → v < length vs → words_in (slice_get vs v) ≡ (get_or vs v d).words
row_words [] v d h = absurd (omega arith)
row_words (y ∷ ys) zero d h = refl
row_words (y ∷ ys) (suc v) d h = row_words ys v d (omega arith)

-- a call that appends at most 64 bytes
pub small_after : (r : Result Unit AllocError) (new old s : List ℕ) → length s ≤ 64 → IfOk r (λ _. new ≡ old ++ s) → IfOk r (λ _. length new ≤ length old + 64)
small_after (Ok u) new old s h e = let l = ap length e ∙ length-append old s in omega arith
small_after (Err x) new old s h e = tt
