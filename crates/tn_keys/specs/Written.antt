-- Beats as bytes: 16 bits that count the chunks in use, then five chunks of 48 bits, the lowest byte first.
use Rattle.std.specs.Prelude.{ℕ, ◌-◌, ◌/◌, ◌%◌, ◌^◌, ◌==◌, ◌++◌, List, [], ◌∷◌, replicate, if◌then◌else◌}
use Rattle.std.specs.List.{flat_map}
use Rattle.byteorder.specs.Endian.{little_bytes}
use Rattle.tn_keys.specs.declared.record.RouteRec.{RouteRec}
use Rattle.tn_keys.specs.Record.{chunks, tag_of, word_of}
use Rattle.tn_keys.specs.Beat.{chunks_of}

-- a number as one chunk, or as two, the low one first
abbrev pub cut : ℕ → ℕ → List ℕ
cut count w = if count == 1 then w ∷ [] else (w % 2 ^ 48) ∷ (w / 2 ^ 48) ∷ []

-- the chunks of a record
abbrev pub record_chunks : RouteRec → List ℕ
record_chunks r = cut (chunks (tag_of r)) (word_of r)

-- the five chunks: those of the records in order, the others zero
abbrev pub beat_chunks : List RouteRec → List ℕ
beat_chunks rs = flat_map record_chunks rs ++ replicate (5 - chunks_of rs) 0

-- a count and chunks as bytes
abbrev pub bytes_with : ℕ → List ℕ → List ℕ
bytes_with count cs = little_bytes 2 count ++ flat_map (little_bytes 6) cs

-- the 32 bytes of a beat
abbrev pub written : List RouteRec → List ℕ
written rs = bytes_with (chunks_of rs) (beat_chunks rs)
