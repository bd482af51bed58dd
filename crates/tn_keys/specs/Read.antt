-- The beat of 32 bytes, or the first fault in the order of the bytes.
use Rattle.std.specs.Prelude.{ℕ, ◌+◌, ◌*◌, ◌%◌, ◌^◌, ◌==◌, Bool, false, List, [], ◌∷◌, drop, map, slice_index, take, nat_lt, if◌then◌else◌}
use Rattle.std.specs.List.{list_all}
use Rattle.std.specs.declared.option.Option.{Option}
use Rattle.std.specs.declared.option.Option.TheVariants.{Some, None}
use Rattle.std.specs.declared.result.Result.{Result}
use Rattle.std.specs.declared.result.Result.TheVariants.{Ok, Err}
use Rattle.byteorder.specs.Endian.{little_number}
use Rattle.tn_keys.specs.declared.beat.BeatFault.{BeatFault}
use Rattle.tn_keys.specs.declared.beat.BeatFault.TheVariants as fault
use Rattle.tn_keys.specs.declared.record.RouteRec.{RouteRec}
use Rattle.tn_keys.specs.declared.record.Tag.{Tag}
use Rattle.tn_keys.specs.declared.record.Tag.TheVariants as tag
use Rattle.tn_keys.specs.Record.{chunks, end_of, is_ind, record_in}

-- the tag that a chunk begins with; version 1 has no URM2
abbrev pub tag_in : ℕ → ℕ → Option Tag
tag_in version chunk =
    if chunk % 8 == 0 then Some tag.Urm1
    else if chunk % 8 == 1 then (if version == 1 then None else Some tag.Urm2)
    else if chunk % 8 == 2 then Some tag.Rr
    else if chunk % 8 == 3 then Some tag.Mrm
    else if chunk % 8 == 4 then Some tag.Ind
    else None

abbrev pub tagged : Option Tag → (Tag → Result (List RouteRec) BeatFault) → Result (List RouteRec) BeatFault
tagged None others = Err fault.Tag
tagged (Some t) others = others t

-- a record in front of others
abbrev pub before : RouteRec → Result (List RouteRec) BeatFault → Result (List RouteRec) BeatFault
before r (Ok rs) = Ok (r ∷ rs)
before r (Err f) = Err f

-- the record of a number, whose bits behind the fields are zero, and which stands behind no IND
abbrev pub with_record : Bool → Tag → ℕ → Result (List RouteRec) BeatFault → Result (List RouteRec) BeatFault
with_record ended t w others =
    if nat_lt w (2 ^ end_of t) then (if ended then Err fault.AfterInd else before (record_in t w) others) else Err fault.Unused

-- the records of the chunks in use, the first of which may stand behind an IND
abbrev pub records_in : ℕ → Bool → List ℕ → Result (List RouteRec) BeatFault
records_in version ended [] = Ok []
records_in version ended (c ∷ []) =
    tagged (tag_in version c) (λ t. if chunks t == 1 then with_record ended t c (Ok []) else Err fault.Chunk)
records_in version ended (c ∷ d ∷ cs) =
    tagged (tag_in version c) (λ t.
    if chunks t == 1 then with_record ended t c (records_in version (is_ind t) (d ∷ cs))
    else with_record ended t (c + d * 2 ^ 48) (records_in version (is_ind t) cs))

-- the number of the record of so many chunks at a place
abbrev pub word_at : List ℕ → ℕ → ℕ → ℕ
word_at cs at count = if count == 1 then slice_index cs at else slice_index cs at + slice_index cs (at + 1) * 2 ^ 48

-- the five chunks of a beat's bytes
abbrev pub chunks_in : List ℕ → List ℕ
chunks_in bytes = map (λ i. little_number 6 (drop (2 + 6 * i) bytes)) (0 ∷ 1 ∷ 2 ∷ 3 ∷ 4 ∷ [])

-- the records, where the chunks that are not in use are zero
abbrev pub with_spare : Bool → Result (List RouteRec) BeatFault → Result (List RouteRec) BeatFault
with_spare zero (Ok rs) = if zero then Ok rs else Err fault.Unused
with_spare zero (Err f) = Err f

-- the beat of these bytes
abbrev pub beat_of : ℕ → List ℕ → Result (List RouteRec) BeatFault
beat_of version bytes =
    let used = little_number 2 bytes in
    if nat_lt 5 used then Err fault.Count
    else with_spare (list_all (λ c. c == 0) (drop used (chunks_in bytes))) (records_in version false (take used (chunks_in bytes)))
