-- Beats: lists of records.
use Rattle.std.specs.Prelude.{ℕ, ◌-◌, ◌&&◌, Bool, List, length, nat_le, not, take}
use Rattle.std.specs.List.{list_all, sum_by}
use Rattle.tn_keys.specs.declared.record.RouteRec.{RouteRec}
use Rattle.tn_keys.specs.Record.{chunks, fits, is_ind, is_urm2, tag_of}

-- how many chunks the records fill
abbrev pub chunks_of : List RouteRec → ℕ
chunks_of rs = sum_by (λ r. chunks (tag_of r)) rs

-- no record is an IND
abbrev pub lacks_ind : List RouteRec → Bool
lacks_ind rs = list_all (λ r. not (is_ind (tag_of r))) rs

-- the records are those of a beat: they fill at most five chunks, each field fits its bits, and none but the last is an IND
abbrev pub is_beat : List RouteRec → Bool
is_beat rs = nat_le (chunks_of rs) 5 && list_all fits rs && lacks_ind (take (length rs - 1) rs)

-- no record has a local key of eight bytes
abbrev pub lacks_urm2 : List RouteRec → Bool
lacks_urm2 rs = list_all (λ r. not (is_urm2 (tag_of r))) rs
