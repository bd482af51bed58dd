-- The records still to come of a packet in process, and the place of the next one.
use Rattle.std.specs.Prelude.{ℕ, ◌+◌, ◌||◌, List, [], ◌∷◌, Option, Some, None, drop, length, nat_lt, option_map, slice_get, slice_index_or, take, if◌then◌else◌}
use Rattle.tn_base.specs.declared.message.Dest.{Dest}
use Rattle.tn_base.specs.declared.message.Dest.TheVariants as dest
use Rattle.tn_base.specs.declared.message.Packet.{Packet}
use Rattle.tn_keys.specs.declared.record.RouteRec.{RouteRec}
use Rattle.tn_keys.specs.Key.{key_count, key_first}
use Rattle.tn_keys.specs.Tables.{Table, is_bad_key, joined}
use Rattle.tn_router.specs.declared.work.Work.{Work}

-- the beats of a key from the one of a number on
abbrev pub beats_from : Table → ℕ → ℕ → Table
beats_from table key i = drop i (take (key_first key + key_count key) table)

-- the records of its key from the next one on; a bad key has no records, and a packet whose beat is before its key's beats has none
abbrev pub rest_by : Table → Work → ℕ → List RouteRec
rest_by table w key =
    if is_bad_key (length table) key || nat_lt w.beat (key_first key) then []
    else drop w.at (joined (beats_from table key w.beat))

abbrev pub rest_to : Table → Work → Dest → List RouteRec
rest_to table w (dest.Thread t) = []
rest_to table w dest.Host = []
rest_to table w (dest.Mask tile mask) = []
rest_to table w (dest.Key key) = rest_by table w key

-- the records still to come of a packet in process
abbrev pub rest_of : Table → Work → List RouteRec
rest_of table w = rest_to table w w.packet.dest

-- the next one of them
abbrev pub next_record : Table → Work → Option RouteRec
next_record table w = slice_get (rest_of table w) 0

-- the number of the first beat that has a record; the number of the first beat of the list is i
abbrev pub first_full : ℕ → Table → Option ℕ
first_full i [] = None
first_full i ([] ∷ beats) = first_full (i + 1) beats
first_full i ((r ∷ rs) ∷ beats) = Some i

-- a packet at the first record of a beat
abbrev pub at_beat : Packet → ℕ → Work
at_beat p i = record { packet = p; beat = i; at = 0 }

-- a packet at the first record of a key's beats from a number on, if there is one
abbrev pub from_beat : Table → ℕ → ℕ → Packet → Option Work
from_beat table key i p = option_map (at_beat p) (first_full i (beats_from table key i))

-- a packet at its place, else both numbers are 0
abbrev pub or_zero : Packet → Option Work → Work
or_zero p None = at_beat p 0
or_zero p (Some w) = w

abbrev pub started_by : Table → Packet → ℕ → Work
started_by table p key =
    if is_bad_key (length table) key then at_beat p 0 else or_zero p (from_beat table key (key_first key) p)

abbrev pub started_to : Table → Packet → Dest → Work
started_to table p (dest.Thread t) = at_beat p 0
started_to table p dest.Host = at_beat p 0
started_to table p (dest.Mask tile mask) = at_beat p 0
started_to table p (dest.Key key) = started_by table p key

-- a packet that comes into process, at the first record of its key; if no record comes, both numbers are 0
abbrev pub started : Table → Packet → Work
started table p = started_to table p p.dest

-- a packet behind its next record, if another one comes
abbrev pub next_work : Table → ℕ → Work → Option Work
next_work table key w =
    if nat_lt (w.at + 1) (length (slice_index_or table w.beat [])) then Some (record w { at = w.at + 1 })
    else from_beat table key (w.beat + 1) w.packet

-- a packet that goes on with another key, if a record of that key comes; if the key is bad, the packet stays, and the next Route finds the bad key
abbrev pub entered : Table → Packet → ℕ → Option Work
entered table p key =
    if is_bad_key (length table) key then Some (at_beat (record p { dest = dest.Key key }) 0)
    else from_beat table key (key_first key) (record p { dest = dest.Key key })
