-- What one record makes of a message.
use Rattle.std.specs.Prelude.{ℕ, ◌+◌, ◌-◌, ◌*◌, ◌==◌, Bool, List, [], ◌∷◌, nat_lt, if◌then◌else◌}
use Rattle.std.specs.Int.{bit_at}
use Rattle.std.specs.List.{flat_map, range_with_len}
use Rattle.std.specs.declared.option.Option.{Option}
use Rattle.std.specs.declared.option.Option.TheVariants.{Some, None}
use Rattle.byteorder.specs.Endian.{little_bytes}
use Rattle.tn_base.specs.declared.ids.Board.{Board}
use Rattle.tn_base.specs.declared.shape.ShapeNumbers.{ShapeNumbers}
use Rattle.tn_base.specs.Bytes.{fronted}
use Rattle.tn_keys.specs.declared.onward.Onward.{Onward}
use Rattle.tn_keys.specs.declared.record.RouteRec.{RouteRec}
use Rattle.tn_keys.specs.declared.record.RouteRec.TheVariants.{Urm1, Urm2, Rr, Mrm, Ind}

-- what a keyed message is for one of its receivers: its bytes may begin with a local key
pub record Copy : Type 0 where
  pub receiver : ℕ
  pub bytes : List ℕ

abbrev pub copy_to : ℕ → List ℕ → Copy
copy_to receiver bytes = record { receiver = receiver; bytes = bytes }

-- an element where a test holds, else none
abbrev pub only_if : {A : Type 0} → Bool → A → List A
only_if holds x = if holds then x ∷ [] else []

-- what each number below a count gives, in order
abbrev pub each_below : {A : Type 0} → ℕ → (ℕ → List A) → List A
each_below count f = flat_map f (range_with_len 0 count)

-- the address of a tile of a board, whose place there has x in its low two bits and y in the high two
abbrev pub tile_address : Board → ℕ → ℕ
tile_address b tile = b.y * 4096 + b.x * 1024 + tile * 64

-- a copy for each thread of a tile whose bit, core * 16 + thread, is set, ascending
unfoldable pub masked_copies : ℕ → ℕ → List ℕ → List Copy
masked_copies tile mask bytes = each_below 64 (λ k. only_if (bit_at mask k == 1) (copy_to (tile + k) bytes))

-- the bytes of a message behind a local key of so many bytes, which stands in place of its first ones
abbrev pub keyed : ℕ → ℕ → List ℕ → List ℕ
keyed size key bytes = fronted (little_bytes size key) bytes

-- the neighbour of a board: 0 East, 1 West, 2 South, 3 North
abbrev pub neighbour : ShapeNumbers → ℕ → Board → Option Board
neighbour n dir b =
    if dir == 0 then (if nat_lt (b.x + 1) n.boards_x then Some (record { x = b.x + 1; y = b.y }) else None)
    else if dir == 1 then (if nat_lt 0 b.x then Some (record { x = b.x - 1; y = b.y }) else None)
    else if dir == 2 then (if nat_lt (b.y + 1) n.boards_y then Some (record { x = b.x; y = b.y + 1 }) else None)
    else (if nat_lt 0 b.y then Some (record { x = b.x; y = b.y - 1 }) else None)

-- where a record leads
abbrev pub onto : ℕ → Option Board → Option Onward
onto key None = None
onto key (Some b) = Some (record { board = b; key = key })

-- an RR leads to a neighbour, unless it is off the machine; an IND leads on at the same board
abbrev pub onward : ShapeNumbers → Board → RouteRec → Option Onward
onward n b (Urm1 tile thread key) = None
onward n b (Urm2 tile thread key) = None
onward n b (Rr dir key) = onto key (neighbour n dir b)
onward n b (Mrm tile key mask) = None
onward n b (Ind key) = onto key (Some b)

-- the copies where a record leads, given those of each key at each board
abbrev pub led : (Board → ℕ → List Copy) → Option Onward → List Copy
led on None = []
led on (Some o) = on o.board o.key

-- the copies of a message that one record makes at a board, in order
abbrev pub copies_of : (Board → ℕ → List Copy) → ShapeNumbers → Board → List ℕ → RouteRec → List Copy
copies_of on n b bytes (Urm1 tile thread key) = copy_to (tile_address b tile + thread) (keyed 4 key bytes) ∷ []
copies_of on n b bytes (Urm2 tile thread key) = copy_to (tile_address b tile + thread) (keyed 8 key bytes) ∷ []
copies_of on n b bytes (Rr dir key) = led on (onward n b (Rr dir key))
copies_of on n b bytes (Mrm tile key mask) = masked_copies (tile_address b tile) mask (keyed 2 key bytes)
copies_of on n b bytes (Ind key) = led on (onward n b (Ind key))
