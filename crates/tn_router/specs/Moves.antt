-- What one Route makes of a packet in process.
use Rattle.std.specs.Prelude.{ℕ, ◌+◌, ◌==◌, Option, Some, None, is_some, length, if◌then◌else◌}
use Rattle.tn_base.specs.declared.ids.Board.{Board}
use Rattle.tn_base.specs.declared.message.Dest.{Dest}
use Rattle.tn_base.specs.declared.message.Dest.TheVariants as dest
use Rattle.tn_base.specs.declared.message.Packet.{Packet}
use Rattle.tn_base.specs.declared.port.Port.{Port}
use Rattle.tn_base.specs.declared.port.Port.TheVariants as port
use Rattle.tn_base.specs.declared.shape.ShapeNumbers.{ShapeNumbers}
use Rattle.tn_base.specs.Message.{has_packet}
use Rattle.tn_base.specs.Ports.{router_port}
use Rattle.tn_keys.specs.declared.record.RouteRec.{RouteRec}
use Rattle.tn_keys.specs.declared.record.RouteRec.TheVariants.{Urm1, Urm2, Rr, Mrm, Ind}
use Rattle.tn_keys.specs.Copies.{keyed, neighbour, tile_address}
use Rattle.tn_keys.specs.Tables.{Table, is_bad_key}
use Rattle.tn_router.specs.declared.moves.Move.{Move}
use Rattle.tn_router.specs.declared.moves.Sent.{Sent}
use Rattle.tn_router.specs.declared.work.Work.{Work}
use Rattle.tn_router.specs.Rest.{entered, next_record, next_work}

-- the way of an RR's direction
abbrev pub way_of : ℕ → Port
way_of dir = if dir == 0 then port.East else if dir == 1 then port.West else if dir == 2 then port.South else port.North

-- a copy for a way out, if it is a packet of the machine
abbrev pub sent_if : ShapeNumbers → Port → Packet → Option Sent
sent_if n way p = if has_packet n p then Some (record { way = way; packet = p }) else None

-- the way out by which a packet is sent
abbrev pub sent_way : Option Sent → Option Port
sent_way None = None
sent_way (Some s) = Some s.way

-- the copy that a record makes of a packet. An IND makes none, and neither does a record whose destination is not there,
-- which no accepted table has.
abbrev pub copy_by : ShapeNumbers → Board → Packet → RouteRec → Option Sent
copy_by n b p (Urm1 tile thread key) =
    sent_if n port.Down (record p { dest = dest.Thread (record { 0 = tile_address b tile + thread }); bytes = keyed 4 key p.bytes })
copy_by n b p (Urm2 tile thread key) =
    sent_if n port.Down (record p { dest = dest.Thread (record { 0 = tile_address b tile + thread }); bytes = keyed 8 key p.bytes })
copy_by n b p (Rr dir key) = if is_some (neighbour n dir b) then sent_if n (way_of dir) (record p { dest = dest.Key key }) else None
copy_by n b p (Mrm tile key mask) =
    sent_if n port.Down (record p { dest = dest.Mask (record { 0 = tile_address b tile }) mask; bytes = keyed 2 key p.bytes })
copy_by n b p (Ind key) = None

-- the packet behind a record, if another one comes
abbrev pub behind : Table → ℕ → Work → RouteRec → Option Work
behind table key w (Urm1 tile thread local) = next_work table key w
behind table key w (Urm2 tile thread local) = next_work table key w
behind table key w (Rr dir onward) = next_work table key w
behind table key w (Mrm tile local mask) = next_work table key w
behind table key w (Ind onward) = entered table w.packet onward

-- one record is done; if no record comes, the packet is taken away
abbrev pub record_move : ShapeNumbers → Board → Table → Port → ℕ → Work → Option RouteRec → Move
record_move n b table side key w None = record { side = side; sent = None; work = None; bad = None }
record_move n b table side key w (Some r) =
    record { side = side; sent = copy_by n b w.packet r; work = behind table key w r; bad = None }

-- if the key is bad, nothing moves
abbrev pub key_move : ShapeNumbers → Board → Table → Port → ℕ → Work → Move
key_move n b table side key w =
    if is_bad_key (length table) key then record { side = side; sent = None; work = Some w; bad = Some key }
    else record_move n b table side key w (next_record table w)

-- a packet without a key goes whole
abbrev pub whole_move : Board → Port → Packet → Move
whole_move b side p = record { side = side; sent = Some (record { way = router_port b p.dest; packet = p }); work = None; bad = None }

abbrev pub move_to : ShapeNumbers → Board → Table → Port → Work → Dest → Move
move_to n b table side w (dest.Thread t) = whole_move b side w.packet
move_to n b table side w dest.Host = whole_move b side w.packet
move_to n b table side w (dest.Mask tile mask) = whole_move b side w.packet
move_to n b table side w (dest.Key key) = key_move n b table side key w

-- what one Route makes of a packet in process at a side, if what it sends finds its buffer empty
abbrev pub move_of : ShapeNumbers → Board → Table → Port → Work → Move
move_of n b table side w = move_to n b table side w w.packet.dest
