-- Where a message may go.
use Rattle.std.specs.Prelude.{ℕ, ◌==◌, ◌&&◌, Bool, true, length, nat_le, not, if◌then◌else◌}
use Rattle.tn_base.specs.declared.shape.ShapeNumbers.{ShapeNumbers}
use Rattle.tn_base.specs.declared.message.Dest.{Dest}
use Rattle.tn_base.specs.declared.message.Dest.TheVariants.{Thread, Host, Mask, Key}
use Rattle.tn_base.specs.declared.message.Packet.{Packet}
use Rattle.tn_base.specs.Address.{has_thread, has_tile}
use Rattle.tn_base.specs.Mask.{names_threads}

-- the bytes of a message slot: four flits in version 1, eight in version 2
abbrev pub flits : ShapeNumbers → ℕ
flits n = if n.version == 1 then 4 else 8

abbrev pub slot_bytes : ShapeNumbers → ℕ
slot_bytes n = if n.version == 1 then 64 else 128

-- the destination is in the machine: the host, any key, one of its threads, or some of the threads of one of its tiles
abbrev pub has_dest : ShapeNumbers → Dest → Bool
has_dest n (Thread t) = has_thread n t.0
has_dest n Host = true
has_dest n (Mask tile mask) = has_tile n tile.0 && not (mask == 0) && names_threads n mask
has_dest n (Key key) = true

-- a packet of the machine: its destination is there, and its bytes fit a slot
abbrev pub has_packet : ShapeNumbers → Packet → Bool
has_packet n p = has_dest n p.dest && nat_le (length p.bytes) (slot_bytes n)
