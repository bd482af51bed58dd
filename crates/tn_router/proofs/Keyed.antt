-- The way of a copy, without the copy.
use Rattle.std.proofs.Common.{ℕ, ◌≡◌, ◌≤◌, ◌&&◌, Bool, true, false, cond, length, refl, leb, Some, None}
use Rattle.std.proofs.lemmas.Bool.{and_parts}
use Rattle.tn_base.specs.declared.message.Dest.{Dest}
use Rattle.tn_base.specs.declared.message.Packet.{Packet}
use Rattle.tn_base.specs.declared.port.Port.{Port}
use Rattle.tn_base.specs.declared.shape.ShapeNumbers.{ShapeNumbers}
use Rattle.tn_base.specs.Message.{has_dest, has_packet, slot_bytes}
use Rattle.tn_keys.specs.Copies.{keyed}
use Rattle.tn_router.specs.Moves.{sent_if, sent_way}
use Rattle.tn_router.proofs.There.{keyed_fits}

-- a copy of a packet of the machine is sent if its destination is there
pub keyed_way : (n : ShapeNumbers) (p : Packet) (way : Port) (d : Dest) (size key : ℕ) → size ≤ 8 → has_packet n p ≡ true
    → cond (has_dest n d) (Some way) None ≡ sent_way (sent_if n way (record p { dest = d; bytes = keyed size key p.bytes }))
keyed_way n p way d size key small h = by (has_dest n d) (leb (length (keyed size key p.bytes)) (slot_bytes n)) (keyed_fits n size key p.bytes small (and_parts (has_dest n p.dest) (leb (length p.bytes) (slot_bytes n)) h).1) where
  by : (there short : Bool) → short ≡ true → cond there (Some way) None ≡ sent_way (cond (there && short) (Some (record { way = way; packet = record p { dest = d; bytes = keyed size key p.bytes } })) None)
  by true true e = refl
  by false true e = refl
  by there false e = cc e
