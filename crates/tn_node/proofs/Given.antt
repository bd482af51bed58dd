-- A node gives the packet that it offers.
use Rattle.std.proofs.Common.{ℕ, ◌≡◌, ◌==◌, ◌&&◌, Bool, true, false, cond, List, [], ◌∷◌, refl, ap, ◌∙◌, Option, Some, None}
use Rattle.std.proofs.lemmas.Bool.{eq-eqb}
use Rattle.tn_base.specs.declared.message.Dest.{Dest}
use Rattle.tn_base.specs.declared.message.Dest.TheVariants as dest
use Rattle.tn_base.specs.declared.message.Packet.{Packet}
use Rattle.tn_base.specs.declared.port.Port.{Port}
use Rattle.tn_node.specs.declared.node.Node.{Node}
use Rattle.tn_node.specs.NodeRows.{depart_row, give_row, offered}
use Rattle.tn_node.specs.SamePacket.{is_packet, same_bytes, same_dest, same_packet}

same_number : (n : ℕ) → (n == n) ≡ true
same_number n = eq-eqb n n refl

both : (a b : Bool) → a ≡ true → b ≡ true → (a && b) ≡ true
both true b e f = f
both false b e f = e

bytes_itself : (xs : List ℕ) → same_bytes xs xs ≡ true
unfolding same_bytes
bytes_itself [] = refl
bytes_itself (x ∷ xs) = both (x == x) (same_bytes xs xs) (same_number x) (bytes_itself xs)

dest_itself : (d : Dest) → same_dest d d ≡ true
dest_itself (dest.Thread t) = same_number t.0
dest_itself dest.Host = refl
dest_itself (dest.Mask tile mask) = both (tile.0 == tile.0) (mask == mask) (same_number tile.0) (same_number mask)
dest_itself (dest.Key key) = same_number key

-- a packet is the same as itself
pub packet_itself : (k : Packet) → same_packet k k ≡ true
packet_itself k =
    both (k.origin == k.origin && k.number == k.number && same_dest k.dest k.dest) (same_bytes k.bytes k.bytes)
    (both (k.origin == k.origin && k.number == k.number) (same_dest k.dest k.dest)
    (both (k.origin == k.origin) (k.number == k.number) (same_number k.origin) (same_number k.number))
    (dest_itself k.dest)) (bytes_itself k.bytes)

-- the giver's row, if it gives the packet that crosses
pub gives : {V : Type 0} (o : Option Packet) (k : Packet) (row : Option V) → o ≡ Some k → cond (is_packet k o) row None ≡ row
gives o k row e = ap (λ (x : Option Packet). cond (is_packet k x) row None) e ∙ ap (λ b. cond b row None) (packet_itself k)

pub given : (way : Port) (k : Packet) (n : Node) → offered way n ≡ Some k → give_row way k n ≡ depart_row way n
given way k n e = gives (offered way n) k (depart_row way n) e
