-- What each call makes of a link.
use Rattle.std.specs.Prelude.{ℕ, List, [], ◌∷◌, ◌++◌, Option, Some, None, length, nat_lt, if◌then◌else◌}
use Rattle.tn_base.specs.declared.message.Packet.{Packet}
use Rattle.tn_link.specs.LinkView.{LinkView}

abbrev pub first_in : List Packet → Option Packet
first_in [] = None
first_in (p ∷ ps) = Some p

-- the packet that comes next
abbrev pub front_of : LinkView → Option Packet
front_of v = first_in v.packets

-- a packet is put at the end where there is room
abbrev pub put_in : Packet → LinkView → Option LinkView
put_in p v = if nat_lt (length v.packets) v.capacity then Some (record { packets = v.packets ++ p ∷ []; capacity = v.capacity }) else None

abbrev pub rest_in : ℕ → List Packet → Option LinkView
rest_in capacity [] = None
rest_in capacity (p ∷ ps) = Some (record { packets = ps; capacity = capacity })

-- the first packet is taken where there is one
abbrev pub take_from : LinkView → Option LinkView
take_from v = rest_in v.capacity v.packets
