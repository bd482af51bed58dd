-- What each event makes of a node, if the event is enabled.
use Rattle.std.specs.Prelude.{pos, ◌^◌, ◌+ℤ◌, ◌-ℤ◌, Bool, true, false, Option, Some, None, int_lt, is_none, neg_ℤ, if◌then◌else◌}
use Rattle.tn_base.specs.declared.message.Packet.{Packet}
use Rattle.tn_base.specs.declared.port.Port.{Port}
use Rattle.tn_node.specs.declared.node.Node.{Node}
use Rattle.tn_node.specs.PortRows.{at, no_values, with_at}
use Rattle.tn_node.specs.SamePacket.{is_packet}

-- a node at its start
abbrev pub fresh_node : Node
fresh_node = record { out = no_values; counter = pos 0; black = false; held = false }

-- a packet waits for a way out, if no packet waits there yet
abbrev pub waits : Port → Packet → Node → Option Node
waits way p n = if is_none (at way n.out) then Some (record n { out = with_at way (Some p) n.out }) else None

-- the packet that waits for a way out, unless the node is held
abbrev pub offered : Port → Node → Option Packet
offered way n = if n.held then None else at way n.out

-- the packet that waited for a way out is gone to a link
abbrev pub departed : Port → Node → Node
departed way n = record n { out = with_at way None n.out; counter = n.counter +ℤ pos 1 }

abbrev pub departed_with : Option Packet → Port → Node → Option Node
departed_with None way n = None
departed_with (Some p) way n = if int_lt n.counter (pos (2 ^ 63) -ℤ pos 1) then Some (departed way n) else None

abbrev pub depart_row : Port → Node → Option Node
depart_row way n = departed_with (offered way n) way n

-- the node gives packet k to a link
abbrev pub give_row : Port → Packet → Node → Option Node
give_row way k n = if is_packet k (offered way n) then depart_row way n else None

-- a packet came from a link: it is counted, and the node is black
abbrev pub arrived : Node → Node
arrived n = record n { counter = n.counter -ℤ pos 1; black = true }

-- one packet more can be counted
abbrev pub can_arrive : Node → Bool
can_arrive n = int_lt (neg_ℤ (pos (2 ^ 63))) n.counter

-- the detector's side: the node reported, was held at a release, and was let go
abbrev pub whitened : Node → Node
whitened n = record n { black = false }

abbrev pub held_back : Node → Node
held_back n = record n { held = true }

abbrev pub let_go : Node → Node
let_go n = record n { held = false }
