-- What each event makes of a host, if the event is enabled.
use Rattle.std.specs.Prelude.{pos, ◌+◌, ◌^◌, ◌+ℤ◌, ◌-ℤ◌, ◌&&◌, ◌++◌, Bool, true, false, List, [], ◌∷◌, Option, Some, None, int_lt, is_none, length, max, if◌then◌else◌}
use Rattle.tn_base.specs.declared.message.Letter.{Letter}
use Rattle.tn_base.specs.declared.message.Packet.{Packet}
use Rattle.tn_host.specs.declared.script.ScriptItem.{ScriptItem}
use Rattle.tn_host.specs.HostView.{HostState, HostView}
use Rattle.tn_host.specs.Script.{first_item, host_address, is_no_send, items_behind, packet_of, past_await}
use Rattle.tn_node.specs.declared.facts.PartFacts.{PartFacts}
use Rattle.tn_node.specs.declared.node.Node.{Node}
use Rattle.tn_node.specs.Deed.{Deed}
use Rattle.tn_node.specs.Deed as deed
use Rattle.tn_node.specs.Facts.{facts_of, if_own, if_still}
use Rattle.tn_node.specs.NodeRows.{arrived, can_arrive, fresh_node, held_back, let_go, whitened}
use Rattle.tn_node.specs.SamePacket.{is_packet}

-- a host at its start
abbrev pub fresh_state : List ScriptItem → HostState
fresh_state script = record { script = script; sends = 0; got = []; node = fresh_node }

abbrev pub with_node : HostState → Node → HostState
with_node s node = record s { node = node }

-- the packet of the next item, unless the host is held
abbrev pub offered : HostState → Option Packet
offered s = if s.node.held then None else packet_of s.sends (first_item s.script)

-- the packet that the host offered is gone to its link
abbrev pub departed : HostState → HostState
departed s = record s {
  script = items_behind s.script;
  sends = s.sends + 1;
  node = record s.node { counter = s.node.counter +ℤ pos 1 };
}

-- one packet more can be counted
abbrev pub can_depart : Node → Bool
can_depart n = int_lt n.counter (pos (2 ^ 63) -ℤ pos 1)

-- the host gives packet k to its link
abbrev pub put_row : Packet → HostState → Option HostState
put_row k s = if is_packet k (offered s) && can_depart s.node then Some (departed s) else None

-- the letter that a packet is for the host
abbrev pub host_letter : Packet → Letter
host_letter k = record { origin = k.origin; number = k.number; receiver = host_address; bytes = k.bytes }

-- the host took packet k from its link
abbrev pub took : Packet → HostState → HostState
took k s = record s { got = s.got ++ host_letter k ∷ []; node = arrived s.node }

abbrev pub take_row : Packet → HostState → Option HostState
take_row k s = if can_arrive s.node then Some (took k s) else None

-- the host does nothing by itself: its next item is no message
abbrev pub is_still : HostState → Bool
is_still s = is_no_send (first_item s.script)

-- no item of the script is still to come
abbrev pub at_end : HostState → Bool
at_end s = is_none (first_item s.script)

-- the detector's side: the host reported, was released, and was let go. A host that waits for the machine's rest goes on when it
-- is released
abbrev pub host_whitened : HostState → HostState
host_whitened s = with_node s (whitened s.node)

abbrev pub released : HostState → HostState
released s = record s { script = past_await s.script; node = held_back s.node }

abbrev pub gone_on : HostState → HostState
gone_on s = with_node s (let_go s.node)

-- what the host tells the detector: it has no threads
abbrev pub host_facts : HostState → PartFacts
host_facts s = facts_of s.node (is_still s) false true (at_end s)

-- what a deed makes of a host, if the host can do it
abbrev pub host_deed : Deed → HostState → Option HostState
host_deed (deed.Turn t n) s = None
host_deed (deed.Deliver t) s = None
host_deed (deed.Give way k) s = None
host_deed (deed.Take side k) s = None
host_deed deed.Route s = None
host_deed (deed.HostPut k) s = put_row k s
host_deed (deed.HostTake k) s = take_row k s
host_deed (deed.Report i f) s = if_still (host_facts s) f (host_whitened s)
host_deed deed.Begin s = None
host_deed (deed.Confirm i f) s = if_own (host_facts s) f s
host_deed deed.Announce s = None
host_deed (deed.Release i f) s = if_own (host_facts s) f (released s)
host_deed (deed.Go i f) s = if_own (host_facts s) f (gone_on s)

-- room for one letter more than the host took, or the room that is there
abbrev pub reserved : HostView → HostView
reserved v = record v { room = max v.room (length v.now.got + 1) }
