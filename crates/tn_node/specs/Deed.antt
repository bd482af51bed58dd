-- What a part does in an event, in its own terms: it knows its ports, and no numbers of links.
use Rattle.std.specs.Prelude.{ℕ}
use Rattle.tn_base.specs.declared.ids.ThreadId.{ThreadId}
use Rattle.tn_base.specs.declared.message.Packet.{Packet}
use Rattle.tn_base.specs.declared.port.Port.{Port}
use Rattle.tn_node.specs.declared.facts.PartFacts.{PartFacts}

pub data Deed : Type 0 where
  -- a thread makes n steps
  Turn : ThreadId → ℕ → Deed
  -- the packet that a thread sent is delivered
  Deliver : ThreadId → Deed
  -- the packet that waits for a port goes to a link
  Give : Port → Packet → Deed
  -- a packet comes from a link, at a port
  Take : Port → Packet → Deed
  -- a router routes one record or one packet
  Route : Deed
  -- the host puts the next message of its script on its link, as this packet
  HostPut : Packet → Deed
  -- the host takes this packet from its link
  HostTake : Packet → Deed
  -- the part of this number reports to the detector, which learns these facts
  Report : ℕ → PartFacts → Deed
  -- the detector begins to confirm
  Begin : Deed
  -- the detector looks at the part of this number a second time, which tells these facts
  Confirm : ℕ → PartFacts → Deed
  -- the detector announces the machine's rest
  Announce : Deed
  -- the part of this number, which tells these facts, is released with the answer that stands in them
  Release : ℕ → PartFacts → Deed
  -- the part of this number, which tells these facts, is let go
  Go : ℕ → PartFacts → Deed
