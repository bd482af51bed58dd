-- What each event makes of a tile, if the event is enabled: of its plan, which stays, and its state.
use Rattle.std.specs.Prelude.{ℕ, ◌+◌, ◌^◌, ◌==◌, ◌&&◌, Bool, false, map, Option, Some, None, option_map, count_ones, nat_le, nat_lt, slice_index_or, slice_set, if◌then◌else◌}
use Rattle.tn_base.specs.declared.message.Packet.{Packet}
use Rattle.tn_base.specs.declared.port.Port.{Port}
use Rattle.tn_base.specs.declared.port.Port.TheVariants as port
use Rattle.tn_base.specs.Address.{has_thread, place_in_tile, tile_of}
use Rattle.tn_base.specs.Message.{has_packet}
use Rattle.tn_base.specs.Ports.{tile_port}
use Rattle.tn_node.specs.declared.facts.PartFacts.{PartFacts}
use Rattle.tn_node.specs.declared.node.Node.{Node}
use Rattle.tn_node.specs.Deed.{Deed}
use Rattle.tn_node.specs.Deed as deed
use Rattle.tn_node.specs.Facts.{facts_of, if_own, if_still}
use Rattle.tn_node.specs.NodeRows.{arrived, can_arrive, depart_row as node_departs, give_row, held_back, let_go, waits, whitened}
use Rattle.tn_slots.specs.Pool.{first_free, message_at, put_at}
use Rattle.tn_thread.specs.declared.thread.Thread.{Thread}
use Rattle.tn_thread.specs.Step.{answered, is_idle}
use Rattle.tn_tile.specs.Receivers.{alive_of, dead_of, receivers}
use Rattle.tn_tile.specs.Step.{pending_at, steps_of}
use Rattle.tn_tile.specs.Still.{all_vote, has_live, is_still}
use Rattle.tn_tile.specs.TileView.{TilePlan, TileState}
use Rattle.tn_tile.specs.declared.sender.Sender.{Sender}

-- the thread of this address is on the tile
abbrev pub is_here : TilePlan → ℕ → Bool
is_here plan a = has_thread plan.shape a && tile_of a == plan.tile

-- letters are dropped here only as long as they can be counted
abbrev pub can_count : TileState → Bool
can_count s = nat_lt s.dropped (2 ^ 63)

-- n steps of the thread of this address
abbrev pub turn_row : TilePlan → ℕ → ℕ → TileState → Option TileState
turn_row plan a n s =
    if is_here plan a && nat_le 1 n && nat_le n plan.shape.turn && can_count s
    then steps_of plan (place_in_tile plan.shape a) n s
    else None

-- a message is put into a slot for the threads of a set
abbrev pub stored_at : Option ℕ → ℕ → Packet → TileState → Option TileState
stored_at None set p s = None
stored_at (Some slot) set p s = Some (record s {
  pool = put_at slot p.bytes set s.pool;
  senders = slice_set s.senders slot (record { origin = p.origin; number = p.number });
})

-- no slot is taken for nobody
abbrev pub stored : ℕ → Packet → TileState → Option TileState
stored set p s = if set == 0 then Some s else stored_at (first_free s.pool) set p s

-- this many letters more were dropped
abbrev pub counted : ℕ → Option TileState → Option TileState
counted n o = option_map (λ (s : TileState). record s { dropped = s.dropped + n }) o

-- a message for threads of this tile: those that are alive get it in one slot, for the others it is dropped
abbrev pub received : TilePlan → Packet → TileState → Option TileState
received plan p s =
    let set = receivers plan.shape p.dest in
    counted (count_ones (dead_of s.threads set)) (stored (alive_of s.threads set) p s)

-- whose packet a slot has, and which of its packets; None if the slot is free
abbrev pub origin_of : Sender → ℕ × ℕ
origin_of sender = (sender.origin, sender.number)

abbrev pub sender_of : ℕ → TileState → Option (ℕ × ℕ)
sender_of slot s = option_map (λ bytes. origin_of (slice_index_or s.senders slot (record { origin = 0; number = 0 }))) (message_at s.pool slot)

abbrev pub with_node : TileState → Node → TileState
with_node s node = record s { node = node }

-- a packet that goes on waits for its way out, if no other packet waits there
abbrev pub sent_on : Port → Packet → TileState → Option TileState
sent_on way p s = option_map (with_node s) (waits way p s.node)

-- a packet that came to the tile: to its receivers here, or on to another part
abbrev pub passed_by : TilePlan → Port → Packet → TileState → Option TileState
passed_by plan port.Here p s = received plan p s
passed_by plan port.East p s = sent_on port.East p s
passed_by plan port.West p s = sent_on port.West p s
passed_by plan port.South p s = sent_on port.South p s
passed_by plan port.North p s = sent_on port.North p s
passed_by plan port.Up p s = sent_on port.Up p s
passed_by plan port.Down p s = None
passed_by plan port.HostPort p s = None

abbrev pub passed : TilePlan → Packet → TileState → Option TileState
passed plan p s = passed_by plan (tile_port plan.tile p.dest) p s

-- the packet that the thread at a place sent is delivered
abbrev pub delivered_from : TilePlan → ℕ → Option Packet → TileState → Option TileState
delivered_from plan k None s = None
delivered_from plan k (Some p) s = passed plan p (record s { pending = slice_set s.pending k None })

abbrev pub deliver_row : TilePlan → ℕ → TileState → Option TileState
deliver_row plan a s =
    if is_here plan a && can_count s
    then delivered_from plan (place_in_tile plan.shape a) (pending_at s (place_in_tile plan.shape a)) s
    else None

-- the packet that waits for a way out is gone to a link
abbrev pub depart_row : Port → TileState → Option TileState
depart_row way s = option_map (with_node s) (node_departs way s.node)

-- the tile takes a packet of the machine that came from a link
abbrev pub accepted : TilePlan → Packet → TileState → Option TileState
accepted plan p s = if has_packet plan.shape p then passed plan p s else None

-- a packet came from a link
abbrev pub came : TileState → TileState
came s = with_node s (arrived s.node)

abbrev pub accept_row : TilePlan → Packet → TileState → Option TileState
accept_row plan p s = if can_count s && can_arrive s.node then option_map came (accepted plan p s) else None

-- the detector's side: the tile reported, was released with an answer, and was let go
abbrev pub tile_whitened : TileState → TileState
tile_whitened s = with_node s (whitened s.node)

abbrev pub told : ℕ → Thread → Thread
told value t = if is_idle t.state then answered value t else t

abbrev pub released : ℕ → TileState → TileState
released value s = record s { node = held_back s.node; threads = map (told value) s.threads }

abbrev pub gone_on : TileState → TileState
gone_on s = with_node s (let_go s.node)

-- what the tile tells the detector
abbrev pub tile_facts : TileState → PartFacts
tile_facts s = facts_of s.node (is_still s) (has_live s) (all_vote s) false

-- what a deed makes of a tile, if the tile can do it
abbrev pub tile_deed : TilePlan → Deed → TileState → Option TileState
tile_deed plan (deed.Turn t n) s = turn_row plan t.0 n s
tile_deed plan (deed.Deliver t) s = deliver_row plan t.0 s
tile_deed plan (deed.Give way k) s = option_map (with_node s) (give_row way k s.node)
tile_deed plan (deed.Take side k) s = accept_row plan k s
tile_deed plan deed.Route s = None
tile_deed plan (deed.HostPut k) s = None
tile_deed plan (deed.HostTake k) s = None
tile_deed plan (deed.Report i f) s = if_still (tile_facts s) f (tile_whitened s)
tile_deed plan deed.Begin s = None
tile_deed plan (deed.Confirm i f) s = if_own (tile_facts s) f s
tile_deed plan deed.Announce s = None
tile_deed plan (deed.Release i f) s = if_own (tile_facts s) f (released f.value s)
tile_deed plan (deed.Go i f) s = if_own (tile_facts s) f (gone_on s)
