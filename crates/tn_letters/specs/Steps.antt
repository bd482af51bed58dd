-- The steps of the bag machine that events are.
use Rattle.std.specs.Prelude.{ℕ, zero, suc, Bool, List, [], ◌∷◌, ◌++◌, map, Option, Some, None, is_none, option_and_then, option_map, slice_get, unwrap_or}
use Rattle.std.specs.List.{filter}
use Rattle.tn_base.specs.declared.event.Event.{Event}
use Rattle.tn_base.specs.declared.event.Event.TheVariants as event
use Rattle.tn_base.specs.declared.message.Letter.{Letter}
use Rattle.tn_base.specs.declared.message.Packet.{Packet}
use Rattle.tn_base.specs.declared.op.Op.{Op}
use Rattle.tn_base.specs.declared.op.Op.TheVariants as op
use Rattle.tn_base.specs.declared.port.Port.{Port}
use Rattle.tn_base.specs.declared.port.Port.TheVariants as port
use Rattle.tn_base.specs.Address.{place_in_tile}
use Rattle.tn_base.specs.Ports.{tile_port}
use Rattle.tn_host.specs.declared.script.ScriptItem.{ScriptItem}
use Rattle.tn_host.specs.declared.script.ScriptItem.TheVariants as item
use Rattle.tn_host.specs.Rows.{host_letter}
use Rattle.tn_host.specs.Script.{first_item}
use Rattle.tn_rows.specs.Events.{carried, happened}
use Rattle.tn_rows.specs.PartView.{PartView, TileV, RouterV, LinkV, HostV, DetectorV, AbsentV}
use Rattle.tn_rows.specs.Places.{Places, Nowhere, One, Two, places}
use Rattle.tn_rows.specs.WorldView.{WorldView}
use Rattle.tn_slots.specs.Pool.{key_for, queue_at}
use Rattle.tn_slots.specs.Queues.{first_of}
use Rattle.tn_tile.specs.Receivers.{is_dead}
use Rattle.tn_tile.specs.Step.{pending_at, step_at_place, stepped, thread_at}
use Rattle.tn_tile.specs.TileView.{TileView, with_now}
use Rattle.tn_letters.specs.declared.steps.BagStep.{BagStep}
use Rattle.tn_letters.specs.declared.steps.BagStep.TheVariants as bag
use Rattle.tn_letters.specs.declared.steps.Seen.{Seen}
use Rattle.tn_keys.specs.Reach.{Reach}
use Rattle.tn_letters.specs.Letters.{host_address, letter, packet_letters}
use Rattle.tn_letters.specs.Tiles.{host_in, letter_in, reach_of}

-- what the tile shows to the thread at a place
abbrev pub seen_at : TileView → ℕ → Seen
seen_at v k = record {
  can_send = is_none (pending_at v.now k);
  first = first_of (queue_at v.now.pool k);
  key = key_for v.now.pool k;
}

-- the letters of the queue of the thread at a place, first to last
abbrev pub queued : TileView → ℕ → List Letter
queued v k = map (letter_in v k) (queue_at v.now.pool k)

-- the letter that the thread at a place would be handed
abbrev pub first_letter : TileView → ℕ → Letter
first_letter v k = letter_in v k (unwrap_or (first_of (queue_at v.now.pool k)) 0)

-- the step of the thread at an address, by what it asks for
abbrev pub step_by : ℕ → Seen → Letter → Op → BagStep
step_by a seen l op.None = bag.Private a seen
step_by a seen l (op.Send to bytes) = bag.Send a seen
step_by a seen l op.Hand = bag.Hand a seen l
step_by a seen l (op.Free slot) = bag.Free a seen slot
step_by a seen l (op.Idle vote) = bag.Idle a seen vote
step_by a seen l (op.Kill value) = bag.Private a seen
step_by a seen l (op.Trap why) = bag.Private a seen

-- a step that ends its thread drops the letters of its queue
abbrev pub dropped_by : List Letter → Op → List BagStep
dropped_by letters (op.Kill value) = map bag.Discard letters
dropped_by letters _ = []

-- one step of the thread at a place, which has this address
abbrev pub thread_step : ℕ → ℕ → TileView → List BagStep
thread_step a k v =
    step_by a (seen_at v k) (first_letter v k) (step_at_place v.plan.code k v.now).op ∷ dropped_by (queued v k) (step_at_place v.plan.code k v.now).op

-- the tile after one step of the thread at a place
abbrev pub after_step : ℕ → TileView → TileView
after_step k v = with_now v (stepped v.plan.code k v.now)

-- a turn: n steps of one thread
unfoldable pub turn_steps : ℕ → ℕ → ℕ → TileView → List BagStep
turn_steps a k zero v = []
turn_steps a k (suc n) v = thread_step a k v ++ turn_steps a k n (after_step k v)

-- the thread of the tile that a letter is for has ended
abbrev pub is_for_dead : TileView → Letter → Bool
is_for_dead v l = is_dead (thread_at v.now (place_in_tile v.plan.shape l.receiver)).state

-- a packet whose receivers are on the tile: its letters for threads that ended are dropped
abbrev pub dropped_at : Port → Reach → Packet → TileView → List BagStep
dropped_at port.Here reach p v = map bag.Discard (filter (is_for_dead v) (packet_letters v.plan.shape reach p))
dropped_at port.East reach p v = []
dropped_at port.West reach p v = []
dropped_at port.South reach p v = []
dropped_at port.North reach p v = []
dropped_at port.Up reach p v = []
dropped_at port.Down reach p v = []
dropped_at port.HostPort reach p v = []

abbrev pub delivery_steps : Reach → Option Packet → TileView → List BagStep
delivery_steps reach None v = []
delivery_steps reach (Some p) v = dropped_at (tile_port v.plan.tile p.dest) reach p v

-- the steps that an event on one tile is; it is a turn or a delivery. What a router does by itself is no step
abbrev pub tile_steps : Reach → Event → TileView → List BagStep
tile_steps reach (event.Turn t n) v = turn_steps t.0 (place_in_tile v.plan.shape t.0) n v
tile_steps reach (event.Deliver t) v = delivery_steps reach (pending_at v.now (place_in_tile v.plan.shape t.0)) v
tile_steps reach _ v = []

-- the steps that an event on the detector alone is: it announces the machine's rest, or begins to confirm, which is no step
abbrev pub detector_steps : Event → List BagStep
detector_steps event.Announce = bag.Announce ∷ []
detector_steps _ = []

abbrev pub part_steps : Reach → Event → Option PartView → List BagStep
part_steps reach e None = []
part_steps reach e (Some (TileV v)) = tile_steps reach e v
part_steps reach e (Some (RouterV v)) = []
part_steps reach e (Some (LinkV v)) = []
part_steps reach e (Some (HostV s)) = []
part_steps reach e (Some (DetectorV v)) = detector_steps e
part_steps reach e (Some AbsentV) = []

-- a part takes the packet that the other part of an event gives
abbrev pub taking_steps : Reach → Option Packet → PartView → List BagStep
taking_steps reach packet (TileV v) = delivery_steps reach packet v
taking_steps reach packet (RouterV v) = []
taking_steps reach packet (LinkV v) = []
taking_steps reach packet (HostV s) = []
taking_steps reach packet (DetectorV v) = []
taking_steps reach packet AbsentV = []

abbrev pub arrival_steps : Reach → Option Packet → Option PartView → List BagStep
arrival_steps reach packet None = []
arrival_steps reach packet (Some part) = taking_steps reach packet part

-- the host sends the message that comes next in its script, which has this number among its messages
abbrev pub send_steps : ℕ → Option ScriptItem → List BagStep
send_steps number None = []
send_steps number (Some (item.Send t bytes)) = bag.HostSend (letter host_address number t.0 bytes) ∷ []
send_steps number (Some item.AwaitIdle) = []

abbrev pub put_steps : Option PartView → List BagStep
put_steps None = []
put_steps (Some part) = send_steps (host_in part).sends (first_item (host_in part).script)

-- the host takes the letter of the packet that its link gives
abbrev pub take_steps : Option Packet → List BagStep
take_steps None = []
take_steps (Some k) = bag.HostHand (host_letter k) ∷ []

-- the steps that an event on two parts is; only what arrives can be dropped
abbrev pub meeting_steps : Reach → Event → Option PartView → Option PartView → List BagStep
meeting_steps reach (event.Arrive l p) low high = arrival_steps reach (option_and_then carried high) low
meeting_steps reach event.HostPut low high = put_steps low
meeting_steps reach event.HostTake low high = take_steps (option_and_then carried high)
meeting_steps reach _ low high = []

abbrev pub steps_at : Event → WorldView → Places → List BagStep
steps_at e w Nowhere = []
steps_at e w (One p) = part_steps (reach_of w) e (slice_get w.parts p)
steps_at e w (Two p q) = meeting_steps (reach_of w) e (slice_get w.parts p) (slice_get w.parts q)

-- the steps that an event is
abbrev pub event_steps : Event → WorldView → List BagStep
event_steps e w = steps_at e w (places w.shape e)

-- the steps that a history is; behind an event that is not enabled there are none
abbrev pub bag_of : WorldView → List Event → List BagStep
bag_of w [] = []
bag_of w (e ∷ es) = event_steps e w ++ unwrap_or (option_map (λ mid. bag_of mid es) (happened e w)) []
