-- What each event makes of a router, if the event is enabled: of its plan, which stays, and its state.
use Rattle.std.specs.Prelude.{ℕ, ◌&&◌, Bool, true, false, List, [], ◌∷◌, Option, Some, None, is_none, option_map, if◌then◌else◌}
use Rattle.tn_base.specs.declared.message.Packet.{Packet}
use Rattle.tn_base.specs.declared.port.Port.{Port}
use Rattle.tn_base.specs.declared.port.Port.TheVariants as port
use Rattle.tn_base.specs.Message.{has_packet}
use Rattle.tn_node.specs.declared.facts.PartFacts.{PartFacts}
use Rattle.tn_node.specs.declared.node.Node.{Node}
use Rattle.tn_node.specs.declared.ports.Ports.{Ports}
use Rattle.tn_node.specs.Deed.{Deed}
use Rattle.tn_node.specs.Deed as deed
use Rattle.tn_node.specs.Facts.{facts_of, if_own, if_still}
use Rattle.tn_node.specs.NodeRows.{arrived, can_arrive, depart_row as node_departs, give_row, held_back, let_go, whitened}
use Rattle.tn_node.specs.PortRows.{all_empty, at, with_at}
use Rattle.tn_router.specs.declared.moves.Move.{Move}
use Rattle.tn_router.specs.declared.moves.Routed.{Routed}
use Rattle.tn_router.specs.declared.moves.Routed.TheVariants.{Moved, Nothing, BadKey}
use Rattle.tn_router.specs.declared.moves.Sent.{Sent}
use Rattle.tn_router.specs.declared.state.RouterState.{RouterState}
use Rattle.tn_router.specs.declared.work.Work.{Work}
use Rattle.tn_router.specs.Moves.{move_of}
use Rattle.tn_router.specs.Places.{has_side}
use Rattle.tn_router.specs.Rest.{started}
use Rattle.tn_router.specs.RouterView.{RouterPlan}

-- no packet waits for a way out, or there is no such way
abbrev pub is_free : Option Port → Ports Packet → Bool
is_free None out = true
is_free (Some way) out = is_none (at way out)

-- what is sent finds no packet that waits for its way out
abbrev pub has_room : Option Sent → Ports Packet → Bool
has_room None out = true
has_room (Some s) out = is_none (at s.way out)

abbrev pub with_sent : Option Sent → Ports Packet → Ports Packet
with_sent None out = out
with_sent (Some s) out = with_at s.way (Some s.packet) out

abbrev pub move_if : Move → RouterState → Option Move
move_if m s = if has_room m.sent s.node.out then Some m else None

-- how the packet of a side moves, if it can
abbrev pub move_with : RouterPlan → Port → Option Work → RouterState → Option Move
move_with plan side None s = None
move_with plan side (Some w) s = move_if (move_of plan.shape plan.board plan.beats side w) s

abbrev pub move_at : RouterPlan → Port → RouterState → Option Move
move_at plan side s = move_with plan side (at side s.inputs) s

-- the first of some moves that can be made
abbrev pub or_else : Option Move → Option Move → Option Move
or_else None others = others
or_else (Some m) others = Some m

abbrev pub first_of : RouterPlan → List Port → RouterState → Option Move
first_of plan [] s = None
first_of plan (side ∷ others) s = or_else (move_at plan side s) (first_of plan others s)

-- the sides from which packets come, in the order in which a Route looks at their places
abbrev pub sides : List Port
sides = port.Up ∷ port.East ∷ port.West ∷ port.South ∷ port.North ∷ port.HostPort ∷ []

-- how the first side moves that can
abbrev pub first_move : RouterPlan → RouterState → Option Move
first_move plan s = first_of plan sides s

-- the first bad key is noted
abbrev pub noted : Option ℕ → Option ℕ → Option ℕ
noted None bad = bad
noted (Some first) bad = Some first

-- a move is made
abbrev pub carried : RouterState → Move → RouterState
carried s m = record {
  inputs = with_at m.side m.work s.inputs;
  node = record s.node { out = with_sent m.sent s.node.out };
  ended = noted s.ended m.bad;
}

abbrev pub route_row : RouterPlan → RouterState → Option RouterState
route_row plan s = option_map (carried s) (first_move plan s)

-- what a Route answers: that it was not enabled, the bad key that it found, or that something moved
abbrev pub told : Option ℕ → Routed
told None = Moved
told (Some key) = BadKey key

abbrev pub answered : Option Move → Routed
answered None = Nothing
answered (Some m) = told m.bad

abbrev pub routed : RouterPlan → RouterState → Routed
routed plan s = answered (first_move plan s)

-- whether a Route did something
abbrev pub happened : Routed → Bool
happened Moved = true
happened Nothing = false
happened (BadKey key) = true

abbrev pub with_node : RouterState → Node → RouterState
with_node s node = record s { node = node }

-- the packet that waits for a way out is gone to a link
abbrev pub depart_row : Port → RouterState → Option RouterState
depart_row way s = option_map (with_node s) (node_departs way s.node)

-- the router would take a packet of the machine from a side from which a link leads here, if no packet of that side is in process
abbrev pub can_accept : RouterPlan → Port → Packet → RouterState → Bool
can_accept plan side p s = has_side plan.shape plan.board side && is_none (at side s.inputs) && has_packet plan.shape p

-- a packet came from a link
abbrev pub received : RouterPlan → Port → Packet → RouterState → RouterState
received plan side p s = record s {
  inputs = with_at side (Some (started plan.beats p)) s.inputs;
  node = arrived s.node;
}

abbrev pub accept_row : RouterPlan → Port → Packet → RouterState → Option RouterState
accept_row plan side p s = if can_accept plan side p s && can_arrive s.node then Some (received plan side p s) else None

-- the router does nothing by itself: no packet is in process, and no packet waits for a way out
abbrev pub is_still : RouterState → Bool
is_still s = all_empty s.inputs && all_empty s.node.out

-- the detector's side: the router reported, was released, and was let go
abbrev pub router_whitened : RouterState → RouterState
router_whitened s = with_node s (whitened s.node)

abbrev pub released : RouterState → RouterState
released s = with_node s (held_back s.node)

abbrev pub gone_on : RouterState → RouterState
gone_on s = with_node s (let_go s.node)

-- what the router tells the detector: it has no threads
abbrev pub router_facts : RouterState → PartFacts
router_facts s = facts_of s.node (is_still s) false true false

-- what a deed makes of a router, if the router can do it
abbrev pub router_deed : RouterPlan → Deed → RouterState → Option RouterState
router_deed plan (deed.Turn t n) s = None
router_deed plan (deed.Deliver t) s = None
router_deed plan (deed.Give way k) s = option_map (with_node s) (give_row way k s.node)
router_deed plan (deed.Take side k) s = accept_row plan side k s
router_deed plan deed.Route s = route_row plan s
router_deed plan (deed.HostPut k) s = None
router_deed plan (deed.HostTake k) s = None
router_deed plan (deed.Report i f) s = if_still (router_facts s) f (router_whitened s)
router_deed plan deed.Begin s = None
router_deed plan (deed.Confirm i f) s = if_own (router_facts s) f s
router_deed plan deed.Announce s = None
router_deed plan (deed.Release i f) s = if_own (router_facts s) f (released s)
router_deed plan (deed.Go i f) s = if_own (router_facts s) f (gone_on s)
