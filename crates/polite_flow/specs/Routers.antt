-- Routers whose packets are all on their way.
use Rattle.std.specs.Prelude.{◌≡◌, false, List, [], ◌∷◌, length, map, Option, Some, None}
use Rattle.std.specs.List.{AllByRecursion}
use Rattle.tn_base.specs.declared.ids.Board.{Board}
use Rattle.tn_base.specs.declared.message.Dest.{Dest}
use Rattle.tn_base.specs.declared.message.Dest.TheVariants as dest
use Rattle.tn_base.specs.declared.message.Packet.{Packet}
use Rattle.tn_base.specs.declared.port.Port.{Port}
use Rattle.tn_base.specs.declared.shape.ShapeNumbers.{ShapeNumbers}
use Rattle.tn_keys.specs.Tables.{HasBoard, Table, is_bad_key, table_of}
use Rattle.tn_node.specs.Deed.{Deed}
use Rattle.tn_node.specs.Deed as deed
use Rattle.tn_node.specs.PortRows.{at}
use Rattle.tn_router.specs.declared.state.RouterState.{RouterState}
use Rattle.tn_router.specs.declared.work.Work.{Work}
use Rattle.tn_router.specs.Kept.{IsFit}
use Rattle.tn_router.specs.Rest.{rest_by}
use Rattle.tn_router.specs.RouterView.{RouterPlan}
use Rattle.tn_router.specs.Rows.{router_deed}
use Rattle.polite_flow.specs.Flow.{To}
use Rattle.polite_flow.specs.Law.{HasRoutes}
use Rattle.polite_flow.specs.OnWay.{Fits}
use Rattle.polite_flow.specs.Places.{Item, Bound, Due, Place, RouterLink, RouterWaits, Works, next}

-- the router of a board with its table
abbrev pub plan_of : ShapeNumbers → List Table → Board → RouterPlan
plan_of n tables b = record { shape = n; board = b; beats = table_of n tables b }

-- a packet that waits for a way out is on its way
abbrev pub WaitsFit : ShapeNumbers → List Table → Board → Port → Option Packet → Type 0
WaitsFit n tables b way None = Unit {0}
WaitsFit n tables b way (Some k) = Fits n tables (RouterWaits b way) (Bound k.dest)

-- what is still to come of a packet in process: a copy for each record still to come of its key, or the whole packet
abbrev pub still_to : Table → Work → Dest → List Item
still_to table w (dest.Thread t) = Bound (dest.Thread t) ∷ []
still_to table w dest.Host = Bound dest.Host ∷ []
still_to table w (dest.Mask tile mask) = Bound (dest.Mask tile mask) ∷ []
still_to table w (dest.Key key) = map Due (rest_by table w key)

abbrev pub IsGoodKey : Table → Dest → Type 0
IsGoodKey table (dest.Thread t) = Unit {0}
IsGoodKey table dest.Host = Unit {0}
IsGoodKey table (dest.Mask tile mask) = Unit {0}
IsGoodKey table (dest.Key key) = is_bad_key (length table) key ≡ false

-- a packet in process: its key is good, and what is still to come of it is on its way
abbrev pub ProcessFits : ShapeNumbers → List Table → Board → Port → Option Work → Type 0
ProcessFits n tables b side None = Unit {0}
ProcessFits n tables b side (Some w) =
    IsGoodKey (table_of n tables b) w.packet.dest × AllByRecursion (Fits n tables (Works b side)) (still_to (table_of n tables b) w w.packet.dest)

-- each packet of a router is on its way, and the router found no bad key
pub record RouterOnWay (n : ShapeNumbers) (tables : List Table) (b : Board) (s : RouterState) : Type 0 where
  pub process : (side : Port) → ProcessFits n tables b side (at side s.inputs)
  pub waits : (way : Port) → WaitsFit n tables b way (at way s.node.out)
  pub ended : s.ended ≡ None

-- a packet for this destination comes to a router from a place at which it is on its way
pub record Comes (n : ShapeNumbers) (tables : List Table) (b : Board) (side : Port) (to : Dest) : Type 0 where
  pub from : Place
  pub fits : Fits n tables from (Bound to)
  pub leads : next n from (Bound to) ≡ To (Works b side)

-- if the router takes a packet, the packet comes so
abbrev pub TakesWhatComes : ShapeNumbers → List Table → Board → Deed → Type 0
TakesWhatComes n tables b (deed.Take side k) = Comes n tables b side k.dest
TakesWhatComes n tables b (deed.Turn t k) = Unit {0}
TakesWhatComes n tables b (deed.Deliver t) = Unit {0}
TakesWhatComes n tables b (deed.Give way k) = Unit {0}
TakesWhatComes n tables b deed.Route = Unit {0}
TakesWhatComes n tables b (deed.HostPut k) = Unit {0}
TakesWhatComes n tables b (deed.HostTake k) = Unit {0}
TakesWhatComes n tables b (deed.Report i f) = Unit {0}
TakesWhatComes n tables b deed.Begin = Unit {0}
TakesWhatComes n tables b (deed.Confirm i f) = Unit {0}
TakesWhatComes n tables b deed.Announce = Unit {0}
TakesWhatComes n tables b (deed.Release i f) = Unit {0}
TakesWhatComes n tables b (deed.Go i f) = Unit {0}

-- each deed of a router keeps its packets on their way, so that no Route finds a bad key
abbrev pub RoutersKeepWays : Type 0
RoutersKeepWays = (n : ShapeNumbers) (tables : List Table) (b : Board) (d : Deed) (s t : RouterState) → HasRoutes n tables → HasBoard n b → IsFit (plan_of n tables b) s → TakesWhatComes n tables b d → RouterOnWay n tables b s → router_deed (plan_of n tables b) d s ≡ Some t → RouterOnWay n tables b t

-- a packet that a router gives to a link is on its way there
abbrev pub RoutersGiveWays : Type 0
RoutersGiveWays = (n : ShapeNumbers) (tables : List Table) (b : Board) (way : Port) (k : Packet) (s t : RouterState) → RouterOnWay n tables b s → router_deed (plan_of n tables b) (deed.Give way k) s ≡ Some t → Fits n tables (RouterLink b way) (Bound k.dest)
