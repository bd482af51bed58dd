-- Departures, arrivals and the host's messages in a whole machine, all of whose packets are on their way.
use Rattle.std.specs.Prelude.{◌≡◌, List, Some, None}
use Rattle.std.specs.List.{AllByRecursion}
use Rattle.tn_base.specs.declared.event.Event.TheVariants as event
use Rattle.tn_base.specs.declared.ids.PartId.{PartId}
use Rattle.tn_keys.specs.Tables.{Table}
use Rattle.tn_letters.specs.Tiles.{host_on}
use Rattle.tn_rows.specs.Events.{IsWorld, happened}
use Rattle.tn_rows.specs.WorldView.{WorldView}
use Rattle.polite_edges.specs.Runs.{IsAwait}
use Rattle.polite_flow.specs.World.{IsReady, WorldOnWay}

-- a packet that departs from a part of the machine keeps all packets on their way
abbrev pub DeparturesKeepWays : Type 0
DeparturesKeepWays = (tables : List Table) (p l : PartId) (w new : WorldView) → IsWorld w → IsReady tables w → WorldOnWay tables w → happened (event.Depart p l) w ≡ Some new → WorldOnWay tables new

-- a packet that arrives at a part of the machine keeps all packets on their way
abbrev pub ArrivalsKeepWays : Type 0
ArrivalsKeepWays = (tables : List Table) (l p : PartId) (w new : WorldView) → IsWorld w → IsReady tables w → WorldOnWay tables w → happened (event.Arrive l p) w ≡ Some new → WorldOnWay tables new

-- the host of a machine has no message to send, as in each job with a graph
abbrev pub HostSendsNothing : WorldView → Type 0
HostSendsNothing w = AllByRecursion IsAwait (host_on w).script

-- a host without messages puts no packet on its link
abbrev pub SuchHostsPutNothing : Type 0
SuchHostsPutNothing = (w : WorldView) → HostSendsNothing w → happened event.HostPut w ≡ None
