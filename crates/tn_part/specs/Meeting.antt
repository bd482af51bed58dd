-- What an event on two parts asks of them.
use Rattle.std.specs.Prelude.{ℕ, Bool, Option, Some, None, nat_lt, if◌then◌else◌}
use Rattle.tn_base.specs.declared.event.Event.{Event}
use Rattle.tn_base.specs.declared.event.Event.TheVariants as event
use Rattle.tn_base.specs.declared.port.Port.{Port}
use Rattle.tn_base.specs.declared.port.Port.TheVariants as port
use Rattle.tn_base.specs.declared.shape.ShapeNumbers.{ShapeNumbers}
use Rattle.tn_base.specs.Parts.{kind_of, visited}
use Rattle.tn_rows.specs.Events.{FitsKind}
use Rattle.tn_rows.specs.PartView.{PartView}
use Rattle.tn_rows.specs.Places.{Places, Nowhere, One, Two, leads_from, leads_to, link_side, link_way}
use Rattle.tn_rows.specs.Roles.{IsHost, IsLink, IsSide, IsWay, NoLink, Visits}

-- the parts of an event are joined at this port: by the way of the link, or from its side. The host's links and the detector need no port
abbrev pub IsJoined : Event → PartView → PartView → Port → Type 0
IsJoined (event.Depart p l) low high at = IsWay low l.0 at × IsLink high
IsJoined (event.Arrive l p) low high at = IsSide low l.0 at × NoLink low
IsJoined event.HostPut low high at = IsHost low × IsLink high
IsJoined event.HostTake low high at = IsHost low × IsLink high
IsJoined (event.Report p) low high at = Visits p.0 high
IsJoined (event.Confirm p) low high at = Visits p.0 high
IsJoined (event.Release p) low high at = Visits p.0 high
IsJoined (event.Go p) low high at = Visits p.0 high
IsJoined _ low high at = Unit {0}

-- an event is no turn
abbrev pub IsNoTurn : Event → Type 0
IsNoTurn (event.Turn t n) = ⊥
IsNoTurn _ = Unit {0}

-- the port at which the two parts of an event are joined, if the machine has two such parts
abbrev pub port_if : Bool → Port → Option Port
port_if there at = if there then Some at else None

abbrev pub port_of : ShapeNumbers → Event → Option Port
port_of n (event.Depart p l) = port_if (leads_from p.0 (kind_of n l.0)) (link_way n l.0)
port_of n (event.Arrive l p) = port_if (leads_to p.0 (kind_of n l.0)) (link_side n l.0)
port_of n event.HostPut = Some port.Here
port_of n event.HostTake = Some port.Here
port_of n (event.Report p) = port_if (nat_lt p.0 (visited n)) port.Here
port_of n (event.Confirm p) = port_if (nat_lt p.0 (visited n)) port.Here
port_of n (event.Release p) = port_if (nat_lt p.0 (visited n)) port.Here
port_of n (event.Go p) = port_if (nat_lt p.0 (visited n)) port.Here
port_of n _ = None

-- the part of an event on one part, if the machine has such a part
abbrev pub one_place : Places → Option ℕ
one_place Nowhere = None
one_place (One p) = Some p
one_place (Two p q) = None

-- the parts of an event on two parts are what the shape names at their places
abbrev pub FitTwo : ShapeNumbers → Places → PartView → PartView → Type 0
FitTwo n Nowhere low high = Unit {0}
FitTwo n (One p) low high = Unit {0}
FitTwo n (Two p q) low high = FitsKind n (kind_of n p) low × FitsKind n (kind_of n q) high
