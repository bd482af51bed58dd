-- What a part is to an event on it and another part.
use Rattle.std.specs.Prelude.{ℕ, ◌≡◌, ◌<◌, Bool, false, not}
use Rattle.tn_base.specs.declared.port.Port.{Port}
use Rattle.tn_node.specs.PortRows.{all_empty}
use Rattle.tn_rows.specs.PartView.{PartView, TileV, RouterV, LinkV, HostV, DetectorV, AbsentV}
use Rattle.tn_rows.specs.Places.{link_side, link_way}

-- link l leads away from a tile or a router by this way
abbrev pub IsWay : PartView → ℕ → Port → Type 0
IsWay (TileV v) l way = way ≡ link_way v.plan.shape l
IsWay (RouterV v) l way = way ≡ link_way v.plan.shape l
IsWay (LinkV v) l way = Unit {0}
IsWay (HostV s) l way = Unit {0}
IsWay (DetectorV v) l way = Unit {0}
IsWay AbsentV l way = Unit {0}

-- link l leads to a router from this side; all sides of a tile are alike
abbrev pub IsSide : PartView → ℕ → Port → Type 0
IsSide (TileV v) l side = Unit {0}
IsSide (RouterV v) l side = side ≡ link_side v.plan.shape l
IsSide (LinkV v) l side = Unit {0}
IsSide (HostV s) l side = Unit {0}
IsSide (DetectorV v) l side = Unit {0}
IsSide AbsentV l side = Unit {0}

-- a part is a link, and a part is none
abbrev pub IsLink : PartView → Type 0
IsLink (TileV v) = ⊥
IsLink (RouterV v) = ⊥
IsLink (LinkV v) = Unit {0}
IsLink (HostV s) = ⊥
IsLink (DetectorV v) = ⊥
IsLink AbsentV = ⊥

abbrev pub NoLink : PartView → Type 0
NoLink (TileV v) = Unit {0}
NoLink (RouterV v) = Unit {0}
NoLink (LinkV v) = ⊥
NoLink (HostV s) = Unit {0}
NoLink (DetectorV v) = Unit {0}
NoLink AbsentV = Unit {0}

-- a part is the host
abbrev pub IsHost : PartView → Type 0
IsHost (TileV v) = ⊥
IsHost (RouterV v) = ⊥
IsHost (LinkV v) = ⊥
IsHost (HostV s) = Unit {0}
IsHost (DetectorV v) = ⊥
IsHost AbsentV = ⊥

-- a part is a detector that visits part i
abbrev pub Visits : ℕ → PartView → Type 0
Visits i (TileV v) = ⊥
Visits i (RouterV v) = ⊥
Visits i (LinkV v) = ⊥
Visits i (HostV s) = ⊥
Visits i (DetectorV v) = i < v.visited
Visits i AbsentV = ⊥

-- a packet waits on a part for a way out; on the host no packet waits
abbrev pub offers : PartView → Bool
offers (TileV v) = not (all_empty v.now.node.out)
offers (RouterV v) = not (all_empty v.now.node.out)
offers (LinkV v) = false
offers (HostV s) = false
offers (DetectorV v) = false
offers AbsentV = false
