-- What tiles, routers and the host show of themselves to the laws of rest, and what a deed does to what they show.
use Rattle.std.specs.Prelude.{◌≡◌, true, false}
use Rattle.tn_host.specs.HostView.{HostState}
use Rattle.tn_host.specs.Rows.{host_facts}
use Rattle.tn_node.specs.declared.facts.PartFacts.{PartFacts}
use Rattle.tn_node.specs.Deed.{Deed}
use Rattle.tn_node.specs.Deed as deed
use Rattle.tn_rest.specs.declared.facts.Facts.{Facts}
use Rattle.tn_rest.specs.RestView.{Gets, Sends, Turns, Whitens, Works}
use Rattle.tn_router.specs.declared.state.RouterState.{RouterState}
use Rattle.tn_router.specs.Rows.{router_facts}
use Rattle.tn_rows.specs.DetectorDeed.{view_of}
use Rattle.tn_tile.specs.Rows.{tile_facts}
use Rattle.tn_tile.specs.declared.state.TileState.{TileState}

-- what each visited part shows
abbrev pub tile_shows : TileState → Facts
tile_shows s = record { view = view_of (tile_facts s); held = s.node.held }

abbrev pub router_shows : RouterState → Facts
router_shows s = record { view = view_of (router_facts s); held = s.node.held }

abbrev pub host_shows : HostState → Facts
host_shows s = record { view = view_of (host_facts s); held = s.node.held }

-- the facts that cross are those that the part shows
abbrev pub Tells : PartFacts → Facts → Type 0
Tells f p = view_of f ≡ p.view

-- what a deed does to what a part shows. A part does not begin and does not announce
abbrev pub DoesDeed : Deed → Facts → Facts → Type 0
DoesDeed (deed.Turn t n) p q = Works p q
DoesDeed (deed.Deliver t) p q = Works p q
DoesDeed deed.Route p q = Works p q
DoesDeed (deed.Give way k) p q = Sends p q
DoesDeed (deed.HostPut k) p q = Sends p q
DoesDeed (deed.Take side k) p q = Gets p q
DoesDeed (deed.HostTake k) p q = Gets p q
DoesDeed (deed.Report i f) p q = Tells f p × (p.view.still ≡ true) × Whitens p q
DoesDeed deed.Begin p q = ⊥
DoesDeed (deed.Confirm i f) p q = Tells f p × (q ≡ p)
DoesDeed deed.Announce p q = ⊥
DoesDeed (deed.Release i f) p q = Tells f p × Turns true p q
DoesDeed (deed.Go i f) p q = Tells f p × Turns false p q
