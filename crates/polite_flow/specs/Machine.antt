-- The places of a machine's links: where a packet stands on a link, and where the link brings the packet.
use Rattle.std.specs.Prelude.{ℕ, ◌≡◌}
use Rattle.tn_base.specs.declared.ids.PartId.{PartId}
use Rattle.tn_base.specs.declared.message.Dest.{Dest}
use Rattle.tn_base.specs.declared.part.Kind.{Kind}
use Rattle.tn_base.specs.declared.part.Kind.TheVariants as kind
use Rattle.tn_base.specs.declared.port.Port.{Port}
use Rattle.tn_base.specs.declared.shape.ShapeNumbers.{ShapeNumbers}
use Rattle.tn_base.specs.Parts.{kind_of}
use Rattle.tn_base.specs.Ports.{tile_port}
use Rattle.tn_rows.specs.Places.{link_side, link_way}
use Rattle.polite_flow.specs.Flow.{Way, Out, To}
use Rattle.polite_flow.specs.Places.{Bound, Place, RouterLink, TileLink, Works, next, out_by, tile_named}

-- where a packet goes that comes to a part of this kind from a side: a tile passes it on by the machine's way or takes it into slots, a router
-- works at it, and the host takes it
abbrev pub comes_to : Kind → Port → Dest → Way Place
comes_to (kind.Tile a) side to = out_by (tile_named a.0) (tile_port a.0 to)
comes_to (kind.Router b) side to = To (Works b side)
comes_to kind.Host side to = Out
comes_to (kind.Link from onto) side to = Out
comes_to kind.Detector side to = Out

-- a packet on the link by a way out of a part of one kind goes where the part of the other kind sends it. No packet of a graph's job is on
-- the link from the host
abbrev pub LeadsOn : ShapeNumbers → Dest → Port → Port → Kind → Kind → Type 0
LeadsOn n to way side (kind.Tile a) b = next n (TileLink (tile_named a.0) way) (Bound to) ≡ comes_to b side to
LeadsOn n to way side (kind.Router a) b = next n (RouterLink a way) (Bound to) ≡ comes_to b side to
LeadsOn n to way side kind.Host b = Unit {0}
LeadsOn n to way side (kind.Link from onto) b = Unit {0}
LeadsOn n to way side kind.Detector b = Unit {0}

-- the links of a machine lead on as the places say
abbrev pub LinksLeadOn : ShapeNumbers → Type 0
LinksLeadOn n = (l : ℕ) (from onto : PartId) (to : Dest) → kind_of n l ≡ kind.Link from onto → LeadsOn n to (link_way n l) (link_side n l) (kind_of n from.0) (kind_of n onto.0)
