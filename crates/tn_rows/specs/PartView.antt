use Rattle.std.specs.Prelude.{Option, Some, None}
use Rattle.tn_detect.specs.DetectorView.{DetectorView}
use Rattle.tn_host.specs.HostView.{HostState}
use Rattle.tn_link.specs.LinkView.{LinkView}
use Rattle.tn_router.specs.RouterView.{RouterView}
use Rattle.tn_tile.specs.TileView.{TileView}

-- a part as the laws see it. Where no part is, the part is absent
pub data PartView : Type 0 where
  TileV : TileView → PartView
  RouterV : RouterView → PartView
  LinkV : LinkView → PartView
  HostV : HostState → PartView
  DetectorV : DetectorView → PartView
  AbsentV : PartView

-- the tile that a part is, the router, the link, the host, and the detector
abbrev pub tile_of : PartView → Option TileView
tile_of (TileV v) = Some v
tile_of (RouterV v) = None
tile_of (LinkV v) = None
tile_of (HostV s) = None
tile_of (DetectorV v) = None
tile_of AbsentV = None

abbrev pub router_of : PartView → Option RouterView
router_of (TileV v) = None
router_of (RouterV v) = Some v
router_of (LinkV v) = None
router_of (HostV s) = None
router_of (DetectorV v) = None
router_of AbsentV = None

abbrev pub link_of : PartView → Option LinkView
link_of (TileV v) = None
link_of (RouterV v) = None
link_of (LinkV v) = Some v
link_of (HostV s) = None
link_of (DetectorV v) = None
link_of AbsentV = None

abbrev pub host_of : PartView → Option HostState
host_of (TileV v) = None
host_of (RouterV v) = None
host_of (LinkV v) = None
host_of (HostV s) = Some s
host_of (DetectorV v) = None
host_of AbsentV = None

abbrev pub detector_of : PartView → Option DetectorView
detector_of (TileV v) = None
detector_of (RouterV v) = None
detector_of (LinkV v) = None
detector_of (HostV s) = None
detector_of (DetectorV v) = Some v
detector_of AbsentV = None
