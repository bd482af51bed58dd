-- What a part becomes when the detector visits it.
use Rattle.std.specs.Prelude.{ℕ}
use Rattle.tn_host.specs.Rows.{gone_on as host_gone_on, host_whitened, released as host_released}
use Rattle.tn_router.specs.Rows.{gone_on as router_gone_on, released as router_released, router_whitened}
use Rattle.tn_router.specs.RouterView.{with_now as router_with_now}
use Rattle.tn_tile.specs.Rows.{gone_on as tile_gone_on, released as tile_released, tile_whitened}
use Rattle.tn_tile.specs.TileView.{with_now}
use Rattle.tn_rows.specs.PartView.{PartView, TileV, RouterV, LinkV, HostV, DetectorV, AbsentV}

-- a part that reported
abbrev pub whitened_part : PartView → PartView
whitened_part (TileV v) = TileV (with_now v (tile_whitened v.now))
whitened_part (RouterV v) = RouterV (router_with_now v (router_whitened v.now))
whitened_part (LinkV v) = LinkV v
whitened_part (HostV s) = HostV (host_whitened s)
whitened_part (DetectorV v) = DetectorV v
whitened_part AbsentV = AbsentV

-- a part after its release with this value
abbrev pub released_part : ℕ → PartView → PartView
released_part value (TileV v) = TileV (with_now v (tile_released value v.now))
released_part value (RouterV v) = RouterV (router_with_now v (router_released v.now))
released_part value (LinkV v) = LinkV v
released_part value (HostV s) = HostV (host_released s)
released_part value (DetectorV v) = DetectorV v
released_part value AbsentV = AbsentV

-- a part that goes on
abbrev pub going_part : PartView → PartView
going_part (TileV v) = TileV (with_now v (tile_gone_on v.now))
going_part (RouterV v) = RouterV (router_with_now v (router_gone_on v.now))
going_part (LinkV v) = LinkV v
going_part (HostV s) = HostV (host_gone_on s)
going_part (DetectorV v) = DetectorV v
going_part AbsentV = AbsentV
