-- The laws of deeds and of machines.
use Rattle.std.specs.Prelude.{ℕ, ◌≡◌, ◌≢◌, ◌↔◌, List, Some, IsSome}
use Rattle.tn_base.specs.declared.event.Event.{Event}
use Rattle.tn_base.specs.declared.event.Event.TheVariants as event
use Rattle.tn_base.specs.Parts.{visited}
use Rattle.tn_base.specs.Shape.{WithinLimits}
use Rattle.tn_detect.specs.declared.phase.Phase.TheVariants as phase
use Rattle.tn_detect.specs.declared.state.DetectorState.{DetectorState}
use Rattle.tn_host.specs.HostView.{HostState}
use Rattle.tn_host.specs.Rows.{host_deed}
use Rattle.tn_node.specs.Deed.{Deed}
use Rattle.tn_router.specs.declared.state.RouterState.{RouterState}
use Rattle.tn_router.specs.Rows.{router_deed}
use Rattle.tn_router.specs.RouterView.{RouterPlan}
use Rattle.tn_rest.specs.Happens.{RestEvent}
use Rattle.tn_rest.specs.Law.{Announces, IsStart}
use Rattle.tn_rest.specs.Quiet.{IsAtRest, IsQuiet}
use Rattle.tn_rest.specs.Seen.{Steps, seen}
use Rattle.tn_rows.specs.Runs.{Walk}
use Rattle.tn_rows.specs.Events.{IsWorld, happened}
use Rattle.tn_rows.specs.WorldView.{WorldView}
use Rattle.tn_tile.specs.Rows.{tile_deed}
use Rattle.tn_tile.specs.declared.state.TileState.{TileState}
use Rattle.tn_tile.specs.TileView.{TilePlan}
use Rattle.tn_rows.specs.DetectorDeed.{DetectorDoes, detector_deed}
use Rattle.tn_quiet.specs.Machine.{as_rest, link_count, rest_of, shown}
use Rattle.tn_quiet.specs.Shows.{DoesDeed, host_shows, router_shows, tile_shows}

abbrev pub TilesDo : Type 0
TilesDo = (plan : TilePlan) (d : Deed) (s t : TileState) → tile_deed plan d s ≡ Some t → DoesDeed d (tile_shows s) (tile_shows t)

abbrev pub RoutersDo : Type 0
RoutersDo = (plan : RouterPlan) (d : Deed) (s t : RouterState) → router_deed plan d s ≡ Some t → DoesDeed d (router_shows s) (router_shows t)

abbrev pub HostsDo : Type 0
HostsDo = (d : Deed) (s t : HostState) → host_deed d s ≡ Some t → DoesDeed d (host_shows s) (host_shows t)

abbrev pub DetectorsDo : Type 0
DetectorsDo = (n : ℕ) (d : Deed) (s t : DetectorState) → (detector_deed n d s ≡ Some t) ↔ DetectorDoes n d s t

-- each event of a machine does to what its parts show what the event of the laws does
pub record IsStep (e : Event) (old new : WorldView) : Type 0 where
  pub event : RestEvent
  pub is : as_rest old.shape e ≡ Some event
  pub steps : Steps (visited old.shape) (link_count old.shape) event (shown old) (shown new)

abbrev pub MachinesStep : Type 0
MachinesStep = (e : Event) (old new : WorldView) → WithinLimits old.shape → IsWorld old → happened e old ≡ Some new → IsStep e old new

-- ---- runs of a machine

-- a machine has its parts, and the detector's invariant holds of it
pub record IsQuietWorld (w : WorldView) : Type 0 where
  pub world : IsWorld w
  pub quiet : IsQuiet (visited w.shape) (link_count w.shape) (rest_of w)

-- from a start, the invariant holds at each moment of every walk
abbrev pub MachinesAreQuiet : Type 0
MachinesAreQuiet = (events : List Event) (start end : WorldView) → WithinLimits start.shape → IsWorld start → IsStart (visited start.shape) (rest_of start) → Walk start events end → IsQuietWorld end

-- and each announcement comes at rest, with the answer of all parts
abbrev pub MachinesAnnounceAtRest : Type 0
MachinesAnnounceAtRest = (events : List Event) (start old new : WorldView) → WithinLimits start.shape → IsWorld start → IsStart (visited start.shape) (rest_of start) → Walk start events old → happened event.Announce old ≡ Some new
    → Announces (visited old.shape) (link_count old.shape) (rest_of old) (seen (visited old.shape) (link_count old.shape) (shown new))

-- at rest an event is enabled, and at any time if the detector does not collect reports
abbrev pub MachinesAreOpenAtRest : Type 0
MachinesAreOpenAtRest = (w : WorldView) → WithinLimits w.shape → IsQuietWorld w → IsAtRest (visited w.shape) (link_count w.shape) (rest_of w) → (e : Event) × IsSome (happened e w)

abbrev pub MachinesAreOpenOutsideCollect : Type 0
MachinesAreOpenOutsideCollect = (w : WorldView) → WithinLimits w.shape → IsQuietWorld w → (rest_of w).detector.phase ≢ phase.Collect → (e : Event) × IsSome (happened e w)
