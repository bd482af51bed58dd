-- Each event keeps a machine flowing.
use Rattle.std.proofs.Common.{ℕ, ◌≡◌, Bool, true, false, cond, sym, ap, ◌∙◌, subst, List, [], ◌∷◌, get_or, Option, Some, None}
use Rattle.std.specs.List.{AllByRecursion}
use Rattle.tn_base.specs.declared.event.Event.{Event}
use Rattle.tn_base.specs.declared.event.Event.TheVariants as event
use Rattle.tn_base.specs.declared.shape.ShapeNumbers.{ShapeNumbers}
use Rattle.tn_host.specs.declared.script.ScriptItem.{ScriptItem}
use Rattle.tn_host.specs.declared.script.ScriptItem.TheVariants as item
use Rattle.tn_host.specs.HostView.{HostState}
use Rattle.tn_host.specs.Rows.{host_deed}
use Rattle.tn_host.specs.Script.{items_behind, past_await}
use Rattle.tn_keys.specs.Tables.{HasBoard, Table}
use Rattle.tn_letters.proofs.EventParts.{event_parts}
use Rattle.tn_letters.specs.Tiles.{host_in}
use Rattle.tn_node.specs.Deed.{Deed}
use Rattle.tn_node.specs.Deed as deed
use Rattle.tn_quiet.proofs.Runs.{kept_at}
use Rattle.tn_router.proofs.Deeds.{deed_shaped}
use Rattle.tn_router.specs.declared.state.RouterState.{RouterState}
use Rattle.tn_router.specs.Kept.{IsFit}
use Rattle.tn_router.specs.RouterView.{RouterPlan, RouterView, now_by as router_now_by}
use Rattle.tn_rows.specs.Events.{after, deed_of, detector_row, happened, host_did, link_row, plain_deed, router_did, tile_row}
use Rattle.tn_rows.specs.PartView.{PartView, TileV, RouterV, LinkV, HostV, DetectorV, AbsentV}
use Rattle.tn_rows.specs.Places.{places}
use Rattle.tn_rows.specs.WorldView.{WorldView}
use Rattle.tn_rows.proofs.Meeting.{mapped}
use Rattle.tn_stamp.specs.declared.entry.Crossing.{Crossing}
use Rattle.polite_edges.specs.Runs.{IsAwait}
use Rattle.polite_flow.specs.Flowing.{IsFlowing, TurnFits}
use Rattle.polite_flow.specs.Law.{HasRoutes}
use Rattle.polite_flow.specs.World.{PartReady, RouterReady, WorldOnWay}
use Rattle.polite_flow.proofs.Arriving.{arrivals_keep}
use Rattle.polite_flow.proofs.Departing.{departures_keep}
use Rattle.polite_flow.proofs.HostStill.{puts_nothing}
use Rattle.polite_flow.proofs.Meetings.{some_is}
use Rattle.polite_flow.proofs.World.{events_keep}

-- ---- routers stay ready

router_ready : (n : ShapeNumbers) (tables : List Table) (v : RouterView) (d : Option Deed) (new : RouterView) → RouterReady n tables v → router_now_by v (router_did v.plan v.now d) ≡ Some new → RouterReady n tables new
router_ready n tables v None new r h = cc h
router_ready n tables v (Some d) new r h =
    let b = mapped (λ (t : RouterState). record v { now = t }) (router_did v.plan v.now (Some d)) new h in
    let fit : IsFit v.plan b.0 = deed_shaped v.plan d v.now b.0 (shaped v r) r.fit b.1 in
    subst (RouterReady n tables) b.2 (record { plan = r.plan; on = r.on; fit = fit })
  where
    shaped : (v : RouterView) → RouterReady n tables v → HasBoard v.plan.shape v.plan.board
    shaped v r = subst (λ s. HasBoard s v.plan.board) (sym (ap (λ (q : RouterPlan). q.shape) r.plan)) r.on

ready_after : (n : ShapeNumbers) (tables : List Table) (e : Event) (c : Crossing) (x y : PartView) → PartReady n tables x → after e c x ≡ Some y → PartReady n tables y
ready_after n tables e c (TileV v) y r h = let m = mapped TileV (tile_row e c v) y h in subst (PartReady n tables) m.2 tt
ready_after n tables e c (RouterV v) y r h =
    let m = mapped RouterV (router_now_by v (router_did v.plan v.now (deed_of v.plan.shape e c))) y h in
    subst (PartReady n tables) m.2 (router_ready n tables v (deed_of v.plan.shape e c) m.0 r m.1)
ready_after n tables e c (LinkV v) y r h = let m = mapped LinkV (link_row e c v) y h in subst (PartReady n tables) m.2 tt
ready_after n tables e c (HostV s) y r h = let m = mapped HostV _ y h in subst (PartReady n tables) m.2 tt
ready_after n tables e c (DetectorV v) y r h = let m = mapped DetectorV (detector_row e c v) y h in subst (PartReady n tables) m.2 tt
ready_after n tables e c AbsentV y r h = cc h

-- ---- the host's script

waits_behind : (script : List ScriptItem) → AllByRecursion IsAwait script → AllByRecursion IsAwait (items_behind script)
waits_behind [] all = tt
waits_behind (x ∷ xs) all = all.1

waits_past : (script : List ScriptItem) → AllByRecursion IsAwait script → AllByRecursion IsAwait (past_await script)
waits_past [] all = tt
waits_past (item.Send t bytes ∷ xs) all = all
waits_past (item.AwaitIdle ∷ xs) all = all.1

abbrev Waits : HostState → Type 0
Waits s = AllByRecursion IsAwait s.script

waits_if : (there : Bool) (x t : HostState) → Waits x → cond there (Some x) None ≡ Some t → Waits t
waits_if true x t all h = subst Waits (some_is x t h) all
waits_if false x t all h = cc h

host_waits : (d : Deed) (s t : HostState) → Waits s → host_deed d s ≡ Some t → Waits t
host_waits (deed.Turn a k) s t all h = cc h
host_waits (deed.Deliver a) s t all h = cc h
host_waits (deed.Give way k) s t all h = cc h
host_waits (deed.Take side k) s t all h = cc h
host_waits deed.Route s t all h = cc h
host_waits (deed.HostPut k) s t all h = waits_if _ _ t (waits_behind s.script all) h
host_waits (deed.HostTake k) s t all h = waits_if _ _ t all h
host_waits (deed.Report i f) s t all h = waits_if _ _ t all h
host_waits deed.Begin s t all h = cc h
host_waits (deed.Confirm i f) s t all h = waits_if _ _ t all h
host_waits deed.Announce s t all h = cc h
host_waits (deed.Release i f) s t all h = waits_if _ _ t (waits_past s.script all) h
host_waits (deed.Go i f) s t all h = waits_if _ _ t all h

host_did_waits : (d : Option Deed) (s t : HostState) → Waits s → host_did s d ≡ Some t → Waits t
host_did_waits None s t all h = cc h
host_did_waits (Some d) s t all h = host_waits d s t all h

abbrev StillHost : PartView → Type 0
StillHost x = Waits (host_in x)

still_after : (e : Event) (c : Crossing) (x y : PartView) → StillHost x → after e c x ≡ Some y → StillHost y
still_after e c (TileV v) y r h = let m = mapped TileV (tile_row e c v) y h in subst StillHost m.2 tt
still_after e c (RouterV v) y r h = let m = mapped RouterV _ y h in subst StillHost m.2 tt
still_after e c (LinkV v) y r h = let m = mapped LinkV (link_row e c v) y h in subst StillHost m.2 tt
still_after e c (HostV s) y r h = let m = mapped HostV (host_did s (plain_deed e c)) y h in subst StillHost m.2 (host_did_waits (plain_deed e c) s m.0 r m.1)
still_after e c (DetectorV v) y r h = let m = mapped DetectorV (detector_row e c v) y h in subst StillHost m.2 tt
still_after e c AbsentV y r h = cc h

-- ---- each event

ways_kept : (tables : List Table) (e : Event) (w new : WorldView) → IsFlowing tables w → TurnFits w.shape tables e new → happened e w ≡ Some new → WorldOnWay tables new
ways_kept tables (event.Turn who k) w new f t h = events_keep tables (event.Turn who k) w new f.ready f.ways t h
ways_kept tables (event.Deliver who) w new f t h = events_keep tables (event.Deliver who) w new f.ready f.ways tt h
ways_kept tables (event.Depart p l) w new f t h = departures_keep tables p l w new f.world f.ready f.ways h
ways_kept tables (event.Arrive l p) w new f t h = arrivals_keep tables l p w new f.world f.ready f.ways h
ways_kept tables (event.Route p) w new f t h = events_keep tables (event.Route p) w new f.ready f.ways tt h
ways_kept tables event.HostPut w new f t h = none_happens (sym (puts_nothing w f.host) ∙ h)
  where
    none_happens : None ≡ Some new → WorldOnWay tables new
    none_happens e = cc e
ways_kept tables event.HostTake w new f t h = events_keep tables event.HostTake w new f.ready f.ways tt h
ways_kept tables (event.Report p) w new f t h = events_keep tables (event.Report p) w new f.ready f.ways tt h
ways_kept tables event.Begin w new f t h = events_keep tables event.Begin w new f.ready f.ways tt h
ways_kept tables (event.Confirm p) w new f t h = events_keep tables (event.Confirm p) w new f.ready f.ways tt h
ways_kept tables event.Announce w new f t h = events_keep tables event.Announce w new f.ready f.ways tt h
ways_kept tables (event.Release p) w new f t h = events_keep tables (event.Release p) w new f.ready f.ways tt h
ways_kept tables (event.Go p) w new f t h = events_keep tables (event.Go p) w new f.ready f.ways tt h

pub event_flows : (tables : List Table) (e : Event) (w new : WorldView) → IsFlowing tables w → TurnFits w.shape tables e new → happened e w ≡ Some new → IsFlowing tables new
event_flows tables e w new f t h =
    let n : ShapeNumbers = w.shape in
    let k = kept_at e w new (places w.shape e) f.world h in
    let same : n ≡ new.shape = sym k.1 in
    let routers = event_parts (λ i a b. PartReady n tables a → PartReady n tables b) (λ i x r. r) e w new (λ c crosses i a b read row r. ready_after n tables e c a b r row) h in
    let host = event_parts (λ i a b. StillHost a → StillHost b) (λ i x r. r) e w new (λ c crosses i a b read row r. still_after e c a b r row) h in
    record {
      world = k.0;
      ready = record {
        routes = subst (λ s. HasRoutes s tables) same f.ready.routes;
        routers = subst (λ s. (p : ℕ) → PartReady s tables (get_or new.parts p AbsentV)) same (λ p. routers p (f.ready.routers p));
      };
      host = host 0 f.host;
      ways = ways_kept tables e w new f t h;
    }
