-- Events and whole runs.
use Rattle.std.proofs.lemmas.Bool.{and_parts, eqb-true}
use Rattle.tn_base.specs.declared.message.Letter.{Letter}
use Rattle.tn_base.specs.Address.{has_thread, place_in_tile}
use Rattle.tn_tile.specs.Step.{can_step, pending_at, stepped}
use Rattle.tn_tile.specs.declared.state.TileState.{TileState}
use Rattle.tn_tile.specs.TileView.{TileView, now_by, with_now}
use Rattle.tn_base.specs.declared.port.Port.TheVariants as port
use Rattle.tn_detect.specs.DetectorView.{DetectorView}
use Rattle.tn_host.specs.HostView.{HostState}
use Rattle.tn_link.specs.LinkRows.{front_of}
use Rattle.tn_link.specs.LinkView.{LinkView}
use Rattle.tn_rows.specs.PartView.{PartView, TileV, RouterV, LinkV, HostV, DetectorV, AbsentV}
use Rattle.tn_rows.specs.WorldView.{WorldView}
use Rattle.tn_letters.specs.declared.steps.BagStep.{BagStep}
use Rattle.tn_letters.specs.Machine.{BagRun}
use Rattle.tn_letters.specs.Steps.{after_step, thread_step}
use Rattle.tn_letters.specs.Tiles.{program_of, reach_of}
use Rattle.tn_letters.proofs.Crossings.{arrival_reached, departure_reached}
use Rattle.tn_letters.proofs.Routers.{LeadsTo, arrival_reached as router_arrival, departure_reached as router_departure, route_reached}
use Rattle.tn_rows.proofs.HostLinks.{link_from_host, link_to_host}
use Rattle.tn_rows.proofs.Neighbours.{Near, links_near}
use Rattle.tn_router.specs.Kept.{leads_on}
use Rattle.tn_router.specs.Left.{board_on}
use Rattle.tn_router.specs.declared.state.RouterState.{RouterState}
use Rattle.tn_router.specs.RouterView.{RouterView, now_by as router_now_by, with_now as router_with_now}
use Rattle.tn_base.specs.declared.ids.Board.{Board}
use Rattle.tn_base.specs.declared.ids.TileId.{TileId}
use Rattle.tn_letters.specs.Letters.{board_ahead, board_of, kind_board, link_board}
use Rattle.tn_letters.proofs.Lift.{Good, LeadsOn, On, OnPart, StandsAt, is_host, is_tile, leads_to_host, leads_to_tile, on_new, part_on, stands_on, tile_on, twice, with_tile}
use Rattle.tn_letters.proofs.Hosts.{put_reached, router_no_host, router_no_tile, take_reached}
use Rattle.tn_letters.proofs.Runs.{run_join, same_refl}
use Rattle.tn_base.specs.declared.ids.PartId.{PartId}
use Rattle.tn_base.specs.declared.part.Kind.{Kind}
use Rattle.tn_base.specs.declared.part.Kind.TheVariants as kind
use Rattle.tn_base.specs.declared.shape.ShapeNumbers.{ShapeNumbers}
use Rattle.tn_base.specs.Parts.{kind_of, link as link_kind, part_count, router_part, visited}
use Rattle.std.proofs.Common.{ℕ, ◌≡◌, ◌<◌, ◌-◌, ◌&&◌, Bool, true, false, List, [], ◌∷◌, ◌++◌, set, zero, suc, refl, sym, ◌∙◌, ap, subst, arith, Option, Some, None, option_map, unwrap_or, IsTrue}
use Rattle.std.specs.List.{slice_get}
use Rattle.std.specs.Prelude.{option_and_then}
use Rattle.std.proofs.lemmas.List.{set-get_or}
use Rattle.std.proofs.lemmas.Option.{get_or_from_slice_get, slice_get_within}
use Rattle.tn_base.specs.declared.event.Event.{Event}
use Rattle.tn_base.specs.declared.event.Event.TheVariants as event
use Rattle.tn_tile.specs.Rows.{delivered_from, is_here}
use Rattle.tn_tile.specs.Step.{steps_of}
use Rattle.tn_tile.proofs.Steps.{taken}
use Rattle.tn_rows.specs.Events.{Met, after, carried, crossing_of, deed_of, detector_row, happened, happened_at, host_row, link_row, meets, meets_at, met_with, router_did, tile_did, with_both, with_part}
use Rattle.tn_rows.specs.Places.{Places, Nowhere, One, Two, leads_from, leads_to, link_way, places, two_if, way_between, way_of_kind}
use Rattle.tn_stamp.specs.declared.entry.Crossing.{Crossing}
use Rattle.tn_stamp.specs.declared.entry.Crossing.TheVariants as crossing
use Rattle.tn_rows.specs.Runs.{Run, Walk}
use Rattle.tn_letters.specs.Steps.{delivery_steps, event_steps, meeting_steps, part_steps, put_steps, steps_at, take_steps, taking_steps, tile_steps, turn_steps}
use Rattle.tn_letters.proofs.Delivery.{delivery_reached}
use Rattle.tn_letters.proofs.Simulate.{Place, Reached, shown}
use Rattle.tn_letters.proofs.Threads.{step_reached}

-- ---- runs in a row

pub reached_none : (got : ℕ → List Letter) (dropped : List Letter) (w : WorldView) → Good w → Reached got dropped w [] w
reached_none got dropped w good = record {
  now = got;
  gone = dropped;
  run = same_refl w.shape (shown got dropped w);
  good = good;
  program = refl;
  count = refl;
}

pub reached_join : (got : ℕ → List Letter) (dropped : List Letter) (u v w : WorldView) (xs ys : List BagStep) (x : Reached got dropped u xs v) → Reached x.now x.gone v ys w → Reached got dropped u (xs ++ ys) w
reached_join got dropped u v w xs ys x y = record {
  now = y.now;
  gone = y.gone;
  run = run_join (program_of u) (shown got dropped u) (shown x.now x.gone v) (shown y.now y.gone w) xs ys x.run (subst (λ m. BagRun m (shown x.now x.gone v) ys (shown y.now y.gone w)) x.program y.run);
  good = y.good;
  program = y.program ∙ x.program;
  count = let a = x.count in let b = y.count in omega arith;
}

-- ---- a turn

pub turn_reached : (n : ℕ) (got : ℕ → List Letter) (dropped : List Letter) (w : WorldView) (p a k : ℕ) (v : TileView) (new : TileState) → Place w p v a k → steps_of v.plan k n v.now ≡ Some new → Reached got dropped w (turn_steps a k n v) (with_tile w p (with_now v new))
unfolding steps_of turn_steps
turn_reached zero got dropped w p a k v new c is =
    let same : v.now ≡ new = ap (λ (o : Option TileState). unwrap_or o new) is in
    let back : w ≡ with_tile w p v = ap (λ ps. record w { parts = ps }) (sym (ap (λ x. set w.parts p x) (sym c.on.is) ∙ set-get_or w.parts p AbsentV)) in
    subst (λ x. Reached got dropped w [] (with_tile w p (with_now v x))) same (subst (λ (x : WorldView). Reached got dropped w [] x) back (reached_none got dropped w c.good))
turn_reached (suc n) got dropped w p a k v new c is =
    let first = taken (can_step v.plan.shape.fuel k v.now) (steps_of v.plan k n (stepped v.plan.code k v.now)) new is in
    let mid : WorldView = with_tile w p (after_step k v) in
    let one = step_reached got dropped w p a k v c first.0 in
    let there : Place mid p (after_step k v) a k = record {
      good = one.good;
      on = on_new w p v (after_step k v) c.on;
      stands = record { there = c.stands.there; tile = c.stands.tile; place = c.stands.place };
    } in
    let rest = turn_reached n one.now one.gone mid p a k (after_step k v) new there first.1 in
    reached_join got dropped w mid (with_tile w p (with_now v new)) (thread_step a k v) (turn_steps a k n (after_step k v)) one
    (subst (λ (x : WorldView). Reached one.now one.gone mid (turn_steps a k n (after_step k v)) x) (twice w p (after_step k v) (with_now v new)) rest)

-- ---- an event on a tile

first_of_four : (a b c d : Bool) → (a && b && c && d) ≡ true → a ≡ true
first_of_four true b c d e = refl
first_of_four false b c d e = cc e

-- the thread of an event on the tile of a part is at its place there
here_is : (w : WorldView) (p a : ℕ) (v : TileView) → Good w → On w p v → is_here v.plan a ≡ true → Place w p v a (place_in_tile v.plan.shape a)
here_is w p a v good on here =
    let t = tile_on w p v good on in
    let parts = and_parts _ _ here in
    record {
      good = good;
      on = on;
      stands = record { there = subst (λ n. IsTrue (has_thread n a)) t.shape parts.0; tile = eqb-true _ _ parts.1; place = ap (λ n. place_in_tile n a) (sym t.shape) };
    }

row_reached : (got : ℕ → List Letter) (dropped : List Letter) (e : Event) (w : WorldView) (p : ℕ) (v : TileView) (new : TileState) → Good w → On w p v → tile_did v.plan v.now (deed_of v.plan.shape e crossing.None) ≡ Some new → Reached got dropped w (tile_steps (reach_of w) e v) (with_tile w p (with_now v new))
row_reached got dropped (event.Turn t n) w p v new good on row =
    let yes = taken _ (steps_of v.plan (place_in_tile v.plan.shape t.0) n v.now) new row in
    turn_reached n got dropped w p t.0 (place_in_tile v.plan.shape t.0) v new (here_is w p t.0 v good on (first_of_four (is_here v.plan t.0) _ _ _ yes.0)) yes.1
row_reached got dropped (event.Deliver t) w p v new good on row =
    let yes = taken _ (delivered_from v.plan (place_in_tile v.plan.shape t.0) (pending_at v.now (place_in_tile v.plan.shape t.0)) v.now) new row in
    delivery_reached got dropped w p t.0 (place_in_tile v.plan.shape t.0) v new (here_is w p t.0 v good on (and_parts _ _ yes.0).0) yes.1
row_reached got dropped (event.Depart x y) w p v new good on row = cc row
row_reached got dropped (event.Arrive x y) w p v new good on row = cc row
row_reached got dropped (event.Route x) w p v new good on row = cc row
row_reached got dropped event.HostPut w p v new good on row = cc row
row_reached got dropped event.HostTake w p v new good on row = cc row
row_reached got dropped (event.Report x) w p v new good on row = cc row
row_reached got dropped event.Begin w p v new good on row = cc row
row_reached got dropped (event.Confirm x) w p v new good on row = cc row
row_reached got dropped event.Announce w p v new good on row = cc row
row_reached got dropped (event.Release x) w p v new good on row = cc row
row_reached got dropped (event.Go x) w p v new good on row = cc row

-- a link has no event alone
no_row : (e : Event) (x : LinkView) → link_row e crossing.None x ≡ None
no_row (event.Turn t n) x = refl
no_row (event.Deliver t) x = refl
no_row (event.Depart p l) x = refl
no_row (event.Arrive l p) x = refl
no_row (event.Route p) x = refl
no_row event.HostPut x = refl
no_row event.HostTake x = refl
no_row (event.Report p) x = refl
no_row event.Begin x = refl
no_row (event.Confirm p) x = refl
no_row event.Announce x = refl
no_row (event.Release p) x = refl
no_row (event.Go p) x = refl

-- nor has the host
no_host_row : (e : Event) (s : HostState) → host_row e crossing.None s ≡ None
no_host_row (event.Turn t n) s = refl
no_host_row (event.Deliver t) s = refl
no_host_row (event.Depart p l) s = refl
no_host_row (event.Arrive l p) s = refl
no_host_row (event.Route p) s = refl
no_host_row event.HostPut s = refl
no_host_row event.HostTake s = refl
no_host_row (event.Report p) s = refl
no_host_row event.Begin s = refl
no_host_row (event.Confirm p) s = refl
no_host_row event.Announce s = refl
no_host_row (event.Release p) s = refl
no_host_row (event.Go p) s = refl

-- the events in which the detector has no part
abbrev pub Plain : Event → Type 0
Plain (event.Turn t n) = Unit {0}
Plain (event.Deliver t) = Unit {0}
Plain (event.Depart p l) = Unit {0}
Plain (event.Arrive l p) = Unit {0}
Plain (event.Route p) = Unit {0}
Plain event.HostPut = Unit {0}
Plain event.HostTake = Unit {0}
Plain (event.Report p) = ⊥
Plain event.Begin = ⊥
Plain (event.Confirm p) = ⊥
Plain event.Announce = ⊥
Plain (event.Release p) = ⊥
Plain (event.Go p) = ⊥

no_detector_row : (e : Event) (v : DetectorView) → Plain e → detector_row e crossing.None v ≡ None
no_detector_row (event.Turn t n) v plain = refl
no_detector_row (event.Deliver t) v plain = refl
no_detector_row (event.Depart p l) v plain = refl
no_detector_row (event.Arrive l p) v plain = refl
no_detector_row (event.Route p) v plain = refl
no_detector_row event.HostPut v plain = refl
no_detector_row event.HostTake v plain = refl
no_detector_row (event.Report p) v plain = absurd plain
no_detector_row event.Begin v plain = absurd plain
no_detector_row (event.Confirm p) v plain = absurd plain
no_detector_row event.Announce v plain = absurd plain
no_detector_row (event.Release p) v plain = absurd plain
no_detector_row (event.Go p) v plain = absurd plain

-- ---- an event on one part of the machine

by_row : (got : ℕ → List Letter) (dropped : List Letter) (e : Event) (w new : WorldView) (p : ℕ) (v : TileView) (r : Option TileState) → Good w → On w p v → tile_did v.plan v.now (deed_of v.plan.shape e crossing.None) ≡ r → option_map (with_part w p) (option_map TileV (now_by v r)) ≡ Some new → Reached got dropped w (tile_steps (reach_of w) e v) new
by_row got dropped e w new p v None good on row is = cc is
by_row got dropped e w new p v (Some x) good on row is =
    subst (λ (y : WorldView). Reached got dropped w (tile_steps (reach_of w) e v) y) (ap (λ (o : Option WorldView). unwrap_or o new) is) (row_reached got dropped e w p v x good on row)

not_some : {X : Type 0} (f : X → PartView) (w new : WorldView) (p : ℕ) (r : Option X) → r ≡ None → option_map (with_part w p) (option_map f r) ≡ Some new → ⊥
not_some f w new p None e is = cc is
not_some f w new p (Some x) e is = cc e

-- a router by itself only routes
route_only : (got : ℕ → List Letter) (dropped : List Letter) (e : Event) (w : WorldView) (p : ℕ) (v : RouterView) (new : RouterState) → Good w → OnPart w p (RouterV v) → router_did v.plan v.now (deed_of v.plan.shape e crossing.None) ≡ Some new → Reached got dropped w [] (with_part w p (RouterV (router_with_now v new)))
route_only got dropped (event.Route x) w p v new good on row = route_reached got dropped w p v new good on row
route_only got dropped (event.Depart x y) w p v new good on row = cc row
route_only got dropped (event.Arrive x y) w p v new good on row = cc row
route_only got dropped (event.Turn t n) w p v new good on row = cc row
route_only got dropped (event.Deliver t) w p v new good on row = cc row
route_only got dropped event.HostPut w p v new good on row = cc row
route_only got dropped event.HostTake w p v new good on row = cc row
route_only got dropped (event.Report x) w p v new good on row = cc row
route_only got dropped event.Begin w p v new good on row = cc row
route_only got dropped (event.Confirm x) w p v new good on row = cc row
route_only got dropped event.Announce w p v new good on row = cc row
route_only got dropped (event.Release x) w p v new good on row = cc row
route_only got dropped (event.Go x) w p v new good on row = cc row

by_route : (got : ℕ → List Letter) (dropped : List Letter) (e : Event) (w new : WorldView) (p : ℕ) (v : RouterView) (r : Option RouterState) → Good w → OnPart w p (RouterV v) → router_did v.plan v.now (deed_of v.plan.shape e crossing.None) ≡ r → option_map (with_part w p) (option_map RouterV (router_now_by v r)) ≡ Some new → Reached got dropped w [] new
by_route got dropped e w new p v None good on row is = cc is
by_route got dropped e w new p v (Some x) good on row is =
    subst (λ (y : WorldView). Reached got dropped w [] y) (ap (λ (o : Option WorldView). unwrap_or o new) is) (route_only got dropped e w p v x good on row)

-- part p of the machine is what is read there
pub on_read : (w : WorldView) (p : ℕ) (part : PartView) → Good w → slice_get w.parts p ≡ Some part → OnPart w p part
on_read w p part good here =
    let h = slice_get_within w.parts p part here in
    let n = good.count in
    record { within = h; below = omega arith; is = get_or_from_slice_get w.parts p part AbsentV here }

pub by_part : (got : ℕ → List Letter) (dropped : List Letter) (e : Event) (w new : WorldView) (p : ℕ) (q : Option PartView) → Plain e → Good w → slice_get w.parts p ≡ q → option_map (with_part w p) (option_and_then (after e crossing.None) q) ≡ Some new → Reached got dropped w (part_steps (reach_of w) e q) new
by_part got dropped e w new p None plain good here is = cc is
by_part got dropped e w new p (Some AbsentV) plain good here is = cc is
by_part got dropped e w new p (Some (DetectorV v)) plain good here is = absurd (not_some DetectorV w new p (detector_row e crossing.None v) (no_detector_row e v plain) is)
by_part got dropped e w new p (Some (LinkV x)) plain good here is = absurd (not_some LinkV w new p (link_row e crossing.None x) (no_row e x) is)
by_part got dropped e w new p (Some (HostV s)) plain good here is = absurd (not_some HostV w new p (host_row e crossing.None s) (no_host_row e s) is)
by_part got dropped e w new p (Some (RouterV v)) plain good here is = by_route got dropped e w new p v (router_did v.plan v.now (deed_of v.plan.shape e crossing.None)) good (on_read w p (RouterV v) good here) refl is
by_part got dropped e w new p (Some (TileV v)) plain good here is = by_row got dropped e w new p v (tile_did v.plan v.now (deed_of v.plan.shape e crossing.None)) good (on_read w p (TileV v) good here) refl is

-- ---- an event on two parts

-- link q leads away from part p
pub record DepartsBy (n : ShapeNumbers) (p q : ℕ) : Type 0 where
  pub from : PartId
  pub onto : PartId
  pub is : kind_of n q ≡ kind.Link from onto
  pub at : from.0 ≡ p

-- link q leads to part p
pub record ArrivesBy (n : ShapeNumbers) (p q : ℕ) : Type 0 where
  pub from : PartId
  pub onto : PartId
  pub is : kind_of n q ≡ kind.Link from onto
  pub at : onto.0 ≡ p

-- where a packet passes, a link leads so
abbrev pub Joined : WorldView → Event → ℕ → ℕ → Type 0
Joined w (event.Depart here there) p q = (there.0 ≡ q) × DepartsBy w.shape p q
Joined w (event.Arrive there here) p q = ArrivesBy w.shape p q
Joined w event.HostPut p q = (p ≡ 0) × (q ≡ part_count w.shape - 2)
Joined w event.HostTake p q = (p ≡ 0) × (q ≡ part_count w.shape - 3)
Joined w _ p q = Unit {0}

-- at a link's place stands a link, and at a visited part's none
only_link : (n : ShapeNumbers) (p q : ℕ) (k : Kind) (part : PartView) → LeadsOn n → kind_of n p ≡ k → p < visited n → StandsAt k part → (x : LinkView) → part ≡ LinkV x → ⊥
only_link n p q (kind.Link from onto) part leads e low stands x is = let behind = (leads p from onto e).behind in absurd (omega arith)
only_link n p q kind.Host part leads e low stands x is = subst (StandsAt kind.Host) is stands
only_link n p q (kind.Tile tile) part leads e low stands x is = subst (StandsAt (kind.Tile tile)) is stands
only_link n p q (kind.Router board) part leads e low stands x is = subst (StandsAt (kind.Router board)) is stands
only_link n p q kind.Detector part leads e low stands x is = subst (StandsAt kind.Detector) is stands

-- the parts at the ends of a link
pub tile_at : (k : Kind) (v : TileView) → StandsAt k (TileV v) → (tile : TileId) × (k ≡ kind.Tile tile) × (v.plan.tile ≡ tile.0)
tile_at (kind.Tile tile) v stands = (tile, refl, stands)
tile_at kind.Host v stands = absurd stands
tile_at (kind.Router board) v stands = absurd stands
tile_at (kind.Link from onto) v stands = absurd stands
tile_at kind.Detector v stands = absurd stands

pub router_at : (k : Kind) (v : RouterView) → StandsAt k (RouterV v) → k ≡ kind.Router v.plan.board
router_at (kind.Router board) v stands = ap kind.Router (sym stands)
router_at kind.Host v stands = absurd stands
router_at (kind.Tile tile) v stands = absurd stands
router_at (kind.Link from onto) v stands = absurd stands
router_at kind.Detector v stands = absurd stands

-- ---- the boards to which links lead

ahead : (n : ShapeNumbers) (q : ℕ) (from onto : PartId) → kind_of n q ≡ kind.Link from onto → link_board n q ≡ kind_board (kind_of n onto.0)
ahead n q from onto is = ap (board_ahead n) is

from_tile : (n : ShapeNumbers) (tile : TileId) (k : Kind) → Near n (kind.Tile tile) k → kind_board k ≡ board_of tile.0
from_tile n tile (kind.Tile other) near = near
from_tile n tile (kind.Router board) near = near
from_tile n tile kind.Host near = absurd near
from_tile n tile (kind.Link from onto) near = absurd near
from_tile n tile kind.Detector near = absurd near

from_router : (n : ShapeNumbers) (b : Board) (k : Kind) → Near n (kind.Router b) k → leads_on (way_between (kind.Router b) k) ≡ true → board_on n b (way_between (kind.Router b) k) ≡ Some (kind_board k)
from_router n b (kind.Router board) near on = near
from_router n b (kind.Tile tile) near on = cc on
from_router n b kind.Host near on = cc on
from_router n b (kind.Link from onto) near on = cc on
from_router n b kind.Detector near on = cc on

down_only : (b : Board) (k : Kind) → is_tile k ≡ true → leads_on (way_between (kind.Router b) k) ≡ false
down_only b (kind.Tile tile) is = refl
down_only b (kind.Router board) is = cc is
down_only b kind.Host is = cc is
down_only b (kind.Link from onto) is = cc is
down_only b kind.Detector is = cc is

-- the link from a tile leads to its board
tile_departs : (w : WorldView) (p q : ℕ) (v : TileView) → Good w → On w p v → DepartsBy w.shape p q → link_board w.shape q ≡ board_of v.plan.tile
tile_departs w p q v good on d =
    let n : ShapeNumbers = w.shape in
    let t = tile_at (kind_of n p) v (stands_on w p (TileV v) good on) in
    let near : Near n (kind.Tile t.0) (kind_of n d.onto.0) = subst (λ k. Near n k (kind_of n d.onto.0)) (ap (kind_of n) d.at ∙ t.1) (links_near n q d.from d.onto good.limits d.is) in
    ahead n q d.from d.onto d.is ∙ (from_tile n t.0 (kind_of n d.onto.0) near ∙ ap board_of (sym t.2))

way_is : (w : WorldView) (p q : ℕ) (v : RouterView) → Good w → OnPart w p (RouterV v) → (d : DepartsBy w.shape p q) → link_way w.shape q ≡ way_between (kind.Router v.plan.board) (kind_of w.shape d.onto.0)
way_is w p q v good on d =
    let n : ShapeNumbers = w.shape in
    ap (way_of_kind n) d.is ∙ ap (λ k. way_between k (kind_of n d.onto.0)) (ap (kind_of n) d.at ∙ router_at (kind_of n p) v (stands_on w p (RouterV v) good on))

-- the link from a router leads where its way does
router_departs : (w : WorldView) (p q : ℕ) (v : RouterView) → Good w → OnPart w p (RouterV v) → DepartsBy w.shape p q → leads_on (link_way w.shape q) ≡ true → board_on w.shape v.plan.board (link_way w.shape q) ≡ Some (link_board w.shape q)
router_departs w p q v good on d leads =
    let n : ShapeNumbers = w.shape in
    let way = way_is w p q v good on d in
    let near : Near n (kind.Router v.plan.board) (kind_of n d.onto.0) = subst (λ k. Near n k (kind_of n d.onto.0)) (ap (kind_of n) d.at ∙ router_at (kind_of n p) v (stands_on w p (RouterV v) good on)) (links_near n q d.from d.onto good.limits d.is) in
    ap (board_on n v.plan.board) way ∙ (from_router n v.plan.board (kind_of n d.onto.0) near (sym (ap leads_on way) ∙ leads) ∙ ap (λ b. Some b) (sym (ahead n q d.from d.onto d.is)))

router_down : (w : WorldView) (p q : ℕ) (v : RouterView) → Good w → OnPart w p (RouterV v) → DepartsBy w.shape p q → leads_to_tile w.shape (kind_of w.shape q) ≡ true → leads_on (link_way w.shape q) ≡ false
router_down w p q v good on d tile =
    ap leads_on (way_is w p q v good on d) ∙ down_only v.plan.board (kind_of w.shape d.onto.0) (sym (ap (leads_to_tile w.shape) d.is) ∙ tile)

no_host_near : (n : ShapeNumbers) (tile : TileId) (k : Kind) → Near n (kind.Tile tile) k → is_host k ≡ true → ⊥
no_host_near n tile kind.Host near is = near
no_host_near n tile (kind.Tile other) near is = cc is
no_host_near n tile (kind.Router board) near is = cc is
no_host_near n tile (kind.Link from onto) near is = cc is
no_host_near n tile kind.Detector near is = cc is

-- no link from a tile leads to the host
not_to_host : (w : WorldView) (p q : ℕ) (v : TileView) → Good w → On w p v → DepartsBy w.shape p q → leads_to_host w.shape (kind_of w.shape q) ≡ true → ⊥
not_to_host w p q v good on d host =
    let n : ShapeNumbers = w.shape in
    let t = tile_at (kind_of n p) v (stands_on w p (TileV v) good on) in
    let near : Near n (kind.Tile t.0) (kind_of n d.onto.0) = subst (λ k. Near n k (kind_of n d.onto.0)) (ap (kind_of n) d.at ∙ t.1) (links_near n q d.from d.onto good.limits d.is) in
    no_host_near n t.0 (kind_of n d.onto.0) near (sym (ap (leads_to_host n) d.is) ∙ host)

host_only : (b : Board) (k : Kind) → is_host k ≡ true → way_between (kind.Router b) k ≡ port.HostPort
host_only b kind.Host is = refl
host_only b (kind.Tile tile) is = cc is
host_only b (kind.Router board) is = cc is
host_only b (kind.Link from onto) is = cc is
host_only b kind.Detector is = cc is

-- the link from a router to the host leads away by the way to the host
router_to_host : (w : WorldView) (p q : ℕ) (v : RouterView) → Good w → OnPart w p (RouterV v) → DepartsBy w.shape p q → leads_to_host w.shape (kind_of w.shape q) ≡ true → link_way w.shape q ≡ port.HostPort
router_to_host w p q v good on d host =
    way_is w p q v good on d ∙ host_only v.plan.board (kind_of w.shape d.onto.0) (sym (ap (leads_to_host w.shape) d.is) ∙ host)

tile_arrives : (w : WorldView) (p q : ℕ) (v : TileView) → Good w → On w p v → ArrivesBy w.shape p q → (link_board w.shape q ≡ board_of v.plan.tile) × (leads_to_tile w.shape (kind_of w.shape q) ≡ true)
tile_arrives w p q v good on d =
    let n : ShapeNumbers = w.shape in
    let t = tile_at (kind_of n p) v (stands_on w p (TileV v) good on) in
    let here : kind_of n d.onto.0 ≡ kind.Tile t.0 = ap (kind_of n) d.at ∙ t.1 in
    (ahead n q d.from d.onto d.is ∙ (ap kind_board here ∙ ap board_of (sym t.2)), ap (leads_to_tile n) d.is ∙ ap is_tile here)

router_arrives : (w : WorldView) (p q : ℕ) (v : RouterView) → Good w → OnPart w p (RouterV v) → ArrivesBy w.shape p q → link_board w.shape q ≡ v.plan.board
router_arrives w p q v good on d =
    let n : ShapeNumbers = w.shape in
    ahead n q d.from d.onto d.is ∙ ap kind_board (ap (kind_of n) d.at ∙ router_at (kind_of n p) v (stands_on w p (RouterV v) good on))

-- ---- an event on a part and a link

did_meet : (w new : WorldView) (p q : ℕ) (r : Option Met) → option_map (with_both w p q) r ≡ Some new → (m : Met) × (r ≡ Some m) × (with_both w p q m ≡ new)
did_meet w new p q None is = cc is
did_meet w new p q (Some m) is = (m, refl, ap (λ (o : Option WorldView). unwrap_or o new) is)

-- the second part is a link
abbrev IsLink : PartView → Type 0
IsLink (TileV v) = ⊥
IsLink (RouterV v) = ⊥
IsLink (LinkV x) = Unit {0}
IsLink (HostV s) = ⊥
IsLink (DetectorV v) = ⊥
IsLink AbsentV = ⊥

link_there : (w : WorldView) (q : ℕ) (from onto : PartId) (part : PartView) → Good w → OnPart w q part → kind_of w.shape q ≡ kind.Link from onto → IsLink part
link_there w q from onto (LinkV x) good on is = tt
link_there w q from onto (TileV v) good on is = subst (λ k. StandsAt k (TileV v)) is (stands_on w q (TileV v) good on)
link_there w q from onto (RouterV v) good on is = subst (λ k. StandsAt k (RouterV v)) is (stands_on w q (RouterV v) good on)
link_there w q from onto (HostV s) good on is = subst (λ k. StandsAt k (HostV s)) is (stands_on w q (HostV s) good on)
link_there w q from onto (DetectorV v) good on is = subst (λ k. StandsAt k (DetectorV v)) is (stands_on w q (DetectorV v) good on)
link_there w q from onto AbsentV good on is = subst (λ k. StandsAt k AbsentV) is (stands_on w q AbsentV good on)

-- the first one is none
no_link : (w : WorldView) (p : ℕ) (x : LinkView) → Good w → OnPart w p (LinkV x) → p < visited w.shape → ⊥
no_link w p x good on low = only_link w.shape p p (kind_of w.shape p) (LinkV x) good.leads refl low (stands_on w p (LinkV x) good on) x refl

depart_pair : (got : ℕ → List Letter) (dropped : List Letter) (w new : WorldView) (here there : PartId) (p q : ℕ) (low high : PartView) → Good w → OnPart w p low → OnPart w q high → there.0 ≡ q → DepartsBy w.shape p q → IsLink high →
    option_map (with_both w p q) (meets (event.Depart here there) low high) ≡ Some new → Reached got dropped w [] new
depart_pair got dropped w new here there p q (TileV v) (LinkV x) good on off at d link is =
    let m = did_meet w new p q (meets (event.Depart here there) (TileV v) (LinkV x)) is in
    subst (λ (z : WorldView). Reached got dropped w [] z) m.2 (departure_reached got dropped w p q v x m.0 here there good on off (tile_departs w p q v good on d) (not_to_host w p q v good on d) m.1)
depart_pair got dropped w new here there p q (RouterV v) (LinkV x) good on off at d link is =
    let m = did_meet w new p q (meets (event.Depart here there) (RouterV v) (LinkV x)) is in
    let way : link_way v.plan.shape there.0 ≡ link_way w.shape q = ap (λ n. link_way n there.0) (part_on w p (RouterV v) good on).shape ∙ ap (link_way w.shape) at in
    let leads : LeadsTo v (link_way v.plan.shape there.0) (link_board w.shape q) = λ on_way.
    ap (λ n. board_on n v.plan.board (link_way v.plan.shape there.0)) (part_on w p (RouterV v) good on).shape ∙ (ap (board_on w.shape v.plan.board) way ∙ router_departs w p q v good on d (sym (ap leads_on way) ∙ on_way)) in
    subst (λ (z : WorldView). Reached got dropped w [] z) m.2
    (router_departure got dropped w p q v x m.0 here there good on off leads (λ tile. ap leads_on way ∙ router_down w p q v good on d tile) (λ host. way ∙ router_to_host w p q v good on d host) m.1)
depart_pair got dropped w new here there p q (LinkV y) (LinkV x) good on off at d link is =
    let low = (good.leads q d.from d.onto d.is).from_visited in
    let from = d.at in
    absurd (no_link w p y good on (omega arith))
depart_pair got dropped w new here there p q (HostV s) (LinkV x) good on off at d link is = cc is
depart_pair got dropped w new here there p q (DetectorV v) (LinkV x) good on off at d link is = cc is
depart_pair got dropped w new here there p q AbsentV (LinkV x) good on off at d link is = cc is
depart_pair got dropped w new here there p q low (TileV u) good on off at d link is = absurd link
depart_pair got dropped w new here there p q low (RouterV u) good on off at d link is = absurd link
depart_pair got dropped w new here there p q low (HostV s) good on off at d link is = absurd link
depart_pair got dropped w new here there p q low (DetectorV v) good on off at d link is = absurd link
depart_pair got dropped w new here there p q low AbsentV good on off at d link is = absurd link

arrive_pair : (got : ℕ → List Letter) (dropped : List Letter) (w new : WorldView) (there here : PartId) (p q : ℕ) (low high : PartView) → Good w → OnPart w p low → OnPart w q high → ArrivesBy w.shape p q → IsLink high →
    option_map (with_both w p q) (meets (event.Arrive there here) low high) ≡ Some new → Reached got dropped w (taking_steps (reach_of w) (carried high) low) new
arrive_pair got dropped w new there here p q (TileV v) (LinkV x) good on off d link is =
    let m = did_meet w new p q (meets (event.Arrive there here) (TileV v) (LinkV x)) is in
    let leads = tile_arrives w p q v good on d in
    subst (λ (z : WorldView). Reached got dropped w (delivery_steps (reach_of w) (front_of x) v) z) m.2
    (arrival_reached got dropped w p q v x m.0 there here good on off leads.0 leads.1 m.1)
arrive_pair got dropped w new there here p q (RouterV v) (LinkV x) good on off d link is =
    let m = did_meet w new p q (meets (event.Arrive there here) (RouterV v) (LinkV x)) is in
    subst (λ (z : WorldView). Reached got dropped w [] z) m.2
    (router_arrival got dropped w p q v x m.0 there here good on off (router_arrives w p q v good on d) m.1)
arrive_pair got dropped w new there here p q (LinkV y) (LinkV x) good on off d link is =
    let low = (good.leads q d.from d.onto d.is).onto_visited in
    let onto = d.at in
    absurd (no_link w p y good on (omega arith))
arrive_pair got dropped w new there here p q (HostV s) (LinkV x) good on off d link is = absurd (none_meets w new p q there here s (LinkV x) (option_map crossing.Packet (front_of x)) is)
  where
    none_meets : (w new : WorldView) (p q : ℕ) (there here : PartId) (s : HostState) (high : PartView) (c : Option Crossing) → option_map (with_both w p q) (met_with (event.Arrive there here) (HostV s) high c) ≡ Some new → ⊥
    none_meets w new p q there here s high None is = cc is
    none_meets w new p q there here s high (Some crossing.None) is = cc is
    none_meets w new p q there here s high (Some (crossing.Packet k)) is = cc is
    none_meets w new p q there here s high (Some (crossing.View f)) is = cc is
arrive_pair got dropped w new there here p q (DetectorV v) (LinkV x) good on off d link is = absurd (none_meets w new p q there here v (LinkV x) (option_map crossing.Packet (front_of x)) is)
  where
    none_meets : (w new : WorldView) (p q : ℕ) (there here : PartId) (v : DetectorView) (high : PartView) (c : Option Crossing) → option_map (with_both w p q) (met_with (event.Arrive there here) (DetectorV v) high c) ≡ Some new → ⊥
    none_meets w new p q there here v high None is = cc is
    none_meets w new p q there here v high (Some crossing.None) is = cc is
    none_meets w new p q there here v high (Some (crossing.Packet k)) is = cc is
    none_meets w new p q there here v high (Some (crossing.View f)) is = cc is
arrive_pair got dropped w new there here p q AbsentV (LinkV x) good on off d link is = absurd (none_meets w new p q (event.Arrive there here) (LinkV x) (crossing_of (event.Arrive there here) AbsentV (LinkV x)) is)
  where
    none_meets : (w new : WorldView) (p q : ℕ) (e : Event) (high : PartView) (c : Option Crossing) → option_map (with_both w p q) (met_with e AbsentV high c) ≡ Some new → ⊥
    none_meets w new p q e high None is = cc is
    none_meets w new p q e high (Some c) is = cc is
arrive_pair got dropped w new there here p q low (TileV u) good on off d link is = absurd link
arrive_pair got dropped w new there here p q low (RouterV u) good on off d link is = absurd link
arrive_pair got dropped w new there here p q low (HostV s) good on off d link is = absurd link
arrive_pair got dropped w new there here p q low (DetectorV v) good on off d link is = absurd link
arrive_pair got dropped w new there here p q low AbsentV good on off d link is = absurd link

-- ---- an event on the host and a link of its

put_pair : (got : ℕ → List Letter) (dropped : List Letter) (w new : WorldView) (p q : ℕ) (low high : PartView) → Good w → OnPart w p low → OnPart w q high → p ≡ 0 → q ≡ part_count w.shape - 2 → IsLink high →
    option_map (with_both w p q) (meets event.HostPut low high) ≡ Some new → Reached got dropped w (put_steps (Some low)) new
put_pair got dropped w new p q (HostV s) (LinkV x) good on off first from link is =
    let m = did_meet w new p q (meets event.HostPut (HostV s) (LinkV x)) is in
    let at : kind_of w.shape q ≡ link_kind 0 (router_part w.shape 0) = ap (kind_of w.shape) from ∙ link_from_host w.shape in
    subst (λ (z : WorldView). Reached got dropped w (put_steps (Some (HostV s))) z) m.2
    (put_reached got dropped w p q s x m.0 good on off first (ap (leads_to_tile w.shape) at ∙ router_no_tile w.shape good.limits) (ap (leads_to_host w.shape) at ∙ router_no_host w.shape good.limits) m.1)
put_pair got dropped w new p q (TileV v) (LinkV x) good on off first from link is = cc is
put_pair got dropped w new p q (RouterV v) (LinkV x) good on off first from link is = cc is
put_pair got dropped w new p q (LinkV y) (LinkV x) good on off first from link is = cc is
put_pair got dropped w new p q (DetectorV v) (LinkV x) good on off first from link is = cc is
put_pair got dropped w new p q AbsentV (LinkV x) good on off first from link is = cc is
put_pair got dropped w new p q low (TileV v) good on off first from link is = absurd link
put_pair got dropped w new p q low (RouterV v) good on off first from link is = absurd link
put_pair got dropped w new p q low (HostV s) good on off first from link is = absurd link
put_pair got dropped w new p q low (DetectorV v) good on off first from link is = absurd link
put_pair got dropped w new p q low AbsentV good on off first from link is = absurd link

-- the first part is the host
pub first_is : (part : PartView) → StandsAt kind.Host part → (s : HostState) × (part ≡ HostV s)
first_is (HostV s) stands = (s, refl)
first_is (TileV v) stands = absurd stands
first_is (RouterV v) stands = absurd stands
first_is (LinkV x) stands = absurd stands
first_is (DetectorV v) stands = absurd stands
first_is AbsentV stands = absurd stands

take_pair : (got : ℕ → List Letter) (dropped : List Letter) (w new : WorldView) (p q : ℕ) (low high : PartView) → Good w → OnPart w p low → OnPart w q high → p ≡ 0 → q ≡ part_count w.shape - 3 → IsLink high →
    option_map (with_both w p q) (meets event.HostTake low high) ≡ Some new → Reached got dropped w (take_steps (carried high)) new
take_pair got dropped w new p q low (LinkV x) good on off first onto link is =
    let host = first_is low (subst (λ i. StandsAt (kind_of w.shape i) low) first (stands_on w p low good on)) in
    let m = did_meet w new p q (meets event.HostTake low (LinkV x)) is in
    let at : kind_of w.shape q ≡ link_kind (router_part w.shape 0) 0 = ap (kind_of w.shape) onto ∙ link_to_host w.shape in
    subst (λ (z : WorldView). Reached got dropped w (take_steps (front_of x)) z) m.2
    (take_reached got dropped w p q host.0 x m.0 good (subst (OnPart w p) host.1 on) off first (ap (leads_to_tile w.shape) at) (ap (leads_to_host w.shape) at)
    (subst (λ (part : PartView). meets event.HostTake part (LinkV x) ≡ Some m.0) host.1 m.1))
take_pair got dropped w new p q low (TileV v) good on off first onto link is = absurd link
take_pair got dropped w new p q low (RouterV v) good on off first onto link is = absurd link
take_pair got dropped w new p q low (HostV s) good on off first onto link is = absurd link
take_pair got dropped w new p q low (DetectorV v) good on off first onto link is = absurd link
take_pair got dropped w new p q low AbsentV good on off first onto link is = absurd link

-- the parts are there
pair_at : (got : ℕ → List Letter) (dropped : List Letter) (e : Event) (w new : WorldView) (p q : ℕ) (low high : PartView) → Plain e → Good w → Joined w e p q → OnPart w p low → OnPart w q high →
    option_map (with_both w p q) (meets e low high) ≡ Some new → Reached got dropped w (meeting_steps (reach_of w) e (Some low) (Some high)) new
pair_at got dropped (event.Depart here there) w new p q low high plain good joined a b is =
    depart_pair got dropped w new here there p q low high good a b joined.0 joined.1 (link_there w q joined.1.from joined.1.onto high good b joined.1.is) is
pair_at got dropped (event.Arrive there here) w new p q low high plain good joined a b is =
    arrive_pair got dropped w new there here p q low high good a b joined (link_there w q joined.from joined.onto high good b joined.is) is
pair_at got dropped (event.Turn t n) w new p q low high plain good joined a b is = cc is
pair_at got dropped (event.Deliver t) w new p q low high plain good joined a b is = cc is
pair_at got dropped (event.Route x) w new p q low high plain good joined a b is = cc is
pair_at got dropped event.HostPut w new p q low high plain good joined a b is =
    put_pair got dropped w new p q low high good a b joined.0 joined.1 (link_there w q _ _ high good b (ap (kind_of w.shape) joined.1 ∙ link_from_host w.shape)) is
pair_at got dropped event.HostTake w new p q low high plain good joined a b is =
    take_pair got dropped w new p q low high good a b joined.0 joined.1 (link_there w q _ _ high good b (ap (kind_of w.shape) joined.1 ∙ link_to_host w.shape)) is
pair_at got dropped (event.Report x) w new p q low high plain good joined a b is = absurd plain
pair_at got dropped event.Begin w new p q low high plain good joined a b is = absurd plain
pair_at got dropped (event.Confirm x) w new p q low high plain good joined a b is = absurd plain
pair_at got dropped event.Announce w new p q low high plain good joined a b is = absurd plain
pair_at got dropped (event.Release x) w new p q low high plain good joined a b is = absurd plain
pair_at got dropped (event.Go x) w new p q low high plain good joined a b is = absurd plain

by_pair : (got : ℕ → List Letter) (dropped : List Letter) (e : Event) (w new : WorldView) (p q : ℕ) (low high : Option PartView) → Plain e → Good w → Joined w e p q → slice_get w.parts p ≡ low → slice_get w.parts q ≡ high →
    option_map (with_both w p q) (meets_at e low high) ≡ Some new → Reached got dropped w (meeting_steps (reach_of w) e low high) new
by_pair got dropped e w new p q (Some low) (Some high) plain good joined a b is = pair_at got dropped e w new p q low high plain good joined (on_read w p low good a) (on_read w q high good b) is
by_pair got dropped e w new p q (Some low) None plain good joined a b is = cc is
by_pair got dropped e w new p q None high plain good joined a b is = cc is

-- ---- an event on the machine

abbrev pub JoinedAt : WorldView → Event → Places → Type 0
JoinedAt w e Nowhere = Unit {0}
JoinedAt w e (One p) = Unit {0}
JoinedAt w e (Two p q) = Joined w e p q

free : (w : WorldView) (e : Event) (at : Places) → ((p q : ℕ) → Joined w e p q) → JoinedAt w e at
free w e Nowhere h = tt
free w e (One p) h = tt
free w e (Two p q) h = h p q

joined_if : (w : WorldView) (e : Event) (p q : ℕ) (there : Bool) → (there ≡ true → Joined w e p q) → JoinedAt w e (two_if there p q)
joined_if w e p q true h = h refl
joined_if w e p q false h = tt

departs_so : (n : ShapeNumbers) (p q : ℕ) (k : Kind) → kind_of n q ≡ k → leads_from p k ≡ true → DepartsBy n p q
departs_so n p q (kind.Link from onto) e is = record { from = from; onto = onto; is = e; at = eqb-true _ _ is }
departs_so n p q kind.Host e is = cc is
departs_so n p q (kind.Tile tile) e is = cc is
departs_so n p q (kind.Router board) e is = cc is
departs_so n p q kind.Detector e is = cc is

arrives_so : (n : ShapeNumbers) (p q : ℕ) (k : Kind) → kind_of n q ≡ k → leads_to p k ≡ true → ArrivesBy n p q
arrives_so n p q (kind.Link from onto) e is = record { from = from; onto = onto; is = e; at = eqb-true _ _ is }
arrives_so n p q kind.Host e is = cc is
arrives_so n p q (kind.Tile tile) e is = cc is
arrives_so n p q (kind.Router board) e is = cc is
arrives_so n p q kind.Detector e is = cc is

joined_at : (w : WorldView) (e : Event) → Good w → JoinedAt w e (places w.shape e)
joined_at w (event.Depart here there) good =
    joined_if w (event.Depart here there) here.0 there.0 (leads_from here.0 (kind_of w.shape there.0)) (λ is. (refl, departs_so w.shape here.0 there.0 (kind_of w.shape there.0) refl is))
joined_at w (event.Arrive there here) good =
    joined_if w (event.Arrive there here) here.0 there.0 (leads_to here.0 (kind_of w.shape there.0)) (λ is. arrives_so w.shape here.0 there.0 (kind_of w.shape there.0) refl is)
joined_at w (event.Turn t n) good = free w (event.Turn t n) (places w.shape (event.Turn t n)) (λ p q. tt)
joined_at w (event.Deliver t) good = free w (event.Deliver t) (places w.shape (event.Deliver t)) (λ p q. tt)
joined_at w (event.Route x) good = free w (event.Route x) (places w.shape (event.Route x)) (λ p q. tt)
joined_at w event.HostPut good = (refl, refl)
joined_at w event.HostTake good = (refl, refl)
joined_at w (event.Report x) good = free w (event.Report x) (places w.shape (event.Report x)) (λ p q. tt)
joined_at w event.Begin good = tt
joined_at w (event.Confirm x) good = free w (event.Confirm x) (places w.shape (event.Confirm x)) (λ p q. tt)
joined_at w event.Announce good = tt
joined_at w (event.Release x) good = free w (event.Release x) (places w.shape (event.Release x)) (λ p q. tt)
joined_at w (event.Go x) good = free w (event.Go x) (places w.shape (event.Go x)) (λ p q. tt)

by_place : (got : ℕ → List Letter) (dropped : List Letter) (e : Event) (w new : WorldView) (at : Places) → Plain e → Good w → JoinedAt w e at → happened_at e w at ≡ Some new → Reached got dropped w (steps_at e w at) new
by_place got dropped e w new Nowhere plain good joined is = cc is
by_place got dropped e w new (One p) plain good joined is = by_part got dropped e w new p (slice_get w.parts p) plain good refl is
by_place got dropped e w new (Two p q) plain good joined is = by_pair got dropped e w new p q (slice_get w.parts p) (slice_get w.parts q) plain good joined refl refl is

pub event_reached : (got : ℕ → List Letter) (dropped : List Letter) (e : Event) (w new : WorldView) → Plain e → Good w → happened e w ≡ Some new → Reached got dropped w (event_steps e w) new
event_reached got dropped e w new plain good is = by_place got dropped e w new (places w.shape e) plain good (joined_at w e good) is

-- each run is a walk
pub run_walk : (start end : WorldView) (events : List Event) → Run start events end → Walk start events end
run_walk start end [] run = run
run_walk start end (e ∷ es) run = (run.0, run.1, run_walk run.0 end es run.3)
