-- A Route is enabled, unless what the router sends next goes to a way out that is taken.
use Rattle.std.proofs.Common.{ℕ, ◌≡◌, Bool, true, false, cond, List, [], ◌∷◌, map, refl, sym, ap, ◌∙◌, subst, inl, inr, Option, Some, None, is_some, is_none}
use Rattle.std.specs.Prelude.{◌⊎◌, IsSome, slice_get}
use Rattle.std.specs.List.{AllByRecursion}
use Rattle.tn_base.specs.declared.event.Event.TheVariants as event
use Rattle.tn_base.specs.declared.ids.Board.{Board}
use Rattle.tn_base.specs.declared.ids.PartId.{PartId}
use Rattle.tn_base.specs.declared.message.Dest.{Dest}
use Rattle.tn_base.specs.declared.message.Dest.TheVariants as dest
use Rattle.tn_base.specs.declared.message.Packet.{Packet}
use Rattle.tn_base.specs.declared.port.Port.{Port}
use Rattle.tn_base.specs.declared.port.Port.TheVariants as port
use Rattle.tn_base.specs.declared.shape.ShapeNumbers.{ShapeNumbers}
use Rattle.tn_base.specs.Message.{has_packet}
use Rattle.tn_base.specs.Ports.{router_port}
use Rattle.tn_keys.specs.declared.record.RouteRec.{RouteRec}
use Rattle.tn_keys.specs.declared.record.RouteRec.TheVariants.{Urm1, Urm2, Rr, Mrm, Ind}
use Rattle.tn_keys.specs.Copies.{neighbour}
use Rattle.tn_keys.specs.Tables.{Table, table_of}
use Rattle.tn_node.specs.PortRows.{at}
use Rattle.tn_router.specs.declared.moves.Move.{Move}
use Rattle.tn_router.specs.declared.moves.Sent.{Sent}
use Rattle.tn_router.specs.declared.state.RouterState.{RouterState}
use Rattle.tn_router.specs.declared.work.Work.{Work}
use Rattle.tn_router.specs.Kept.{IsFit}
use Rattle.tn_router.specs.Moves.{copy_by, move_of, move_to, record_move, sent_if, sent_way, way_of}
use Rattle.tn_router.specs.Places.{has_side}
use Rattle.tn_router.specs.Rest.{next_record, rest_by, rest_to}
use Rattle.tn_router.specs.RouterView.{RouterPlan, RouterView}
use Rattle.tn_router.specs.Rows.{carried, first_move, first_of, is_free, move_at, or_else, route_row}
use Rattle.tn_router.proofs.Moved.{side_there}
use Rattle.tn_router.proofs.Searched.{can_move}
use Rattle.tn_rows.specs.Events.{happened, happened_at}
use Rattle.tn_rows.specs.PartView.{RouterV}
use Rattle.tn_rows.specs.Places.{is_router, one_if}
use Rattle.tn_rows.specs.WorldView.{WorldView}
use Rattle.tn_rows.proofs.Meeting.{some_mapped, some_router}
use Rattle.polite_flow.specs.Able.{CanFlow}
use Rattle.polite_flow.specs.Enabled.{RoutersRoute}
use Rattle.polite_flow.specs.OnWay.{Fits}
use Rattle.polite_flow.specs.Places.{Item, Bound, Due, Works, RouterWaits, router_way}
use Rattle.polite_flow.specs.Routers.{IsGoodKey, ProcessFits, RouterOnWay, plan_of, still_to}
use Rattle.polite_flow.specs.Standing.{IsBlocked}
use Rattle.polite_flow.specs.World.{PartOnWay, PartReady, RouterReady}
use Rattle.polite_flow.proofs.Meetings.{some_is}
use Rattle.polite_flow.proofs.PartsAt.{at_place, one_happens, router_kind_at}
use Rattle.polite_flow.proofs.Process.{first_is}

-- ---- a side that can move lets a Route happen

or_here : (o others : Option Move) → is_some o ≡ true → is_some (or_else o others) ≡ true
or_here None others h = cc h
or_here (Some m) others h = refl

or_behind : (o others : Option Move) → is_some others ≡ true → is_some (or_else o others) ≡ true
or_behind None others h = h
or_behind (Some m) others h = refl

here : (plan : RouterPlan) (s : RouterState) (side : Port) (others : List Port) → is_some (move_at plan side s) ≡ true → is_some (first_of plan (side ∷ others) s) ≡ true
here plan s side others h = or_here (move_at plan side s) (first_of plan others s) h

later : (plan : RouterPlan) (s : RouterState) (side : Port) (others : List Port) → is_some (first_of plan others s) ≡ true → is_some (first_of plan (side ∷ others) s) ≡ true
later plan s side others h = or_behind (move_at plan side s) (first_of plan others s) h

-- the sides from each side on
abbrev from_host : List Port
from_host = port.HostPort ∷ []

abbrev from_north : List Port
from_north = port.North ∷ from_host

abbrev from_south : List Port
from_south = port.South ∷ from_north

abbrev from_west : List Port
from_west = port.West ∷ from_south

abbrev from_east : List Port
from_east = port.East ∷ from_west

side_moves : (plan : RouterPlan) (s : RouterState) (side : Port) → has_side plan.shape plan.board side ≡ true → is_some (move_at plan side s) ≡ true → is_some (first_move plan s) ≡ true
side_moves plan s port.Up there h = here plan s port.Up from_east h
side_moves plan s port.East there h = later plan s port.Up from_east (here plan s port.East from_west h)
side_moves plan s port.West there h = later plan s port.Up from_east (later plan s port.East from_west (here plan s port.West from_south h))
side_moves plan s port.South there h = later plan s port.Up from_east (later plan s port.East from_west (later plan s port.West from_south (here plan s port.South from_north h)))
side_moves plan s port.North there h = later plan s port.Up from_east (later plan s port.East from_west (later plan s port.West from_south (later plan s port.South from_north (here plan s port.North from_host h))))
side_moves plan s port.HostPort there h = later plan s port.Up from_east (later plan s port.East from_west (later plan s port.West from_south (later plan s port.South from_north (later plan s port.North from_host (here plan s port.HostPort [] h)))))
side_moves plan s port.Down there h = cc there
side_moves plan s port.Here there h = cc there

-- ---- what the router sends next

-- the item that goes this way next
record NextItem (n : ShapeNumbers) (tables : List Table) (b : Board) (side way : Port) : Type 0 where
  pub item : Item
  pub fits : Fits n tables (Works b side) item
  pub goes : router_way b item ≡ way

way_if : (there : Bool) (way : Port) (p : Packet) (s : Sent) → cond there (Some (record { way = way; packet = p })) None ≡ Some s → way ≡ s.way
way_if true way p s h = ap (λ (x : Sent). x.way) (some_is _ s h)
way_if false way p s h = cc h

taken_if : {X : Type 0} (b : Bool) (o : Option X) (y : X) → cond b o None ≡ Some y → o ≡ Some y
taken_if true o y h = h
taken_if false o y h = cc h

copy_item : (n : ShapeNumbers) (tables : List Table) (b : Board) (side : Port) (p : Packet) (r : RouteRec) (s : Sent) → Fits n tables (Works b side) (Due r) → copy_by n b p r ≡ Some s → NextItem n tables b side s.way
copy_item n tables b side p (Urm1 tile thread key) s f h = absurd f.straight
copy_item n tables b side p (Urm2 tile thread key) s f h = absurd f.straight
copy_item n tables b side p (Rr dir key) s f h =
    record { item = Due (Rr dir key); fits = f; goes = way_if (has_packet n (record p { dest = dest.Key key })) (way_of dir) (record p { dest = dest.Key key }) s (taken_if (is_some (neighbour n dir b)) (sent_if n (way_of dir) (record p { dest = dest.Key key })) s h) }
copy_item n tables b side p (Mrm tile key mask) s f h = record { item = Due (Mrm tile key mask); fits = f; goes = way_if _ port.Down _ s h }
copy_item n tables b side p (Ind key) s f h = absurd f.straight

record_item : (n : ShapeNumbers) (tables : List Table) (b : Board) (side : Port) (key : ℕ) (w : Work) (o : Option RouteRec) (s : Sent) → AllByRecursion (Fits n tables (Works b side)) (map Due (rest_by (table_of n tables b) w key)) → slice_get (rest_by (table_of n tables b) w key) 0 ≡ o
    → (record_move n b (table_of n tables b) side key w o).sent ≡ Some s → NextItem n tables b side s.way
record_item n tables b side key w None s a is h = cc h
record_item n tables b side key w (Some r) s a is h =
    let rest = rest_by (table_of n tables b) w key in
    let all = subst (λ rs. AllByRecursion (Fits n tables (Works b side)) (map Due rs)) (first_is rest r is) a in
    copy_item n tables b side w.packet r s all.0 h

move_item : (n : ShapeNumbers) (tables : List Table) (b : Board) (side : Port) (w : Work) (d : Dest) (s : Sent) → w.packet.dest ≡ d → IsGoodKey (table_of n tables b) d × AllByRecursion (Fits n tables (Works b side)) (still_to (table_of n tables b) w d)
    → (move_to n b (table_of n tables b) side w d).sent ≡ Some s → NextItem n tables b side s.way
move_item n tables b side w (dest.Thread t) s e p h = absurd p.1.0
move_item n tables b side w dest.Host s e p h = record { item = Bound dest.Host; fits = p.1.0; goes = ap (router_port b) (sym e) ∙ ap (λ (x : Sent). x.way) (some_is _ s h) }
move_item n tables b side w (dest.Mask tile mask) s e p h = absurd p.1.0
move_item n tables b side w (dest.Key key) s e p h =
    let table = table_of n tables b in
    let moves : (record_move n b table side key w (next_record table w)).sent ≡ Some s =
    subst (λ v. (cond v (record { side = side; sent = None; work = Some w; bad = Some key }) (record_move n b table side key w (next_record table w))).sent ≡ Some s) p.0 h in
    record_item n tables b side key w (next_record table w) s p.1 (sym (ap (λ d. slice_get (rest_to table w d) 0) e)) moves

-- ---- a Route

-- what the router sends next goes to a way out at which a packet waits
record IsHeldUp (n : ShapeNumbers) (tables : List Table) (b : Board) (side : Port) (s : RouterState) : Type 0 where
  pub item : Item
  pub fits : Fits n tables (Works b side) item
  pub packet : Packet
  pub there : at (router_way b item) s.node.out ≡ Some packet

abbrev Routes : ShapeNumbers → List Table → Board → Port → RouterState → Type 0
Routes n tables b side s = (is_some (first_move (plan_of n tables b) s) ≡ true) ⊎ IsHeldUp n tables b side s

free_moves : (n : ShapeNumbers) (tables : List Table) (b : Board) (side : Port) (w : Work) (s : RouterState) → IsFit (plan_of n tables b) s → at side s.inputs ≡ Some w → is_free (sent_way (move_of n b (table_of n tables b) side w).sent) s.node.out ≡ true → Routes n tables b side s
free_moves n tables b side w s fit e free =
    let plan = plan_of n tables b in
    inl (side_moves plan s side (side_there plan s side w fit e) (sym (can_move plan side w s e) ∙ free))

by_way : (n : ShapeNumbers) (tables : List Table) (b : Board) (side : Port) (w : Work) (s : RouterState) (sent : Sent) (o : Option Packet) → IsFit (plan_of n tables b) s → at side s.inputs ≡ Some w → ProcessFits n tables b side (Some w)
    → (move_of n b (table_of n tables b) side w).sent ≡ Some sent → at sent.way s.node.out ≡ o → Routes n tables b side s
by_way n tables b side w s sent None fit e p is there =
    free_moves n tables b side w s fit e (ap (λ (x : Option Sent). is_free (sent_way x) s.node.out) is ∙ ap (λ (x : Option Packet). is_none x) there)
by_way n tables b side w s sent (Some q) fit e p is there =
    let next = move_item n tables b side w w.packet.dest sent refl p is in
    inr (record { item = next.item; fits = next.fits; packet = q; there = ap (λ way. at way s.node.out) next.goes ∙ there })

by_move : (n : ShapeNumbers) (tables : List Table) (b : Board) (side : Port) (w : Work) (s : RouterState) (o : Option Sent) → IsFit (plan_of n tables b) s → at side s.inputs ≡ Some w → ProcessFits n tables b side (Some w)
    → (move_of n b (table_of n tables b) side w).sent ≡ o → Routes n tables b side s
by_move n tables b side w s None fit e p is = free_moves n tables b side w s fit e (ap (λ (x : Option Sent). is_free (sent_way x) s.node.out) is)
by_move n tables b side w s (Some sent) fit e p is = by_way n tables b side w s sent (at sent.way s.node.out) fit e p is refl

abbrev RouteMoves : WorldView → List Table → ℕ → Port → Board → Type 0
RouteMoves w tables p side b = IsSome (happened (event.Route (record { 0 = p })) w) ⊎ ((k : Item) × Fits w.shape tables (Works b side) k × IsBlocked w (Works b side) k)

router_routes : (tables : List Table) (w : WorldView) (p : ℕ) (v : RouterView) (side : Port) (work : Work) → CanFlow tables w → slice_get w.parts p ≡ Some (RouterV v) → at side v.now.inputs ≡ Some work → RouteMoves w tables p side v.plan.board
router_routes tables w p v side work g is there =
    let n : ShapeNumbers = w.shape in
    let b = v.plan.board in
    let e : PartId = record { 0 = p } in
    let kinds = router_kind_at w p v g.world is in
    let on : RouterOnWay n tables b v.now = at_place (PartOnWay n tables) w p (RouterV v) g.on_way is in
    let ready : RouterReady n tables v = at_place (λ _ x. PartReady n tables x) w p (RouterV v) g.ready.routers is in
    let fit : IsFit (plan_of n tables b) v.now = subst (λ (q : RouterPlan). IsFit q v.now) ready.plan ready.fit in
    let process : ProcessFits n tables b side (Some work) = subst (ProcessFits n tables b side) there (on.process side) in
    elim (by_move n tables b side work v.now (move_of n b (table_of n tables b) side work).sent fit there process refl) [
      | inl moves ↦
          let own : is_some (first_move v.plan v.now) ≡ true = subst (λ (q : RouterPlan). is_some (first_move q v.now) ≡ true) (sym ready.plan) moves in
          let row : is_some (route_row v.plan v.now) ≡ true = some_mapped (carried v.now) (first_move v.plan v.now) ∙ own in
          inl (
          ap (λ c. is_some (happened_at (event.Route e) w (one_if (is_router c) p))) kinds.is
          ∙ one_happens (event.Route e) w p (RouterV v) is (some_router v (route_row v.plan v.now) ∙ row)
          )
      | inr held ↦
          inr (
            held.item,
            held.fits,
            record { onto = RouterWaits b (router_way b held.item); leads = refl; taken = record { part = p; view = v; packet = held.packet; is = is; named = refl; there = held.there } },
          )
    ]

pub routers_route : RoutersRoute
routers_route tables w b side g x = subst (RouteMoves w tables x.part side) x.named (router_routes tables w x.part x.view side x.work g x.is x.there)
