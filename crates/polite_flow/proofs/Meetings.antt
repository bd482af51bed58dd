-- Departures and arrivals keep packets on their way.
use Rattle.std.proofs.Common.{ℕ, ◌≡◌, Bool, true, false, cond, refl, sym, subst, List, [], ◌∷◌, ◌++◌, length, Option, Some, None, option_map}
use Rattle.std.specs.Prelude.{nat_lt}
use Rattle.std.specs.List.{AllByRecursion}
use Rattle.rv_isa.specs.declared.instr.Instr.{Instr}
use Rattle.tn_base.specs.declared.event.Event.TheVariants as event
use Rattle.tn_base.specs.declared.ids.Board.{Board}
use Rattle.tn_base.specs.declared.ids.PartId.{PartId}
use Rattle.tn_base.specs.declared.ids.TileId.{TileId}
use Rattle.tn_base.specs.declared.message.Packet.{Packet}
use Rattle.tn_base.specs.declared.part.Kind.{Kind}
use Rattle.tn_base.specs.declared.part.Kind.TheVariants as kind
use Rattle.tn_base.specs.declared.port.Port.{Port}
use Rattle.tn_base.specs.declared.shape.ShapeNumbers.{ShapeNumbers}
use Rattle.tn_base.specs.Parts.{kind_of}
use Rattle.tn_keys.specs.Tables.{HasBoard, Table}
use Rattle.tn_link.specs.LinkRows.{first_in, front_of, rest_in}
use Rattle.tn_link.specs.LinkView.{LinkView}
use Rattle.tn_node.specs.Deed as deed
use Rattle.tn_node.specs.NodeRows.{offered}
use Rattle.tn_node.specs.SamePacket.{is_packet}
use Rattle.tn_router.specs.declared.state.RouterState.{RouterState}
use Rattle.tn_router.specs.Kept.{IsFit}
use Rattle.tn_router.specs.RouterView.{now_by as router_now_by}
use Rattle.tn_router.specs.Rows.{router_deed}
use Rattle.tn_rows.specs.Events.{Met, after, meets, met_with}
use Rattle.tn_rows.specs.PartView.{PartView, TileV, RouterV, LinkV}
use Rattle.tn_rows.specs.Places.{link_side, link_way}
use Rattle.tn_rows.proofs.Meeting.{met_rows}
use Rattle.tn_stamp.specs.declared.entry.Crossing.TheVariants as crossing
use Rattle.tn_tile.specs.declared.state.TileState.{TileState}
use Rattle.tn_tile.specs.Rows.{tile_deed}
use Rattle.tn_tile.specs.TileView.{TilePlan, now_by}
use Rattle.polite_flow.specs.Law.{HasRoutes}
use Rattle.polite_flow.specs.Machine.{LeadsOn}
use Rattle.polite_flow.specs.Meetings.{LinkFits, LinkOnWay, RouterMet, TileMet, router_with, tile_with}
use Rattle.polite_flow.specs.OnWay.{Fits}
use Rattle.polite_flow.specs.Places.{Bound, RouterLink, TileLink, tile_named}
use Rattle.polite_flow.specs.Routers.{Comes, RouterOnWay, plan_of}
use Rattle.polite_flow.specs.Tiles.{ComesToTile, TileOnWay}
use Rattle.polite_flow.proofs.Links.{links_lead}
use Rattle.polite_flow.proofs.Passing as tiles
use Rattle.polite_flow.proofs.Process as routers

-- ---- links

all_append : {X : Type 0} (P : X → Type 0) (xs ys : List X) → AllByRecursion P xs → AllByRecursion P ys → AllByRecursion P (xs ++ ys)
all_append P [] ys a b = b
all_append P (x ∷ xs) ys a b = (a.0, all_append P xs ys a.1 b)

-- a link after its row, whose packets have P
pub record LinkNow (P : Packet → Type 0) (high : PartView) : Type 0 where
  pub link : LinkView
  pub is : high ≡ LinkV link
  pub fits : AllByRecursion P link.packets

pub some_is : {X : Type 0} (x y : X) → Some x ≡ Some y → x ≡ y
some_is x y e = cc e

put_fits : (P : Packet → Type 0) (k : Packet) (x : LinkView) (room : Bool) (high : PartView) → P k → AllByRecursion P x.packets → option_map LinkV (cond room (Some (record { packets = x.packets ++ k ∷ []; capacity = x.capacity })) None) ≡ Some high → LinkNow P high
put_fits P k x true high new all h = record { link = record { packets = x.packets ++ k ∷ []; capacity = x.capacity }; is = sym (some_is _ high h); fits = all_append P x.packets (k ∷ []) all (new, tt) }
put_fits P k x false high new all h = cc h

pub took_fits : (P : Packet → Type 0) (capacity : ℕ) (packets : List Packet) (same : Bool) (high : PartView) → AllByRecursion P packets → option_map LinkV (cond same (rest_in capacity packets) None) ≡ Some high → LinkNow P high
took_fits P capacity [] true high all h = cc h
took_fits P capacity (k ∷ ks) true high all h = record { link = record { packets = ks; capacity = capacity }; is = sym (some_is _ high h); fits = all.1 }
took_fits P capacity packets false high all h = cc h

pub first_fits : (P : Packet → Type 0) (packets : List Packet) (k : Packet) → AllByRecursion P packets → first_in packets ≡ Some k → P k
first_fits P [] k all e = cc e
first_fits P (x ∷ xs) k all e = subst P (some_is x k e) all.0

-- ---- parts

-- the state of a tile after its row
tile_now : (n : ShapeNumbers) (a : TileId) (code : List (Option Instr)) (s : TileState) (o : Option TileState) (low : PartView) → option_map TileV (now_by (record { plan = record { shape = n; tile = a.0; code = code }; now = s }) o) ≡ Some low
    → (t : TileState) × (o ≡ Some t) × (low ≡ tile_with n a code t)
tile_now n a code s None low h = cc h
tile_now n a code s (Some t) low h = (t, refl, sym (some_is _ low h))

router_now : (n : ShapeNumbers) (tables : List Table) (b : Board) (s : RouterState) (o : Option RouterState) (low : PartView) → option_map RouterV (router_now_by (record { plan = plan_of n tables b; now = s }) o) ≡ Some low
    → (t : RouterState) × (o ≡ Some t) × (low ≡ router_with n tables b t)
router_now n tables b s None low h = cc h
router_now n tables b s (Some t) low h = (t, refl, sym (some_is _ low h))

-- ---- departures

pub tiles_depart : (n : ShapeNumbers) (tables : List Table) (p l : PartId) (a : TileId) (code : List (Option Instr)) (s : TileState) (x : LinkView) (m : Met) → HasRoutes n tables
    → TileOnWay n tables a.0 s → LinkOnWay n tables l.0 (kind.Tile a) x → meets (event.Depart p l) (tile_with n a code s) (LinkV x) ≡ Some m → TileMet n tables a code l.0 (kind.Tile a) m
tiles_depart n tables p l a code s x m g r all h = by (offered (link_way n l.0) s.node) h where
  plan : TilePlan
  plan = record { shape = n; tile = a.0; code = code }

  by : (o : Option Packet) → met_with (event.Depart p l) (tile_with n a code s) (LinkV x) (option_map crossing.Packet o) ≡ Some m → TileMet n tables a code l.0 (kind.Tile a) m
  by None q = cc q
  by (Some k) q =
      let rows = met_rows (after (event.Depart p l) (crossing.Packet k) (tile_with n a code s)) (after (event.Depart p l) (crossing.Packet k) (LinkV x)) m q in
      let t = tile_now n a code s (tile_deed plan (deed.Give (link_way n l.0) k) s) m.low rows.0 in
      let fits : Fits n tables (TileLink (tile_named a.0) (link_way n l.0)) (Bound k.dest) = tiles.gives_ways n tables plan (link_way n l.0) k s t.0 r t.1 in
      let link = put_fits (LinkFits n tables (link_way n l.0) (kind.Tile a)) k x (nat_lt (length x.packets) x.capacity) m.high fits all rows.1 in
      record { tile = t.0; link = link.link; low = t.2; high = link.is; tile_fits = tiles.keeps_ways n tables plan (deed.Give (link_way n l.0) k) s t.0 g tt r t.1; link_fits = link.fits }

pub routers_depart : (n : ShapeNumbers) (tables : List Table) (p l : PartId) (b : Board) (s : RouterState) (x : LinkView) (m : Met) → HasRoutes n tables → HasBoard n b → IsFit (plan_of n tables b) s
    → RouterOnWay n tables b s → LinkOnWay n tables l.0 (kind.Router b) x → meets (event.Depart p l) (router_with n tables b s) (LinkV x) ≡ Some m → RouterMet n tables b l.0 (kind.Router b) m
routers_depart n tables p l b s x m g on f r all h = by (offered (link_way n l.0) s.node) h where
  by : (o : Option Packet) → met_with (event.Depart p l) (router_with n tables b s) (LinkV x) (option_map crossing.Packet o) ≡ Some m → RouterMet n tables b l.0 (kind.Router b) m
  by None q = cc q
  by (Some k) q =
      let rows = met_rows (after (event.Depart p l) (crossing.Packet k) (router_with n tables b s)) (after (event.Depart p l) (crossing.Packet k) (LinkV x)) m q in
      let t = router_now n tables b s (router_deed (plan_of n tables b) (deed.Give (link_way n l.0) k) s) m.low rows.0 in
      let fits : Fits n tables (RouterLink b (link_way n l.0)) (Bound k.dest) = routers.gives_ways n tables b (link_way n l.0) k s t.0 r t.1 in
      let link = put_fits (LinkFits n tables (link_way n l.0) (kind.Router b)) k x (nat_lt (length x.packets) x.capacity) m.high fits all rows.1 in
      record { router = t.0; link = link.link; low = t.2; high = link.is; router_fits = routers.keeps_ways n tables b (deed.Give (link_way n l.0) k) s t.0 g on f tt r t.1; link_fits = link.fits }

-- ---- arrivals

comes_to_tile : (n : ShapeNumbers) (tables : List Table) (way side : Port) (from : Kind) (a : TileId) (k : Packet) → LinkFits n tables way from k → LeadsOn n k.dest way side from (kind.Tile a) → ComesToTile n tables a.0 k.dest
comes_to_tile n tables way side (kind.Tile c) a k f leads = record { from = TileLink (tile_named c.0) way; fits = f; leads = leads }
comes_to_tile n tables way side (kind.Router c) a k f leads = record { from = RouterLink c way; fits = f; leads = leads }
comes_to_tile n tables way side kind.Host a k f leads = absurd f
comes_to_tile n tables way side (kind.Link x y) a k f leads = absurd f
comes_to_tile n tables way side kind.Detector a k f leads = absurd f

comes_to_router : (n : ShapeNumbers) (tables : List Table) (way side : Port) (from : Kind) (b : Board) (k : Packet) → LinkFits n tables way from k → LeadsOn n k.dest way side from (kind.Router b) → Comes n tables b side k.dest
comes_to_router n tables way side (kind.Tile c) b k f leads = record { from = TileLink (tile_named c.0) way; fits = f; leads = leads }
comes_to_router n tables way side (kind.Router c) b k f leads = record { from = RouterLink c way; fits = f; leads = leads }
comes_to_router n tables way side kind.Host b k f leads = absurd f
comes_to_router n tables way side (kind.Link x y) b k f leads = absurd f
comes_to_router n tables way side kind.Detector b k f leads = absurd f

pub tiles_arrive : (n : ShapeNumbers) (tables : List Table) (l p from onto : PartId) (a : TileId) (code : List (Option Instr)) (s : TileState) (x : LinkView) (m : Met) → HasRoutes n tables → kind_of n l.0 ≡ kind.Link from onto → kind_of n onto.0 ≡ kind.Tile a
    → TileOnWay n tables a.0 s → LinkOnWay n tables l.0 (kind_of n from.0) x → meets (event.Arrive l p) (tile_with n a code s) (LinkV x) ≡ Some m → TileMet n tables a code l.0 (kind_of n from.0) m
tiles_arrive n tables l p from onto a code s x m g e onto_tile r all h = by (front_of x) refl h where
  plan : TilePlan
  plan = record { shape = n; tile = a.0; code = code }

  by : (o : Option Packet) → front_of x ≡ o → met_with (event.Arrive l p) (tile_with n a code s) (LinkV x) (option_map crossing.Packet o) ≡ Some m → TileMet n tables a code l.0 (kind_of n from.0) m
  by None i q = cc q
  by (Some k) i q =
      let rows = met_rows (after (event.Arrive l p) (crossing.Packet k) (tile_with n a code s)) (after (event.Arrive l p) (crossing.Packet k) (LinkV x)) m q in
      let t = tile_now n a code s (tile_deed plan (deed.Take (link_side n l.0) k) s) m.low rows.0 in
      let fits = first_fits (LinkFits n tables (link_way n l.0) (kind_of n from.0)) x.packets k all i in
      let leads : LeadsOn n k.dest (link_way n l.0) (link_side n l.0) (kind_of n from.0) (kind.Tile a) = subst (LeadsOn n k.dest (link_way n l.0) (link_side n l.0) (kind_of n from.0)) onto_tile (links_lead n g.limits l.0 from onto k.dest e) in
      let link = took_fits (LinkFits n tables (link_way n l.0) (kind_of n from.0)) x.capacity x.packets (is_packet k (front_of x)) m.high all rows.1 in
      record {
        tile = t.0;
        link = link.link;
        low = t.2;
        high = link.is;
        tile_fits = tiles.keeps_ways n tables plan (deed.Take (link_side n l.0) k) s t.0 g (comes_to_tile n tables (link_way n l.0) (link_side n l.0) (kind_of n from.0) a k fits leads) r t.1;
        link_fits = link.fits;
      }

pub routers_arrive : (n : ShapeNumbers) (tables : List Table) (l p from onto : PartId) (b : Board) (s : RouterState) (x : LinkView) (m : Met) → HasRoutes n tables → kind_of n l.0 ≡ kind.Link from onto → kind_of n onto.0 ≡ kind.Router b → HasBoard n b → IsFit (plan_of n tables b) s
    → RouterOnWay n tables b s → LinkOnWay n tables l.0 (kind_of n from.0) x → meets (event.Arrive l p) (router_with n tables b s) (LinkV x) ≡ Some m → RouterMet n tables b l.0 (kind_of n from.0) m
routers_arrive n tables l p from onto b s x m g e onto_router on f r all h = by (front_of x) refl h where
  by : (o : Option Packet) → front_of x ≡ o → met_with (event.Arrive l p) (router_with n tables b s) (LinkV x) (option_map crossing.Packet o) ≡ Some m → RouterMet n tables b l.0 (kind_of n from.0) m
  by None i q = cc q
  by (Some k) i q =
      let rows = met_rows (after (event.Arrive l p) (crossing.Packet k) (router_with n tables b s)) (after (event.Arrive l p) (crossing.Packet k) (LinkV x)) m q in
      let t = router_now n tables b s (router_deed (plan_of n tables b) (deed.Take (link_side n l.0) k) s) m.low rows.0 in
      let fits = first_fits (LinkFits n tables (link_way n l.0) (kind_of n from.0)) x.packets k all i in
      let leads : LeadsOn n k.dest (link_way n l.0) (link_side n l.0) (kind_of n from.0) (kind.Router b) = subst (LeadsOn n k.dest (link_way n l.0) (link_side n l.0) (kind_of n from.0)) onto_router (links_lead n g.limits l.0 from onto k.dest e) in
      let link = took_fits (LinkFits n tables (link_way n l.0) (kind_of n from.0)) x.capacity x.packets (is_packet k (front_of x)) m.high all rows.1 in
      record {
        router = t.0;
        link = link.link;
        low = t.2;
        high = link.is;
        router_fits = routers.keeps_ways n tables b (deed.Take (link_side n l.0) k) s t.0 g on f (comes_to_router n tables (link_way n l.0) (link_side n l.0) (kind_of n from.0) b k fits leads) r t.1;
        link_fits = link.fits;
      }
