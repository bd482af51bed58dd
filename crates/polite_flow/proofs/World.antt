-- Events of a whole machine keep all its packets on their way.
use Rattle.std.proofs.Common.{ℕ, ◌≡◌, ◌<◌, Bool, cond, refl, sym, ap, ◌∙◌, subst, List, length, get_or, set, inl, inr, arith, length-set, Option, Some, None, option_map}
use Rattle.std.specs.List.{slice_get}
use Rattle.std.specs.Prelude.{option_and_then}
use Rattle.std.proofs.lemmas.Bool.{cases_eq}
use Rattle.std.proofs.lemmas.Grind.{get_or-set_at}
use Rattle.std.proofs.lemmas.List.{get_or-set_other}
use Rattle.std.proofs.lemmas.Option.{get_or_from_slice_get, slice_get_within}
use Rattle.tn_base.specs.declared.event.Event.{Event}
use Rattle.tn_base.specs.declared.event.Event.TheVariants as event
use Rattle.tn_base.specs.declared.part.Kind.{Kind}
use Rattle.tn_base.specs.declared.part.Kind.TheVariants as kind
use Rattle.tn_base.specs.declared.shape.ShapeNumbers.{ShapeNumbers}
use Rattle.tn_base.specs.Parts.{kind_of}
use Rattle.tn_keys.specs.Tables.{Table}
use Rattle.tn_link.specs.LinkRows.{front_of, take_from}
use Rattle.tn_link.specs.LinkView.{LinkView}
use Rattle.tn_node.specs.Deed.{Deed}
use Rattle.tn_node.specs.SamePacket.{is_packet}
use Rattle.tn_router.specs.declared.state.RouterState.{RouterState}
use Rattle.tn_router.specs.Kept.{IsFit}
use Rattle.tn_router.specs.Rows.{router_deed}
use Rattle.tn_router.specs.RouterView.{RouterPlan, RouterView, now_by as router_now_by}
use Rattle.tn_rows.specs.Events.{after, deed_of, happened, happened_at, link_row, meets, meets_at, router_did, tile_did, with_both, with_part}
use Rattle.tn_rows.specs.PartView.{PartView, TileV, RouterV, LinkV, HostV, DetectorV, AbsentV}
use Rattle.tn_rows.specs.Places.{Places, Nowhere, One, Two, at_part, part_of, places}
use Rattle.tn_rows.specs.WorldView.{WorldView}
use Rattle.tn_rows.proofs.Meeting.{mapped, meeting}
use Rattle.tn_stamp.specs.declared.entry.Crossing.{Crossing}
use Rattle.tn_stamp.specs.declared.entry.Crossing.TheVariants as crossing
use Rattle.tn_tile.specs.declared.state.TileState.{TileState}
use Rattle.tn_tile.specs.TileView.{TileView, now_by}
use Rattle.polite_flow.specs.Law.{HasRoutes}
use Rattle.polite_flow.specs.Routers.{RouterOnWay, TakesWhatComes, plan_of}
use Rattle.polite_flow.specs.Tiles.{TileDeedFits, TileOnWay}
use Rattle.polite_flow.specs.World.{IsReady, KindOnWay, LeavesFit, PartOnWay, PartReady, RouterReady, SentFits, WorldOnWay}
use Rattle.polite_flow.proofs.Meetings.{some_is, took_fits}
use Rattle.polite_flow.proofs.Passing as tiles
use Rattle.polite_flow.proofs.Process as routers

-- ---- lists of parts

pub placed : (P : ℕ → PartView → Type 0) (parts : List PartView) (p q : ℕ) (new : PartView) → p < length parts → ((r : ℕ) → P r (get_or parts r AbsentV)) → P p new → P q (get_or (set parts p new) q AbsentV)
placed P parts p q new within all here = elim (cases_eq q p) [
  | inl e ↦ subst (P q) (sym (get_or-set_at parts p q new AbsentV e within)) (subst (λ i. P i new) (sym e) here)
  | inr ne ↦ subst (P q) (sym (get_or-set_other parts p q new AbsentV ne)) (all q)
]

-- ---- what deeds ask

-- a turn leaves what fits
abbrev TurnLeaves : ShapeNumbers → List Table → Event → PartView → Type 0
TurnLeaves n tables (event.Turn who k) y = SentFits n tables y
TurnLeaves n tables (event.Deliver who) y = Unit {0}
TurnLeaves n tables (event.Depart p l) y = ⊥
TurnLeaves n tables (event.Arrive l p) y = ⊥
TurnLeaves n tables (event.Route p) y = Unit {0}
TurnLeaves n tables event.HostPut y = ⊥
TurnLeaves n tables event.HostTake y = Unit {0}
TurnLeaves n tables (event.Report p) y = Unit {0}
TurnLeaves n tables event.Begin y = Unit {0}
TurnLeaves n tables (event.Confirm p) y = Unit {0}
TurnLeaves n tables event.Announce y = Unit {0}
TurnLeaves n tables (event.Release p) y = Unit {0}
TurnLeaves n tables (event.Go p) y = Unit {0}

tile_fits : (n m : ShapeNumbers) (tables : List Table) (e : Event) (c : Crossing) (d : Deed) (v : TileView) (t : TileState) → TurnLeaves n tables e (TileV (record v { now = t })) → deed_of m e c ≡ Some d → TileDeedFits n tables v.plan.tile d t
tile_fits n m tables (event.Turn who k) crossing.None d v t f h = subst (λ z. TileDeedFits n tables v.plan.tile z t) (some_is _ d h) f
tile_fits n m tables (event.Turn who k) (crossing.Packet u) d v t f h = cc h
tile_fits n m tables (event.Turn who k) (crossing.View u) d v t f h = cc h
tile_fits n m tables (event.Deliver who) crossing.None d v t f h = subst (λ z. TileDeedFits n tables v.plan.tile z t) (some_is _ d h) tt
tile_fits n m tables (event.Deliver who) (crossing.Packet u) d v t f h = cc h
tile_fits n m tables (event.Deliver who) (crossing.View u) d v t f h = cc h
tile_fits n m tables (event.Depart p l) c d v t f h = absurd f
tile_fits n m tables (event.Arrive l p) c d v t f h = absurd f
tile_fits n m tables (event.Route p) crossing.None d v t f h = subst (λ z. TileDeedFits n tables v.plan.tile z t) (some_is _ d h) tt
tile_fits n m tables (event.Route p) (crossing.Packet u) d v t f h = cc h
tile_fits n m tables (event.Route p) (crossing.View u) d v t f h = cc h
tile_fits n m tables event.HostPut c d v t f h = absurd f
tile_fits n m tables event.HostTake crossing.None d v t f h = cc h
tile_fits n m tables event.HostTake (crossing.Packet u) d v t f h = subst (λ z. TileDeedFits n tables v.plan.tile z t) (some_is _ d h) tt
tile_fits n m tables event.HostTake (crossing.View u) d v t f h = cc h
tile_fits n m tables (event.Report p) crossing.None d v t f h = cc h
tile_fits n m tables (event.Report p) (crossing.Packet u) d v t f h = cc h
tile_fits n m tables (event.Report p) (crossing.View u) d v t f h = subst (λ z. TileDeedFits n tables v.plan.tile z t) (some_is _ d h) tt
tile_fits n m tables event.Begin crossing.None d v t f h = subst (λ z. TileDeedFits n tables v.plan.tile z t) (some_is _ d h) tt
tile_fits n m tables event.Begin (crossing.Packet u) d v t f h = cc h
tile_fits n m tables event.Begin (crossing.View u) d v t f h = cc h
tile_fits n m tables (event.Confirm p) crossing.None d v t f h = cc h
tile_fits n m tables (event.Confirm p) (crossing.Packet u) d v t f h = cc h
tile_fits n m tables (event.Confirm p) (crossing.View u) d v t f h = subst (λ z. TileDeedFits n tables v.plan.tile z t) (some_is _ d h) tt
tile_fits n m tables event.Announce crossing.None d v t f h = subst (λ z. TileDeedFits n tables v.plan.tile z t) (some_is _ d h) tt
tile_fits n m tables event.Announce (crossing.Packet u) d v t f h = cc h
tile_fits n m tables event.Announce (crossing.View u) d v t f h = cc h
tile_fits n m tables (event.Release p) crossing.None d v t f h = cc h
tile_fits n m tables (event.Release p) (crossing.Packet u) d v t f h = cc h
tile_fits n m tables (event.Release p) (crossing.View u) d v t f h = subst (λ z. TileDeedFits n tables v.plan.tile z t) (some_is _ d h) tt
tile_fits n m tables (event.Go p) crossing.None d v t f h = cc h
tile_fits n m tables (event.Go p) (crossing.Packet u) d v t f h = cc h
tile_fits n m tables (event.Go p) (crossing.View u) d v t f h = subst (λ z. TileDeedFits n tables v.plan.tile z t) (some_is _ d h) tt

router_fits : (n m : ShapeNumbers) (tables : List Table) (e : Event) (c : Crossing) (d : Deed) (v : RouterView) (y : PartView) → TurnLeaves n tables e y → deed_of m e c ≡ Some d → TakesWhatComes n tables v.plan.board d
router_fits n m tables (event.Turn who k) crossing.None d v y f h = subst (TakesWhatComes n tables v.plan.board) (some_is _ d h) tt
router_fits n m tables (event.Turn who k) (crossing.Packet u) d v y f h = cc h
router_fits n m tables (event.Turn who k) (crossing.View u) d v y f h = cc h
router_fits n m tables (event.Deliver who) crossing.None d v y f h = subst (TakesWhatComes n tables v.plan.board) (some_is _ d h) tt
router_fits n m tables (event.Deliver who) (crossing.Packet u) d v y f h = cc h
router_fits n m tables (event.Deliver who) (crossing.View u) d v y f h = cc h
router_fits n m tables (event.Depart p l) c d v y f h = absurd f
router_fits n m tables (event.Arrive l p) c d v y f h = absurd f
router_fits n m tables (event.Route p) crossing.None d v y f h = subst (TakesWhatComes n tables v.plan.board) (some_is _ d h) tt
router_fits n m tables (event.Route p) (crossing.Packet u) d v y f h = cc h
router_fits n m tables (event.Route p) (crossing.View u) d v y f h = cc h
router_fits n m tables event.HostPut c d v y f h = absurd f
router_fits n m tables event.HostTake crossing.None d v y f h = cc h
router_fits n m tables event.HostTake (crossing.Packet u) d v y f h = subst (TakesWhatComes n tables v.plan.board) (some_is _ d h) tt
router_fits n m tables event.HostTake (crossing.View u) d v y f h = cc h
router_fits n m tables (event.Report p) crossing.None d v y f h = cc h
router_fits n m tables (event.Report p) (crossing.Packet u) d v y f h = cc h
router_fits n m tables (event.Report p) (crossing.View u) d v y f h = subst (TakesWhatComes n tables v.plan.board) (some_is _ d h) tt
router_fits n m tables event.Begin crossing.None d v y f h = subst (TakesWhatComes n tables v.plan.board) (some_is _ d h) tt
router_fits n m tables event.Begin (crossing.Packet u) d v y f h = cc h
router_fits n m tables event.Begin (crossing.View u) d v y f h = cc h
router_fits n m tables (event.Confirm p) crossing.None d v y f h = cc h
router_fits n m tables (event.Confirm p) (crossing.Packet u) d v y f h = cc h
router_fits n m tables (event.Confirm p) (crossing.View u) d v y f h = subst (TakesWhatComes n tables v.plan.board) (some_is _ d h) tt
router_fits n m tables event.Announce crossing.None d v y f h = subst (TakesWhatComes n tables v.plan.board) (some_is _ d h) tt
router_fits n m tables event.Announce (crossing.Packet u) d v y f h = cc h
router_fits n m tables event.Announce (crossing.View u) d v y f h = cc h
router_fits n m tables (event.Release p) crossing.None d v y f h = cc h
router_fits n m tables (event.Release p) (crossing.Packet u) d v y f h = cc h
router_fits n m tables (event.Release p) (crossing.View u) d v y f h = subst (TakesWhatComes n tables v.plan.board) (some_is _ d h) tt
router_fits n m tables (event.Go p) crossing.None d v y f h = cc h
router_fits n m tables (event.Go p) (crossing.Packet u) d v y f h = cc h
router_fits n m tables (event.Go p) (crossing.View u) d v y f h = subst (TakesWhatComes n tables v.plan.board) (some_is _ d h) tt

-- ---- links

link_keeps : (n : ShapeNumbers) (tables : List Table) (l : ℕ) (k : Kind) (x y : LinkView) (same : Bool) → KindOnWay n tables l k x → cond same (take_from x) None ≡ Some y → KindOnWay n tables l k y
link_keeps n tables l (kind.Link from onto) x y same r h =
    let t = took_fits _ x.capacity x.packets same (LinkV y) r (ap (option_map LinkV) h) in
    let is : t.link ≡ y = cc in subst (KindOnWay n tables l (kind.Link from onto)) is t.fits
link_keeps n tables l kind.Host x y same r h = tt
link_keeps n tables l (kind.Tile a) x y same r h = tt
link_keeps n tables l (kind.Router b) x y same r h = tt
link_keeps n tables l kind.Detector x y same r h = tt

link_side : (n : ShapeNumbers) (tables : List Table) (p : ℕ) (e : Event) (c : Crossing) (x y : LinkView) (z : PartView) → TurnLeaves n tables e z → KindOnWay n tables p (kind_of n p) x → link_row e c x ≡ Some y → KindOnWay n tables p (kind_of n p) y
link_side n tables p0 (event.Turn who k) crossing.None x y z f r h = cc h
link_side n tables p0 (event.Turn who k) (crossing.Packet u) x y z f r h = cc h
link_side n tables p0 (event.Turn who k) (crossing.View u) x y z f r h = cc h
link_side n tables p0 (event.Deliver who) crossing.None x y z f r h = cc h
link_side n tables p0 (event.Deliver who) (crossing.Packet u) x y z f r h = cc h
link_side n tables p0 (event.Deliver who) (crossing.View u) x y z f r h = cc h
link_side n tables p0 (event.Depart p l) c x y z f r h = absurd f
link_side n tables p0 (event.Arrive l p) c x y z f r h = absurd f
link_side n tables p0 (event.Route p) crossing.None x y z f r h = cc h
link_side n tables p0 (event.Route p) (crossing.Packet u) x y z f r h = cc h
link_side n tables p0 (event.Route p) (crossing.View u) x y z f r h = cc h
link_side n tables p0 event.HostPut c x y z f r h = absurd f
link_side n tables p0 event.HostTake crossing.None x y z f r h = cc h
link_side n tables p0 event.HostTake (crossing.Packet u) x y z f r h = link_keeps n tables p0 (kind_of n p0) x y (is_packet u (front_of x)) r h
link_side n tables p0 event.HostTake (crossing.View u) x y z f r h = cc h
link_side n tables p0 (event.Report p) crossing.None x y z f r h = cc h
link_side n tables p0 (event.Report p) (crossing.Packet u) x y z f r h = cc h
link_side n tables p0 (event.Report p) (crossing.View u) x y z f r h = cc h
link_side n tables p0 event.Begin crossing.None x y z f r h = cc h
link_side n tables p0 event.Begin (crossing.Packet u) x y z f r h = cc h
link_side n tables p0 event.Begin (crossing.View u) x y z f r h = cc h
link_side n tables p0 (event.Confirm p) crossing.None x y z f r h = cc h
link_side n tables p0 (event.Confirm p) (crossing.Packet u) x y z f r h = cc h
link_side n tables p0 (event.Confirm p) (crossing.View u) x y z f r h = cc h
link_side n tables p0 event.Announce crossing.None x y z f r h = cc h
link_side n tables p0 event.Announce (crossing.Packet u) x y z f r h = cc h
link_side n tables p0 event.Announce (crossing.View u) x y z f r h = cc h
link_side n tables p0 (event.Release p) crossing.None x y z f r h = cc h
link_side n tables p0 (event.Release p) (crossing.Packet u) x y z f r h = cc h
link_side n tables p0 (event.Release p) (crossing.View u) x y z f r h = cc h
link_side n tables p0 (event.Go p) crossing.None x y z f r h = cc h
link_side n tables p0 (event.Go p) (crossing.Packet u) x y z f r h = cc h
link_side n tables p0 (event.Go p) (crossing.View u) x y z f r h = cc h

-- ---- each kind of part

tile_side : (n : ShapeNumbers) (tables : List Table) (p : ℕ) (e : Event) (c : Crossing) (v : TileView) (y : PartView) (o : Option Deed) → deed_of v.plan.shape e c ≡ o → HasRoutes n tables → TurnLeaves n tables e y → TileOnWay n tables v.plan.tile v.now → option_map TileV (now_by v (tile_did v.plan v.now o)) ≡ Some y → PartOnWay n tables p y
tile_side n tables p e c v y None is g f r h = cc h
tile_side n tables p e c v y (Some d) is g f r h =
    let a = mapped TileV (now_by v (tile_did v.plan v.now (Some d))) y h in
    let b = mapped (λ (t : TileState). record v { now = t }) (tile_did v.plan v.now (Some d)) a.0 a.1 in
    let same : TileV (record v { now = b.0 }) ≡ y = ap TileV b.2 ∙ a.2 in
    subst (PartOnWay n tables p) same (tiles.keeps_ways n tables v.plan d v.now b.0 g (tile_fits n v.plan.shape tables e c d v b.0 (subst (TurnLeaves n tables e) (sym same) f) is) r b.1)

router_side : (n : ShapeNumbers) (tables : List Table) (p : ℕ) (e : Event) (c : Crossing) (v : RouterView) (y : PartView) (o : Option Deed) → deed_of v.plan.shape e c ≡ o → HasRoutes n tables → RouterReady n tables v → TurnLeaves n tables e y → RouterOnWay n tables v.plan.board v.now → option_map RouterV (router_now_by v (router_did v.plan v.now o)) ≡ Some y → PartOnWay n tables p y
router_side n tables p e c v y None is g k f r h = cc h
router_side n tables p e c v y (Some d) is g k f r h =
    let a = mapped RouterV (router_now_by v (router_did v.plan v.now (Some d))) y h in
    let b = mapped (λ (t : RouterState). record v { now = t }) (router_did v.plan v.now (Some d)) a.0 a.1 in
    let same : RouterV (record v { now = b.0 }) ≡ y = ap RouterV b.2 ∙ a.2 in
    let row : router_deed (plan_of n tables v.plan.board) d v.now ≡ Some b.0 = subst (λ (q : RouterPlan). router_deed q d v.now ≡ Some b.0) k.plan b.1 in
    let fit : IsFit (plan_of n tables v.plan.board) v.now = subst (λ (q : RouterPlan). IsFit q v.now) k.plan k.fit in
    subst (PartOnWay n tables p) same (routers.keeps_ways n tables v.plan.board d v.now b.0 g k.on fit (router_fits n v.plan.shape tables e c d v y f is) r row)

side : (n : ShapeNumbers) (tables : List Table) (p : ℕ) (e : Event) (c : Crossing) (x y : PartView) → HasRoutes n tables → PartReady n tables x → TurnLeaves n tables e y → PartOnWay n tables p x → after e c x ≡ Some y → PartOnWay n tables p y
side n tables p e c (TileV v) y g k f r h = tile_side n tables p e c v y (deed_of v.plan.shape e c) refl g f r h
side n tables p e c (RouterV v) y g k f r h = router_side n tables p e c v y (deed_of v.plan.shape e c) refl g k f r h
side n tables p e c (LinkV v) y g k f r h =
    let a = mapped LinkV (link_row e c v) y h in
    subst (PartOnWay n tables p) a.2 (link_side n tables p e c v a.0 y f r a.1)
side n tables p e c (HostV s) y g k f r h = let a = mapped HostV _ y h in subst (PartOnWay n tables p) a.2 tt
side n tables p e c (DetectorV v) y g k f r h = let a = mapped DetectorV _ y h in subst (PartOnWay n tables p) a.2 tt
side n tables p e c AbsentV y g k f r h = cc h

-- ---- the whole machine

turn_left : (n : ShapeNumbers) (tables : List Table) (e : Event) (new : WorldView) (p : ℕ) (y : PartView) → get_or new.parts p AbsentV ≡ y → LeavesFit n tables e new → TurnLeaves n tables e y
turn_left n tables (event.Turn who k) new q y is f = subst (SentFits n tables) is (f q)
turn_left n tables (event.Deliver who) new q y is f = tt
turn_left n tables (event.Depart p l) new q y is f = absurd f
turn_left n tables (event.Arrive l p) new q y is f = absurd f
turn_left n tables (event.Route p) new q y is f = tt
turn_left n tables event.HostPut new q y is f = absurd f
turn_left n tables event.HostTake new q y is f = tt
turn_left n tables (event.Report p) new q y is f = tt
turn_left n tables event.Begin new q y is f = tt
turn_left n tables (event.Confirm p) new q y is f = tt
turn_left n tables event.Announce new q y is f = tt
turn_left n tables (event.Release p) new q y is f = tt
turn_left n tables (event.Go p) new q y is f = tt

one_part : (tables : List Table) (e : Event) (w new : WorldView) (p : ℕ) (o : Option PartView) → IsReady tables w → WorldOnWay tables w → LeavesFit w.shape tables e new → slice_get w.parts p ≡ o → option_map (with_part w p) (option_and_then (after e crossing.None) o) ≡ Some new → WorldOnWay tables new
one_part tables e w new p None g r f read is = cc is
one_part tables e w new p (Some x) g r f read is =
    let m = mapped (with_part w p) (after e crossing.None x) new is in
    let within = slice_get_within w.parts p x read in
    let was = get_or_from_slice_get w.parts p x AbsentV read in
    let now : get_or new.parts p AbsentV ≡ m.0 = ap (λ (v : WorldView). get_or v.parts p AbsentV) (sym m.2) ∙ get_or-set_at w.parts p p m.0 AbsentV refl within in
    let here = side w.shape tables p e crossing.None x m.0 g.routes (subst (PartReady w.shape tables) was (g.routers p)) (turn_left w.shape tables e new p m.0 now f) (subst (PartOnWay w.shape tables p) was (r p)) m.1 in
    subst (WorldOnWay tables) m.2 (λ q. placed (PartOnWay w.shape tables) w.parts p q m.0 within r here)

not_two : {A : Type 0} (o : Option ℕ) (p q : ℕ) → at_part o ≡ Two p q → A
not_two None p q h = cc h
not_two (Some x) p q h = cc h

-- no turn is on two parts
two_left : (n : ShapeNumbers) (tables : List Table) (e : Event) (new : WorldView) (i j : ℕ) (y : PartView) → places n e ≡ Two i j → LeavesFit n tables e new → TurnLeaves n tables e y
two_left n tables (event.Turn who k) new i j y h f = not_two (part_of n who) i j h
two_left n tables (event.Deliver who) new i j y h f = tt
two_left n tables (event.Depart p l) new i j y h f = absurd f
two_left n tables (event.Arrive l p) new i j y h f = absurd f
two_left n tables (event.Route p) new i j y h f = tt
two_left n tables event.HostPut new i j y h f = absurd f
two_left n tables event.HostTake new i j y h f = tt
two_left n tables (event.Report p) new i j y h f = tt
two_left n tables event.Begin new i j y h f = tt
two_left n tables (event.Confirm p) new i j y h f = tt
two_left n tables event.Announce new i j y h f = tt
two_left n tables (event.Release p) new i j y h f = tt
two_left n tables (event.Go p) new i j y h f = tt

two_parts : (tables : List Table) (e : Event) (w new : WorldView) (p q : ℕ) (low high : Option PartView) → IsReady tables w → WorldOnWay tables w → places w.shape e ≡ Two p q → LeavesFit w.shape tables e new → slice_get w.parts p ≡ low → slice_get w.parts q ≡ high → option_map (with_both w p q) (meets_at e low high) ≡ Some new → WorldOnWay tables new
two_parts tables e w new p q None high g r at f read_low read_high is = cc is
two_parts tables e w new p q (Some low) None g r at f read_low read_high is = cc is
two_parts tables e w new p q (Some low) (Some high) g r at f read_low read_high is =
    let m = mapped (with_both w p q) (meets e low high) new is in
    let rows = meeting e low high m.0 m.1 in
    let n : ShapeNumbers = w.shape in
    let within = slice_get_within w.parts p low read_low in
    let below = slice_get_within w.parts q high read_high in
    let size = length-set w.parts p m.0.low in
    let room : q < length (set w.parts p m.0.low) = omega arith in
    let was_low = get_or_from_slice_get w.parts p low AbsentV read_low in
    let was_high = get_or_from_slice_get w.parts q high AbsentV read_high in
    let here = side n tables p e rows.crossing low m.0.low g.routes (subst (PartReady n tables) was_low (g.routers p)) (two_left n tables e new p q m.0.low at f) (subst (PartOnWay n tables p) was_low (r p)) rows.low_row in
    let there = side n tables q e rows.crossing high m.0.high g.routes (subst (PartReady n tables) was_high (g.routers q)) (two_left n tables e new p q m.0.high at f) (subst (PartOnWay n tables q) was_high (r q)) rows.high_row in
    subst (WorldOnWay tables) m.2 (λ k. placed (PartOnWay n tables) (set w.parts p m.0.low) q k m.0.high room (λ i. placed (PartOnWay n tables) w.parts p i m.0.low within r here) there)

at_places : (tables : List Table) (e : Event) (w new : WorldView) (at : Places) → places w.shape e ≡ at → IsReady tables w → WorldOnWay tables w → LeavesFit w.shape tables e new → happened_at e w at ≡ Some new → WorldOnWay tables new
at_places tables e w new Nowhere at g r f is = cc is
at_places tables e w new (One p) at g r f is = one_part tables e w new p (slice_get w.parts p) g r f refl is
at_places tables e w new (Two p q) at g r f is = two_parts tables e w new p q (slice_get w.parts p) (slice_get w.parts q) g r at f refl refl is

-- an event that is on one part, a visit of the detector, or what the host takes keeps all packets on their way
pub events_keep : (tables : List Table) (e : Event) (w new : WorldView) → IsReady tables w → WorldOnWay tables w → LeavesFit w.shape tables e new → happened e w ≡ Some new → WorldOnWay tables new
events_keep tables e w new g r f is = at_places tables e w new (places w.shape e) refl g r f is
