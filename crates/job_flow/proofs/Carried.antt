-- Along each walk each packet on a link is one of the machine, and few letters were dropped on a tile.
use Rattle.std.proofs.Common.{ℕ, suc, ◌≡◌, ◌≤◌, ◌+◌, ◌++◌, Bool, true, false, cond, sym, ap, ◌∙◌, subst, arith, IsTrue, List, [], ◌∷◌, length, get_or, Option, Some, None, option_map, MatchOption}
use Rattle.std.specs.Prelude.{slice_get}
use Rattle.std.specs.List.{AllByRecursion}
use Rattle.std.proofs.lemmas.Bool.{and_from}
use Rattle.std.proofs.lemmas.Option.{get_or_from_slice_get, slice_get_within}
use Rattle.tn_base.specs.declared.event.Event.{Event}
use Rattle.tn_base.specs.declared.event.Event.TheVariants as event
use Rattle.tn_base.specs.declared.message.Dest.TheVariants as dest
use Rattle.tn_base.specs.declared.message.Packet.{Packet}
use Rattle.tn_base.specs.declared.port.Port.{Port}
use Rattle.tn_base.specs.declared.shape.ShapeNumbers.{ShapeNumbers}
use Rattle.tn_base.specs.Address.{tile_threads}
use Rattle.tn_base.specs.Message.{has_packet}
use Rattle.tn_base.specs.Shape.{WithinLimits}
use Rattle.tn_host.specs.declared.script.ScriptItem.{ScriptItem}
use Rattle.tn_host.specs.declared.script.ScriptItem.TheVariants as item
use Rattle.tn_host.specs.Script.{first_item, packet_of}
use Rattle.tn_keys.specs.Tables.{Table}
use Rattle.tn_letters.specs.Law.{IsSendable, StartsSo}
use Rattle.tn_letters.specs.Tiles.{tables_of}
use Rattle.tn_letters.proofs.Calm.{quiet_start}
use Rattle.tn_letters.proofs.Crossings.{put_is}
use Rattle.tn_letters.proofs.GoodParts.{event_good}
use Rattle.tn_letters.proofs.Lift.{Good, GoodPart}
use Rattle.tn_letters.proofs.Starts.{good_start}
use Rattle.tn_link.specs.LinkRows.{front_of, put_in, rest_in, take_from}
use Rattle.tn_link.specs.LinkView.{LinkView}
use Rattle.tn_node.specs.Deed.{Deed}
use Rattle.tn_node.specs.PortRows.{at}
use Rattle.tn_node.specs.SamePacket.{is_packet}
use Rattle.tn_quiet.specs.Law.{IsQuietWorld}
use Rattle.tn_quiet.proofs.Runs.{event_quiet, kept_at}
use Rattle.tn_router.specs.Kept.{FitsWay}
use Rattle.tn_rows.specs.Events.{after, crossing_of, deed_of, detector_row, given_to, happened, host_row, link_row, put_by, router_row, tile_did}
use Rattle.tn_rows.specs.PartView.{PartView, TileV, RouterV, LinkV, HostV, DetectorV, AbsentV}
use Rattle.tn_rows.specs.Places.{Places, Nowhere, One, Two, link_way, places}
use Rattle.tn_rows.specs.Runs.{Walk}
use Rattle.tn_rows.specs.WorldView.{WorldView}
use Rattle.tn_rows.proofs.Meeting.{mapped}
use Rattle.tn_stamp.specs.declared.entry.Crossing.{Crossing}
use Rattle.tn_stamp.specs.declared.entry.Crossing.TheVariants as crossing
use Rattle.tn_tile.specs.declared.state.TileState.{TileState}
use Rattle.tn_tile.specs.Kept.{IsPacket, has_way}
use Rattle.tn_tile.specs.TileView.{TileView, now_by}
use Rattle.tn_tile.proofs.Packed.{few_places}
use Rattle.tn_tile.proofs.Steps.{taken}
use Rattle.polite_flow.proofs.Starting.{each_place}
use Rattle.job_flow.specs.Carried.{Carries, WalksCarry}
use Rattle.job_flow.proofs.Crossed.{CrossesAt, each_row}
use Rattle.job_flow.proofs.Drops.{deed_drops}

-- ---- what a part gives

abbrev IsOurs : ShapeNumbers → Packet → Type 0
IsOurs n k = IsTrue (has_packet n k)

unless_held : (held : Bool) (o : Option Packet) (k : Packet) → cond held None o ≡ Some k → o ≡ Some k
unless_held true o k h = cc h
unless_held false o k h = h

given_fits : (n : ShapeNumbers) (tables : List Table) (p l : ℕ) (x : PartView) (k : Packet) → GoodPart n tables p x → given_to l x ≡ Some k → IsOurs n k
given_fits n tables p l (TileV v) k g h =
    let way : Port = link_way v.plan.shape l in
    let there = unless_held v.now.node.held (at way v.now.node.out) k h in
    let fits = subst (λ (o : Option Packet). MatchOption o (Unit {0}) (λ q. IsPacket v.plan.shape q × IsTrue (has_way way))) there (g.shaped.fits.out way) in
    subst (λ s. IsOurs s k) g.shape fits.0
given_fits n tables p l (RouterV v) k g h =
    let way : Port = link_way v.plan.shape l in
    let there = unless_held v.now.node.held (at way v.now.node.out) k h in
    let fits = subst (λ (o : Option Packet). MatchOption o (Unit {0}) (FitsWay v.plan.shape v.plan.board way)) there (g.shaped.fits.waits way) in
    subst (λ s. IsOurs s k) g.shape fits.0
given_fits n tables p l (LinkV v) k g h = cc h
given_fits n tables p l (HostV s) k g h = cc h
given_fits n tables p l (DetectorV v) k g h = cc h
given_fits n tables p l AbsentV k g h = cc h

item_fits : (n : ShapeNumbers) (number : ℕ) (script : List ScriptItem) (k : Packet) → AllByRecursion (IsSendable n) script → packet_of number (first_item script) ≡ Some k → IsOurs n k
item_fits n number [] k all h = cc h
item_fits n number (item.Send t bytes ∷ xs) k all h =
    let is : record { origin = 0x40000000; number = number; dest = dest.Thread t; bytes = bytes } ≡ k = cc h in
    subst (IsOurs n) is (and_from _ _ all.0.0 all.0.1)
item_fits n number (item.AwaitIdle ∷ xs) k all h = cc h

put_fits : (n : ShapeNumbers) (tables : List Table) (p : ℕ) (x : PartView) (k : Packet) → GoodPart n tables p x → put_by x ≡ Some k → IsOurs n k
put_fits n tables p (TileV v) k g h = cc h
put_fits n tables p (RouterV v) k g h = cc h
put_fits n tables p (LinkV v) k g h = cc h
put_fits n tables p (HostV s) k g h = item_fits n s.sends s.script k g (unless_held s.node.held (packet_of s.sends (first_item s.script)) k h)
put_fits n tables p (DetectorV v) k g h = cc h
put_fits n tables p AbsentV k g h = cc h

-- ---- what crosses to a link

abbrev PacketFits : ShapeNumbers → Crossing → Type 0
PacketFits n crossing.None = Unit {0}
PacketFits n (crossing.Packet k) = IsOurs n k
PacketFits n (crossing.View f) = Unit {0}

abbrev CrossFits : ShapeNumbers → Event → Crossing → Type 0
CrossFits n (event.Turn who m) c = Unit {0}
CrossFits n (event.Deliver who) c = Unit {0}
CrossFits n (event.Depart p l) c = PacketFits n c
CrossFits n (event.Arrive l p) c = Unit {0}
CrossFits n (event.Route p) c = Unit {0}
CrossFits n event.HostPut c = PacketFits n c
CrossFits n event.HostTake c = Unit {0}
CrossFits n (event.Report p) c = Unit {0}
CrossFits n event.Begin c = Unit {0}
CrossFits n (event.Confirm p) c = Unit {0}
CrossFits n event.Announce c = Unit {0}
CrossFits n (event.Release p) c = Unit {0}
CrossFits n (event.Go p) c = Unit {0}

packet_crosses : (n : ShapeNumbers) (o : Option Packet) (c : Crossing) → ((k : Packet) → o ≡ Some k → IsOurs n k) → option_map crossing.Packet o ≡ Some c → PacketFits n c
packet_crosses n o c fits h =
    let m = mapped crossing.Packet o c h in
    subst (PacketFits n) m.2 (fits m.0 m.1)

low_fits : (n : ShapeNumbers) (tables : List Table) (p0 : ℕ) (e : Event) (low high : PartView) (c : Crossing) → GoodPart n tables p0 low → crossing_of e low high ≡ Some c → CrossFits n e c
low_fits n tables p0 (event.Turn who m) low high c g h = tt
low_fits n tables p0 (event.Deliver who) low high c g h = tt
low_fits n tables p0 (event.Depart p l) low high c g h = packet_crosses n (given_to l.0 low) c (λ k. given_fits n tables p0 l.0 low k g) h
low_fits n tables p0 (event.Arrive l p) low high c g h = tt
low_fits n tables p0 (event.Route p) low high c g h = tt
low_fits n tables p0 event.HostPut low high c g h = packet_crosses n (put_by low) c (λ k. put_fits n tables p0 low k g) h
low_fits n tables p0 event.HostTake low high c g h = tt
low_fits n tables p0 (event.Report p) low high c g h = tt
low_fits n tables p0 event.Begin low high c g h = tt
low_fits n tables p0 (event.Confirm p) low high c g h = tt
low_fits n tables p0 event.Announce low high c g h = tt
low_fits n tables p0 (event.Release p) low high c g h = tt
low_fits n tables p0 (event.Go p) low high c g h = tt

nothing_fits : (n : ShapeNumbers) (e : Event) → CrossFits n e crossing.None
nothing_fits n (event.Turn who m) = tt
nothing_fits n (event.Deliver who) = tt
nothing_fits n (event.Depart p l) = tt
nothing_fits n (event.Arrive l p) = tt
nothing_fits n (event.Route p) = tt
nothing_fits n event.HostPut = tt
nothing_fits n event.HostTake = tt
nothing_fits n (event.Report p) = tt
nothing_fits n event.Begin = tt
nothing_fits n (event.Confirm p) = tt
nothing_fits n event.Announce = tt
nothing_fits n (event.Release p) = tt
nothing_fits n (event.Go p) = tt

-- the part of the machine at a place
pub good_at : (w : WorldView) (p : ℕ) (x : PartView) → Good w → slice_get w.parts p ≡ Some x → GoodPart w.shape (tables_of w) p x
good_at w p x good read =
    let within = slice_get_within w.parts p x read in
    let count = good.count in
    subst (GoodPart w.shape (tables_of w) p) (get_or_from_slice_get w.parts p x AbsentV read) (good.each p (omega arith))

crosses_fit : (e : Event) (w : WorldView) (c : Crossing) (spot : Places) → Good w → CrossesAt e w c spot → CrossFits w.shape e c
crosses_fit e w c Nowhere good x = absurd x
crosses_fit e w c (One p) good x = subst (CrossFits w.shape e) (sym x) (nothing_fits w.shape e)
crosses_fit e w c (Two p q) good x = low_fits w.shape (tables_of w) p e x.low x.high c (good_at w p x.low good x.low_is) x.gives

-- ---- links

joined : {X : Type 0} (P : X → Type 0) (xs : List X) (x : X) → AllByRecursion P xs → P x → AllByRecursion P (xs ++ x ∷ [])
joined P [] x all new = (new, tt)
joined P (y ∷ ys) x all new = (all.0, joined P ys x all.1 new)

link_put : (n : ShapeNumbers) (k : Packet) (x y : LinkView) → IsOurs n k → AllByRecursion (IsOurs n) x.packets → put_in k x ≡ Some y → AllByRecursion (IsOurs n) y.packets
link_put n k x y fits all h = subst (AllByRecursion (IsOurs n)) (sym (put_is k x y h)) (joined (IsOurs n) x.packets k all fits)

rest_ours : (n : ShapeNumbers) (capacity : ℕ) (ps : List Packet) (y : LinkView) → AllByRecursion (IsOurs n) ps → rest_in capacity ps ≡ Some y → AllByRecursion (IsOurs n) y.packets
rest_ours n capacity [] y all h = cc h
rest_ours n capacity (p ∷ ps) y all h =
    let is : record { packets = ps; capacity = capacity } ≡ y = cc h in
    subst (λ (z : LinkView). AllByRecursion (IsOurs n) z.packets) is all.1

link_take : (n : ShapeNumbers) (same : Bool) (x y : LinkView) → AllByRecursion (IsOurs n) x.packets → cond same (take_from x) None ≡ Some y → AllByRecursion (IsOurs n) y.packets
link_take n same x y all h = rest_ours n x.capacity x.packets y all (taken same (take_from x) y h).1

link_after : (n : ShapeNumbers) (e : Event) (c : Crossing) (x y : LinkView) → CrossFits n e c → AllByRecursion (IsOurs n) x.packets → link_row e c x ≡ Some y → AllByRecursion (IsOurs n) y.packets
link_after n (event.Turn who m) crossing.None x y f all h = cc h
link_after n (event.Turn who m) (crossing.Packet k) x y f all h = cc h
link_after n (event.Turn who m) (crossing.View k) x y f all h = cc h
link_after n (event.Deliver who) crossing.None x y f all h = cc h
link_after n (event.Deliver who) (crossing.Packet k) x y f all h = cc h
link_after n (event.Deliver who) (crossing.View k) x y f all h = cc h
link_after n (event.Depart p l) crossing.None x y f all h = cc h
link_after n (event.Depart p l) (crossing.Packet k) x y f all h = link_put n k x y f all h
link_after n (event.Depart p l) (crossing.View k) x y f all h = cc h
link_after n (event.Arrive l p) crossing.None x y f all h = cc h
link_after n (event.Arrive l p) (crossing.Packet k) x y f all h = link_take n (is_packet k (front_of x)) x y all h
link_after n (event.Arrive l p) (crossing.View k) x y f all h = cc h
link_after n (event.Route p) crossing.None x y f all h = cc h
link_after n (event.Route p) (crossing.Packet k) x y f all h = cc h
link_after n (event.Route p) (crossing.View k) x y f all h = cc h
link_after n event.HostPut crossing.None x y f all h = cc h
link_after n event.HostPut (crossing.Packet k) x y f all h = link_put n k x y f all h
link_after n event.HostPut (crossing.View k) x y f all h = cc h
link_after n event.HostTake crossing.None x y f all h = cc h
link_after n event.HostTake (crossing.Packet k) x y f all h = link_take n (is_packet k (front_of x)) x y all h
link_after n event.HostTake (crossing.View k) x y f all h = cc h
link_after n (event.Report p) crossing.None x y f all h = cc h
link_after n (event.Report p) (crossing.Packet k) x y f all h = cc h
link_after n (event.Report p) (crossing.View k) x y f all h = cc h
link_after n event.Begin crossing.None x y f all h = cc h
link_after n event.Begin (crossing.Packet k) x y f all h = cc h
link_after n event.Begin (crossing.View k) x y f all h = cc h
link_after n (event.Confirm p) crossing.None x y f all h = cc h
link_after n (event.Confirm p) (crossing.Packet k) x y f all h = cc h
link_after n (event.Confirm p) (crossing.View k) x y f all h = cc h
link_after n event.Announce crossing.None x y f all h = cc h
link_after n event.Announce (crossing.Packet k) x y f all h = cc h
link_after n event.Announce (crossing.View k) x y f all h = cc h
link_after n (event.Release p) crossing.None x y f all h = cc h
link_after n (event.Release p) (crossing.Packet k) x y f all h = cc h
link_after n (event.Release p) (crossing.View k) x y f all h = cc h
link_after n (event.Go p) crossing.None x y f all h = cc h
link_after n (event.Go p) (crossing.Packet k) x y f all h = cc h
link_after n (event.Go p) (crossing.View k) x y f all h = cc h

-- ---- each part

stays : (n : ShapeNumbers) (events : ℕ) (x : PartView) → Carries n events x → Carries n (suc events) x
stays n events (TileV v) h = omega arith
stays n events (RouterV v) h = tt
stays n events (LinkV v) h = h
stays n events (HostV s) h = tt
stays n events (DetectorV v) h = tt
stays n events AbsentV h = tt

tile_after : (n : ShapeNumbers) (tables : List Table) (p events : ℕ) (v : TileView) (o : Option Deed) (y : PartView) → WithinLimits n → GoodPart n tables p (TileV v) → Carries n events (TileV v) → option_map TileV (now_by v (tile_did v.plan v.now o)) ≡ Some y → Carries n (suc events) y
tile_after n tables p events v None y limits g h row = cc row
tile_after n tables p events v (Some d) y limits g h row =
    let a = mapped TileV (now_by v (tile_did v.plan v.now (Some d))) y row in
    let b = mapped (λ (t : TileState). record v { now = t }) (tile_did v.plan v.now (Some d)) a.0 a.1 in
    let count = g.shaped.fits.threads.count in
    let few : tile_threads v.plan.shape ≤ 64 = subst (λ s. tile_threads s ≤ 64) (sym g.shape) (few_places n limits) in
    let most = deed_drops v.plan d v.now b.0 g.kept (omega (arith, count, few)) b.1 in
    subst (Carries n (suc events)) (ap TileV b.2 ∙ a.2) (omega (arith, most, h))

part_after : (n : ShapeNumbers) (tables : List Table) (p events : ℕ) (e : Event) (c : Crossing) (x y : PartView) → WithinLimits n → GoodPart n tables p x → CrossFits n e c → Carries n events x → after e c x ≡ Some y → Carries n (suc events) y
part_after n tables p events e c (TileV v) y limits g f h row = tile_after n tables p events v (deed_of v.plan.shape e c) y limits g h row
part_after n tables p events e c (RouterV v) y limits g f h row = let m = mapped RouterV (router_row e c v) y row in subst (Carries n (suc events)) m.2 tt
part_after n tables p events e c (LinkV v) y limits g f h row = let m = mapped LinkV (link_row e c v) y row in subst (Carries n (suc events)) m.2 (link_after n e c v m.0 f h m.1)
part_after n tables p events e c (HostV s) y limits g f h row = let m = mapped HostV (host_row e c s) y row in subst (Carries n (suc events)) m.2 tt
part_after n tables p events e c (DetectorV v) y limits g f h row = let m = mapped DetectorV (detector_row e c v) y row in subst (Carries n (suc events)) m.2 tt
part_after n tables p events e c AbsentV y limits g f h row = cc row

-- ---- walks

abbrev AllCarry : ℕ → WorldView → Type 0
AllCarry events w = (p : ℕ) → Carries w.shape events (get_or w.parts p AbsentV)

event_carries : (e : Event) (events : ℕ) (w new : WorldView) → Good w → IsQuietWorld w → AllCarry events w → happened e w ≡ Some new → AllCarry (suc events) new
event_carries e events w new good quiet all h =
    let n : ShapeNumbers = w.shape in
    let same = (kept_at e w new (places n e) quiet.world h).1 in
    let each = each_row (λ i a b. Carries n events a → Carries n (suc events) b) (λ i x. stays n events x) e w new (λ c crosses i a b read row now held. part_after n (tables_of w) i events e c a b good.limits (good_at w i a good read) (crosses_fit e w c (places n e) good crosses) held row) h in
    λ p. subst (λ s. Carries s (suc events) (get_or new.parts p AbsentV)) (sym same) (each p (all p))

walk_carries : (es : List Event) (events : ℕ) (w end : WorldView) → Good w → IsQuietWorld w → AllCarry events w → Walk w es end → AllCarry (events + length es) end
walk_carries [] events w end good quiet all walk =
    let none : events ≡ events + 0 = omega arith in
    subst (λ i. AllCarry i end) none (subst (AllCarry events) walk all)
walk_carries (e ∷ es) events w end good quiet all walk =
    let total : suc events + length es ≡ events + length (e ∷ es) = omega arith in
    subst (λ i. AllCarry i end) total (walk_carries es (suc events) walk.0 end (event_good e w walk.0 good quiet walk.1) (event_quiet e w walk.0 good.limits quiet walk.1) (event_carries e events w walk.0 good quiet all walk.1) walk.2)

starts_so : (n : ShapeNumbers) (x : PartView) → StartsSo n x → Carries n 0 x
starts_so n (TileV v) s = let none : v.now.dropped ≡ 0 = ap (λ (y : TileView). y.now.dropped) s.3 in omega arith
starts_so n (RouterV v) s = tt
starts_so n (LinkV v) s = subst (λ (y : LinkView). AllByRecursion (IsOurs n) y.packets) (sym s) tt
starts_so n (HostV s) h = tt
starts_so n (DetectorV v) s = tt
starts_so n AbsentV s = tt

pub walks_carry : WalksCarry
walks_carry start end history p begins walk =
    let good = good_start start begins in
    let first = each_place (λ i x. Carries start.shape 0 x) start.parts (λ i. tt) (λ i h. starts_so start.shape (get_or start.parts i AbsentV) (begins.parts i h)) in
    let total : 0 + length history ≡ length history = omega arith in
    subst (λ i. Carries end.shape i (get_or end.parts p AbsentV)) total (walk_carries history 0 start end good (quiet_start start begins good) first walk p)
