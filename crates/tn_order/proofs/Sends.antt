-- The sends of each event go to destinations of the machine, with rising numbers.
use Rattle.std.proofs.Common.{ℕ, ◌≡◌, ◌+◌, ◌-◌, ◌&&◌, Bool, true, false, refl, sym, ◌∙◌, ap, subst, inl, inr, arith, List, [], ◌∷◌, map, slice_get, IsTrue, Option, Some, None, unwrap_or}
use Rattle.std.specs.Prelude.{nat_le, nat_lt, option_and_then}
use Rattle.std.specs.List.{AllByRecursion, filter, flat_map}
use Rattle.tn_base.specs.declared.event.Event.{Event}
use Rattle.tn_base.specs.declared.event.Event.TheVariants as event
use Rattle.tn_base.specs.declared.ids.ThreadId.{ThreadId}
use Rattle.tn_base.specs.declared.message.Dest.{Dest}
use Rattle.tn_base.specs.declared.message.Dest.TheVariants as dest
use Rattle.tn_base.specs.declared.message.Letter.{Letter}
use Rattle.tn_base.specs.declared.message.Packet.{Packet}
use Rattle.tn_base.specs.declared.port.Port.{Port}
use Rattle.tn_base.specs.declared.port.Port.TheVariants as port
use Rattle.tn_base.specs.declared.shape.ShapeNumbers.{ShapeNumbers}
use Rattle.tn_base.specs.Address.{has_thread, place_in_tile}
use Rattle.tn_base.specs.Parts.{kind_of, part_count, visited}
use Rattle.tn_base.specs.Ports.{tile_port}
use Rattle.tn_detect.specs.Notes.{value_of}
use Rattle.tn_host.specs.declared.script.ScriptItem.{ScriptItem}
use Rattle.tn_host.specs.declared.script.ScriptItem.TheVariants as item
use Rattle.tn_host.specs.Rows.{offered as host_offers}
use Rattle.tn_host.specs.Script.{first_item}
use Rattle.tn_keys.specs.Reach.{Reach}
use Rattle.tn_quiet.specs.Law.{IsQuietWorld}
use Rattle.tn_quiet.proofs.Machines.{at_two, by_thread}
use Rattle.tn_rows.proofs.HostLinks.{link_from_host}
use Rattle.tn_rows.proofs.Meeting.{mapped}
use Rattle.tn_rows.specs.Events.{after, carried, crossing_of, happened, meets, with_part}
use Rattle.tn_rows.specs.PartView.{PartView, TileV, RouterV, LinkV, HostV, DetectorV, AbsentV}
use Rattle.tn_rows.specs.Places.{at_part, detector_part, is_router, leads_from, leads_to, part_of, two_if}
use Rattle.tn_rows.specs.WorldView.{WorldView}
use Rattle.tn_stamp.specs.declared.entry.Crossing.TheVariants as crossing
use Rattle.tn_tile.specs.Rows.{can_count, is_here, turn_row}
use Rattle.tn_tile.specs.Step.{pending_at, steps_of}
use Rattle.tn_tile.specs.TileView.{TileView, now_by, with_now}
use Rattle.tn_tile.proofs.Steps.{taken}
use Rattle.tn_rows.specs.Visited.{released_part}
use Rattle.tn_letters.specs.declared.steps.BagStep.{BagStep}
use Rattle.tn_letters.specs.declared.steps.BagStep.TheVariants as bag
use Rattle.tn_letters.specs.Law.{IsSendable}
use Rattle.tn_letters.specs.Letters.{host_address, letter, packet_letters}
use Rattle.tn_letters.specs.Machine.{BagRun}
use Rattle.tn_letters.specs.Settled.{detector_on, settled}
use Rattle.tn_letters.specs.State.{BagState, Program}
use Rattle.tn_letters.specs.Steps.{arrival_steps, delivery_steps, dropped_at, event_steps, is_for_dead, meeting_steps, part_steps, put_steps, send_steps, steps_at, take_steps}
use Rattle.tn_letters.specs.Tiles.{host_in, host_on, program_of, reach_of, tile_for}
use Rattle.tn_letters.proofs.GoodParts.{event_good}
use Rattle.tn_letters.proofs.Lift.{Good, OnPart, part_is, part_on, stands_on, tile_is}
use Rattle.tn_letters.proofs.Meaning.{event_arrives}
use Rattle.tn_letters.proofs.Settling.{settled_stays}
use Rattle.tn_letters.proofs.Simulate.{Place}
use Rattle.tn_letters.proofs.Walks.{first_is, on_read}
use Rattle.tn_order.specs.Acts.{Act, Sent}
use Rattle.tn_order.specs.History.{event_acts, step_ends, turn_acts}
use Rattle.tn_order.proofs.Counted.{AllEnough, event_enough, few_steps, settled_sends, settled_steps}
use Rattle.tn_order.proofs.Crossing.{crossed}
use Rattle.tn_order.proofs.Each.{nothing_route, nothing_two}
use Rattle.tn_order.proofs.Moving.{here_is, stands_link}
use Rattle.tn_order.proofs.OtherEvents.{first_of_four, no_acts, not_held, offers_by}
use Rattle.tn_order.proofs.Rising.{host_no_thread, run_host, run_sends}
use Rattle.tn_order.proofs.Sending.{Below, Grew, NoSend, Stepping, below_grew, none_among, none_good, turn_good}

-- ---- what an event leaves counted

host_stays : (value : ℕ) (x : PartView) → (host_in (released_part value x)).sends ≡ (host_in x).sends
host_stays value (TileV v) = refl
host_stays value (RouterV v) = refl
host_stays value (LinkV v) = refl
host_stays value (HostV h) = refl
host_stays value (DetectorV v) = refl
host_stays value AbsentV = refl

settled_host : (w : WorldView) → (host_on (settled w)).sends ≡ (host_on w).sends
settled_host w = settled_stays (λ x. (host_in x).sends) (detector_on w).phase (value_of (detector_on w).answer) w.parts 0 host_stays

pub event_grew : (e : Event) (w new : WorldView) → Good w → IsQuietWorld w → AllEnough w → happened e w ≡ Some new → Grew w new
event_grew e w new g q enough h =
    let r = event_arrives (λ b. []) [] 0 e w new g q h in
    let shape : new.shape ≡ w.shape = ap (λ (m : Program). m.shape) r.program in
    let good = event_good e w new g q h in
    record {
      shape = shape;
      threads = λ a there.
          let low = run_sends (program_of w) (event_steps e w) _ _ a there r.run
          (λ b here. let i = settled_sends w b in let j = settled_steps w b in let k = enough b here in omega arith)
          (λ b here. let j = settled_steps new b in let f = few_steps new b good (subst (λ n. IsTrue (has_thread n b)) (sym shape) here) in let m = good.limits.fuel in omega arith) in
          let i = settled_sends w a in
          let j = settled_sends new a in
          omega arith;
      host = let low = run_host (program_of w) (event_steps e w) _ _ r.run in let i = settled_host w in let j = settled_host new in omega arith;
    }

-- an event that sends nothing
quiet_event : (past acts : List Act) (w new : WorldView) → AllByRecursion NoSend acts → Grew w new → AllEnough new → Below past w → Stepping past w new acts
quiet_event past acts w new quiet grew enough below = record { good = none_good w.shape acts past quiet; below = λ a k d i. below_grew past w new grew below a k d (none_among acts past a k d quiet i); enough = enough }

-- ---- what events drop and hand

drops_quiet : (ls : List Letter) → AllByRecursion NoSend (flat_map step_ends (map bag.Discard ls))
drops_quiet [] = tt
drops_quiet (l ∷ ls) = (tt, drops_quiet ls)

way_quiet : (way : Port) (reach : Reach) (k : Packet) (v : TileView) → AllByRecursion NoSend (flat_map step_ends (dropped_at way reach k v))
way_quiet port.Here reach k v = drops_quiet (filter (is_for_dead v) (packet_letters v.plan.shape reach k))
way_quiet port.East reach k v = tt
way_quiet port.West reach k v = tt
way_quiet port.South reach k v = tt
way_quiet port.North reach k v = tt
way_quiet port.Up reach k v = tt
way_quiet port.Down reach k v = tt
way_quiet port.HostPort reach k v = tt

delivery_quiet : (reach : Reach) (o : Option Packet) (v : TileView) → AllByRecursion NoSend (flat_map step_ends (delivery_steps reach o v))
delivery_quiet reach None v = tt
delivery_quiet reach (Some k) v = way_quiet (tile_port v.plan.tile k.dest) reach k v

part_quiet : (reach : Reach) (a : ThreadId) (o : Option PartView) → AllByRecursion NoSend (flat_map step_ends (part_steps reach (event.Deliver a) o))
part_quiet reach a None = tt
part_quiet reach a (Some (TileV v)) = delivery_quiet reach (pending_at v.now (place_in_tile v.plan.shape a.0)) v
part_quiet reach a (Some (RouterV v)) = tt
part_quiet reach a (Some (LinkV v)) = tt
part_quiet reach a (Some (HostV h)) = tt
part_quiet reach a (Some (DetectorV v)) = tt
part_quiet reach a (Some AbsentV) = tt

deliver_quiet : (w : WorldView) (a : ThreadId) (o : Option ℕ) → AllByRecursion NoSend (flat_map step_ends (steps_at (event.Deliver a) w (at_part o)))
deliver_quiet w a None = tt
deliver_quiet w a (Some p) = part_quiet (reach_of w) a (slice_get w.parts p)

arrival_quiet : (reach : Reach) (k : Option Packet) (o : Option PartView) → AllByRecursion NoSend (flat_map step_ends (arrival_steps reach k o))
arrival_quiet reach k None = tt
arrival_quiet reach k (Some (TileV v)) = delivery_quiet reach k v
arrival_quiet reach k (Some (RouterV v)) = tt
arrival_quiet reach k (Some (LinkV v)) = tt
arrival_quiet reach k (Some (HostV h)) = tt
arrival_quiet reach k (Some (DetectorV v)) = tt
arrival_quiet reach k (Some AbsentV) = tt

take_quiet : (o : Option Packet) → AllByRecursion NoSend (flat_map step_ends (take_steps o))
take_quiet None = tt
take_quiet (Some k) = (tt, tt)

arrive_quiet : (w : WorldView) (e : Event) (b : Bool) (p q : ℕ) → ((low high : Option PartView) → AllByRecursion NoSend (flat_map step_ends (meeting_steps (reach_of w) e low high))) → AllByRecursion NoSend (flat_map step_ends (steps_at e w (two_if b p q)))
arrive_quiet w e true p q h = h (slice_get w.parts p) (slice_get w.parts q)
arrive_quiet w e false p q h = tt

from_none : (acts : List Act) → acts ≡ [] → AllByRecursion NoSend acts
from_none acts e = subst (AllByRecursion NoSend) (sym e) tt

detector_quiet : (w : WorldView) (e : Event) (o : Option PartView) → ((o : Option PartView) → flat_map step_ends (part_steps (reach_of w) e o) ≡ []) → AllByRecursion NoSend (flat_map step_ends (part_steps (reach_of w) e o))
detector_quiet w e o h = from_none _ (h o)

begin_none : (reach : Reach) (o : Option PartView) → flat_map step_ends (part_steps reach event.Begin o) ≡ []
begin_none reach None = refl
begin_none reach (Some (TileV v)) = refl
begin_none reach (Some (RouterV v)) = refl
begin_none reach (Some (LinkV v)) = refl
begin_none reach (Some (HostV h)) = refl
begin_none reach (Some (DetectorV v)) = refl
begin_none reach (Some AbsentV) = refl

announce_none : (reach : Reach) (o : Option PartView) → flat_map step_ends (part_steps reach event.Announce o) ≡ []
announce_none reach None = refl
announce_none reach (Some (TileV v)) = refl
announce_none reach (Some (RouterV v)) = refl
announce_none reach (Some (LinkV v)) = refl
announce_none reach (Some (HostV h)) = refl
announce_none reach (Some (DetectorV v)) = refl
announce_none reach (Some AbsentV) = refl

-- ---- the host sends

one_of : (m : Program) (l : Letter) (s end : BagState) → BagRun m s (bag.HostSend l ∷ []) end → end.host_sends ≡ s.host_sends + 1
one_of m l s end run =
    let a = run.2.host_sends in
    let b = ap (λ (r : BagState). r.host_sends) run.3.4 in
    let c = run.4.host_sends in
    omega arith

one_send : (m : Program) (l : Letter) (steps : List BagStep) (s end : BagState) → steps ≡ bag.HostSend l ∷ [] → BagRun m s steps end → end.host_sends ≡ s.host_sends + 1
one_send m l steps s end e run = one_of m l s end (subst (λ xs. BagRun m s xs end) e run)

first_sendable : (n : ShapeNumbers) (script : List ScriptItem) (t : ThreadId) (bytes : List ℕ) → AllByRecursion (IsSendable n) script → first_item script ≡ Some (item.Send t bytes) → IsSendable n (item.Send t bytes)
first_sendable n [] t bytes all e = cc e
first_sendable n (x ∷ xs) t bytes all e = subst (IsSendable n) (ap (λ (o : Option ScriptItem). unwrap_or o x) e) all.0

same_from : (a b k l : ℕ) (d e : Dest) → Sent a k d ≡ Sent b l e → (a ≡ b) × (k ≡ l)
same_from a b k l d e h = (cc h, cc h)

put_good : (past : List Act) (w new : WorldView) → Good w → IsQuietWorld w → AllEnough w → happened event.HostPut w ≡ Some new → Below past w → Stepping past w new (event_acts event.HostPut w)
put_good past w new good quiet enough h below =
    let q : ℕ = part_count w.shape - 2 in
    let a = at_two event.HostPut w new 0 q h in
    let on = on_read w 0 a.low good a.low_was in
    let off = on_read w q a.high good a.high_was in
    let host = first_is a.low (stands_on w 0 a.low good on) in
    let x = stands_link (kind_of w.shape q) _ _ a.high (link_from_host w.shape) (stands_on w q a.high good off) in
    let row : meets event.HostPut (HostV host.0) (LinkV x.0) ≡ Some a.met = subst (λ y. meets event.HostPut (HostV host.0) y ≡ Some a.met) x.1 (subst (λ y. meets event.HostPut y a.high ≡ Some a.met) host.1 a.row) in
    let c = crossed event.HostPut (HostV host.0) (LinkV x.0) (crossing_of event.HostPut (HostV host.0) (LinkV x.0)) a.met row in
    let k = mapped crossing.Packet (host_offers host.0) c.0 c.1 in
    let o = offers_by host.0 k.0 (first_item host.0.script) refl (not_held host.0.node.held _ k.0 k.1) in
    let act : Act = Sent host_address host.0.sends (dest.Thread o.t) in
    let steps : event_steps event.HostPut w ≡ bag.HostSend (letter host_address host.0.sends o.t.0 o.bytes) ∷ [] = ap put_steps (a.low_was ∙ ap Some host.1) ∙ ap (send_steps host.0.sends) o.next in
    let acts : event_acts event.HostPut w ≡ act ∷ [] = ap (flat_map step_ends) steps in
    let on_host : OnPart w 0 (HostV host.0) = subst (OnPart w 0) host.1 on in
    let count : (host_on w).sends ≡ host.0.sends = ap (λ y. (host_in y).sends) on_host.is in
    let r = event_arrives (λ b. []) [] 0 event.HostPut w new good quiet h in
    let one : (host_on (settled new)).sends ≡ (host_on (settled w)).sends + 1 = one_send (program_of w) (letter host_address host.0.sends o.t.0 o.bytes) (event_steps event.HostPut w) _ _ steps r.run in
    let i = settled_host w in
    let j = settled_host new in
    let next : (host_on new).sends ≡ host.0.sends + 1 = omega arith in
    let grew = event_grew event.HostPut w new good quiet enough h in
    let sendable = first_sendable w.shape host.0.script o.t o.bytes (part_on w 0 (HostV host.0) good on_host) o.next in
    subst (Stepping past w new) (sym acts) (record {
      good = (
        (
          sendable.0,
          λ m d i. elim (below host_address m d i) [
            | inl e ↦ (let l = e.1 in omega arith)
            | inr e ↦ host_no_thread w.shape host_address e.0 refl
          ],
        ),
        tt,
      );
      below = λ b m d i. elim i [
        | inr j ↦ below_grew past w new grew below b m d j
        | inl e ↦ (let same = same_from b host_address m host.0.sends d (dest.Thread o.t) e in let num = same.1 in inl (same.0, omega arith))
      ];
      enough = event_enough event.HostPut w new good quiet h enough;
    })

-- ---- a turn

turns_good : (past : List Act) (w : WorldView) (p : ℕ) (part after_it : PartView) (t : ThreadId) (n : ℕ) → Good w → AllEnough w → OnPart w p part → after (event.Turn t n) crossing.None part ≡ Some after_it → Below past w → Stepping past w (with_part w p after_it) (event_acts (event.Turn t n) w)
turns_good past w p (TileV v) after_it t n good enough on row below =
    let x = mapped TileV (now_by v (turn_row v.plan t.0 n v.now)) after_it row in
    let y = mapped (with_now v) (turn_row v.plan t.0 n v.now) x.0 x.1 in
    let k : ℕ = place_in_tile v.plan.shape t.0 in
    let tests = taken (is_here v.plan t.0 && nat_le 1 n && nat_le n v.plan.shape.turn && can_count v.now) (steps_of v.plan k n v.now) y.0 y.1 in
    let c : Place w p v t.0 k = here_is w p t.0 v good on (first_of_four (is_here v.plan t.0) _ _ _ tests.0) in
    let acts : event_acts (event.Turn t n) w ≡ turn_acts t.0 k n v = ap (λ i. turn_acts t.0 i n (tile_for w t.0)) (c.stands.place) ∙ ap (turn_acts t.0 k n) (tile_is w p v t.0 on (part_is w p t.0 k v good on c.stands)) in
    subst (λ (z : PartView). Stepping past w (with_part w p z) (event_acts (event.Turn t n) w)) (ap TileV y.2 ∙ x.2)
    (subst (Stepping past w (with_part w p (TileV (with_now v y.0)))) (sym acts) (turn_good n past w p t.0 k v y.0 c tests.1 enough below))
turns_good past w p (RouterV v) after_it t n good enough on row below = cc row
turns_good past w p (LinkV y) after_it t n good enough on row below = cc row
turns_good past w p (HostV h) after_it t n good enough on row below = cc row
turns_good past w p (DetectorV v) after_it t n good enough on row below = cc row
turns_good past w p AbsentV after_it t n good enough on row below = cc row

-- ---- each event

pub event_sends : (e : Event) (past : List Act) (w new : WorldView) → Good w → IsQuietWorld w → AllEnough w → happened e w ≡ Some new → Below past w → Stepping past w new (event_acts e w)
event_sends (event.Turn t n) past w new good quiet enough h below =
    let x = by_thread (event.Turn t n) w new (part_of w.shape t) h in
    subst (λ (u : WorldView). Stepping past w u (event_acts (event.Turn t n) w)) (sym x.2.is) (turns_good past w x.0 x.2.before x.2.behind t n good enough (on_read w x.0 x.2.before good x.2.was) x.2.row below)
event_sends event.HostPut past w new good quiet enough h below = put_good past w new good quiet enough h below
event_sends (event.Deliver a) past w new good quiet enough h below = quiet_event past _ w new (deliver_quiet w a (part_of w.shape a)) (event_grew (event.Deliver a) w new good quiet enough h) (event_enough (event.Deliver a) w new good quiet h enough) below
event_sends (event.Depart p l) past w new good quiet enough h below =
    quiet_event past _ w new (from_none _ (nothing_two (event.Depart p l) w (leads_from p.0 (kind_of w.shape l.0)) p.0 l.0 (λ low high. refl))) (event_grew (event.Depart p l) w new good quiet enough h) (event_enough (event.Depart p l) w new good quiet h enough) below
event_sends (event.Arrive l p) past w new good quiet enough h below =
    quiet_event past _ w new (arrive_quiet w (event.Arrive l p) (leads_to p.0 (kind_of w.shape l.0)) p.0 l.0 (λ low high. arrival_quiet (reach_of w) (option_and_then carried high) low)) (event_grew (event.Arrive l p) w new good quiet enough h) (event_enough (event.Arrive l p) w new good quiet h enough) below
event_sends (event.Route p) past w new good quiet enough h below =
    quiet_event past _ w new (from_none _ (nothing_route p w (is_router (kind_of w.shape p.0)))) (event_grew (event.Route p) w new good quiet enough h) (event_enough (event.Route p) w new good quiet h enough) below
event_sends event.HostTake past w new good quiet enough h below =
    quiet_event past _ w new (take_quiet (option_and_then carried (slice_get w.parts (part_count w.shape - 3)))) (event_grew event.HostTake w new good quiet enough h) (event_enough event.HostTake w new good quiet h enough) below
event_sends (event.Report p) past w new good quiet enough h below =
    quiet_event past _ w new (from_none _ (no_acts (event.Report p) w (nat_lt p.0 (visited w.shape)) p.0 (λ low high. refl))) (event_grew (event.Report p) w new good quiet enough h) (event_enough (event.Report p) w new good quiet h enough) below
event_sends event.Begin past w new good quiet enough h below =
    quiet_event past _ w new (from_none _ (begin_none (reach_of w) (slice_get w.parts (detector_part w.shape)))) (event_grew event.Begin w new good quiet enough h) (event_enough event.Begin w new good quiet h enough) below
event_sends (event.Confirm p) past w new good quiet enough h below =
    quiet_event past _ w new (from_none _ (no_acts (event.Confirm p) w (nat_lt p.0 (visited w.shape)) p.0 (λ low high. refl))) (event_grew (event.Confirm p) w new good quiet enough h) (event_enough (event.Confirm p) w new good quiet h enough) below
event_sends event.Announce past w new good quiet enough h below =
    quiet_event past _ w new (from_none _ (announce_none (reach_of w) (slice_get w.parts (detector_part w.shape)))) (event_grew event.Announce w new good quiet enough h) (event_enough event.Announce w new good quiet h enough) below
event_sends (event.Release p) past w new good quiet enough h below =
    quiet_event past _ w new (from_none _ (no_acts (event.Release p) w (nat_lt p.0 (visited w.shape)) p.0 (λ low high. refl))) (event_grew (event.Release p) w new good quiet enough h) (event_enough (event.Release p) w new good quiet h enough) below
event_sends (event.Go p) past w new good quiet enough h below =
    quiet_event past _ w new (from_none _ (no_acts (event.Go p) w (nat_lt p.0 (visited w.shape)) p.0 (λ low high. refl))) (event_grew (event.Go p) w new good quiet enough h) (event_enough (event.Go p) w new good quiet h enough) below
