-- Over each history of a machine from its start, letters without a key come in turn.
use Rattle.std.proofs.Common.{ℕ, zero, suc, inl, inr, arith, ◌≤◌, get_or, length, replicate, ◌≡◌, ◌-◌, ◌&&◌, refl, sym, ◌∙◌, ap, subst, cond, List, [], ◌∷◌, ◌++◌, map, slice_get, Option, Some, None, option_map, unwrap_or}
use Rattle.std.specs.Prelude.{nat_le, nat_lt, option_and_then}
use Rattle.std.specs.List.{flat_map}
use Rattle.tn_base.specs.declared.event.Event.{Event}
use Rattle.tn_base.specs.declared.event.Event.TheVariants as event
use Rattle.tn_base.specs.declared.ids.ThreadId.{ThreadId}
use Rattle.tn_base.specs.declared.message.Dest.{Dest}
use Rattle.tn_base.specs.declared.message.Dest.TheVariants as dest
use Rattle.tn_base.specs.declared.part.Kind.{Kind}
use Rattle.tn_base.specs.declared.shape.ShapeNumbers.{ShapeNumbers}
use Rattle.tn_base.specs.Address.{place_in_tile}
use Rattle.tn_base.specs.Parts.{kind_of, part_count, visited}
use Rattle.tn_link.specs.LinkRows.{front_of, take_from}
use Rattle.tn_node.specs.SamePacket.{is_packet}
use Rattle.tn_quiet.specs.Law.{IsQuietWorld}
use Rattle.tn_quiet.proofs.Machines.{at_two, by_thread}
use Rattle.tn_quiet.proofs.Runs.{event_quiet}
use Rattle.tn_rows.proofs.HostLinks.{link_to_host}
use Rattle.tn_rows.proofs.Meeting.{mapped}
use Rattle.tn_rows.specs.Events.{after, carried, crossing_of, happened, meets}
use Rattle.tn_rows.specs.PartView.{PartView, TileV, RouterV, LinkV, HostV, DetectorV, AbsentV}
use Rattle.tn_rows.specs.Places.{detector_part, is_router, leads_from, leads_to, part_of}
use Rattle.tn_rows.specs.Runs.{Walk}
use Rattle.tn_rows.specs.WorldView.{WorldView}
use Rattle.tn_stamp.specs.declared.entry.Crossing.TheVariants as crossing
use Rattle.tn_tile.specs.Rows.{can_count, is_here, turn_row}
use Rattle.tn_tile.specs.Step.{steps_of}
use Rattle.tn_tile.specs.TileView.{now_by, with_now}
use Rattle.tn_tile.proofs.Steps.{taken}
use Rattle.tn_letters.specs.Letters.{host_address}
use Rattle.tn_letters.specs.Law.{IsStart}
use Rattle.tn_letters.specs.Steps.{take_steps}
use Rattle.tn_letters.specs.Tiles.{reach_of, tile_for}
use Rattle.tn_letters.proofs.Calm.{quiet_start}
use Rattle.tn_letters.proofs.Crossings.{take_is}
use Rattle.tn_letters.proofs.GoodParts.{event_good}
use Rattle.tn_letters.proofs.Lift.{Good, OnPart, part_is, stands_on, tile_is}
use Rattle.tn_letters.proofs.Simulate.{Place}
use Rattle.tn_letters.proofs.Starts.{good_start}
use Rattle.tn_letters.proofs.Walks.{first_is, on_read}
use Rattle.tn_order.specs.Acts.{Act, Handed, InOrder}
use Rattle.tn_order.specs.History.{behind, event_acts, gone_of, history_acts, receiver_of, sent_of, step_ends, turn_acts}
use Rattle.tn_order.specs.Kept.{Kept}
use Rattle.tn_order.specs.Moving.{IsReceiver}
use Rattle.tn_order.specs.Spots.{Crosses, NextBehind, Spot, item_of, standing_at, way_of}
use Rattle.tn_order.proofs.Acting.{behind_join}
use Rattle.tn_order.proofs.Choosing.{Tidy, acts_fit, chosen, order_join, own_chosen, tidy_good}
use Rattle.tn_order.proofs.Counted.{AllEnough, event_enough, start_enough}
use Rattle.tn_order.proofs.Crossing.{crossed}
use Rattle.tn_order.proofs.Each.{event_keeps, nothing_route, nothing_two}
use Rattle.tn_order.proofs.Moving.{here_is, stands_link}
use Rattle.tn_order.proofs.OtherEvents.{first_of_four, no_acts}
use Rattle.tn_order.proofs.Sending.{AreGood, Below, good_join}
use Rattle.tn_order.proofs.Sends.{event_grew, event_sends}
use Rattle.tn_order.proofs.Turns.{AllSit, announce_none, arrival_unhanded, arrive_unhanded, begin_none, deliver_unhanded, good_first, good_rest, in_turn, none_unhanded, puts_unhanded, sub_of, turn_order, unhanded_order}
use Rattle.tn_order.proofs.Views.{was_part}
use Rattle.std.proofs.lemmas.Bool.{cases_lt}
use Rattle.tn_base.specs.declared.ids.Board.{Board}
use Rattle.tn_base.specs.declared.message.Packet.{Packet}
use Rattle.tn_base.specs.declared.port.Port.{Port}
use Rattle.tn_base.specs.declared.port.Port.TheVariants as port
use Rattle.tn_base.specs.Address.{tile_threads}
use Rattle.tn_keys.specs.Tables.{Table}
use Rattle.tn_node.specs.PortRows.{at, no_values}
use Rattle.tn_router.specs.Kept.{fresh_router}
use Rattle.tn_thread.specs.declared.thread.Thread.{Thread}
use Rattle.tn_tile.specs.Kept.{fresh_tile}
use Rattle.tn_letters.specs.Law.{StartsSo}
use Rattle.tn_order.specs.Acts.{NumbersRise}
use Rattle.tn_order.specs.History.{EveryHistoryIsInOrder}
use Rattle.tn_order.specs.Kept.{AllFor, world_of}
use Rattle.tn_order.specs.Spots.{Pending, Queue, Waits, Works, items_of, numbers, packet_in, queue_items, spot_part, stands_in}
use Rattle.tn_order.proofs.Choosing.{good_rises}
use Rattle.tn_order.proofs.Keeps.{starts}
use Rattle.tn_order.proofs.Stamps.{stamps}

-- ---- a turn

turns_order : (past rest all : List Act) (w : WorldView) (p : ℕ) (part after_it : PartView) (t : ThreadId) (n : ℕ) → Good w → OnPart w p part → after (event.Turn t n) crossing.None part ≡ Some after_it → Tidy all → all ≡ behind rest (behind (event_acts (event.Turn t n) w) past) → AreGood w.shape past (event_acts (event.Turn t n) w) → AllSit all past w w → InOrder past (event_acts (event.Turn t n) w)
turns_order past rest all w p (TileV v) after_it t n good on row tidy whole are sit =
    let x = mapped TileV (now_by v (turn_row v.plan t.0 n v.now)) after_it row in
    let y = mapped (with_now v) (turn_row v.plan t.0 n v.now) x.0 x.1 in
    let k : ℕ = place_in_tile v.plan.shape t.0 in
    let tests = taken (is_here v.plan t.0 && nat_le 1 n && nat_le n v.plan.shape.turn && can_count v.now) (steps_of v.plan k n v.now) y.0 y.1 in
    let c : Place w p v t.0 k = here_is w p t.0 v good on (first_of_four (is_here v.plan t.0) _ _ _ tests.0) in
    let acts : event_acts (event.Turn t n) w ≡ turn_acts t.0 k n v = ap (λ i. turn_acts t.0 i n (tile_for w t.0)) (c.stands.place) ∙ ap (turn_acts t.0 k n) (tile_is w p v t.0 on (part_is w p t.0 k v good on c.stands)) in
    subst (InOrder past) (sym acts) (turn_order n past rest all w p t.0 k v y.0 c tests.1 tidy (whole ∙ ap (λ l. behind rest (behind l past)) acts) (subst (AreGood w.shape past) acts are) sit)
turns_order past rest all w p (RouterV v) after_it t n good on row tidy whole are sit = cc row
turns_order past rest all w p (LinkV y) after_it t n good on row tidy whole are sit = cc row
turns_order past rest all w p (HostV h) after_it t n good on row tidy whole are sit = cc row
turns_order past rest all w p (DetectorV v) after_it t n good on row tidy whole are sit = cc row
turns_order past rest all w p AbsentV after_it t n good on row tidy whole are sit = cc row

-- ---- the host takes a letter

takes_order : (past rest all : List Act) (w new : WorldView) → Good w → happened event.HostTake w ≡ Some new → Tidy all → all ≡ behind rest (behind (event_acts event.HostTake w) past) → AllSit all past w w → InOrder past (event_acts event.HostTake w)
takes_order past rest all w new good h tidy whole sit =
    let q : ℕ = part_count w.shape - 3 in
    let a = at_two event.HostTake w new 0 q h in
    let on = on_read w 0 a.low good a.low_was in
    let off = on_read w q a.high good a.high_was in
    let host = first_is a.low (stands_on w 0 a.low good on) in
    let x = stands_link (kind_of w.shape q) _ _ a.high (link_to_host w.shape) (stands_on w q a.high good off) in
    let row : meets event.HostTake (HostV host.0) (LinkV x.0) ≡ Some a.met = subst (λ y. meets event.HostTake (HostV host.0) y ≡ Some a.met) x.1 (subst (λ y. meets event.HostTake y a.high ≡ Some a.met) host.1 a.row) in
    let c = crossed event.HostTake (HostV host.0) (LinkV x.0) (crossing_of event.HostTake (HostV host.0) (LinkV x.0)) a.met row in
    let k = mapped crossing.Packet (front_of x.0) c.0 c.1 in
    let high : after event.HostTake (crossing.Packet k.0) (LinkV x.0) ≡ Some a.met.high = ap (λ d. after event.HostTake d (LinkV x.0)) k.2 ∙ c.3 in
    let y = mapped LinkV (cond (is_packet k.0 (front_of x.0)) (take_from x.0) None) a.met.high high in
    let took = taken (is_packet k.0 (front_of x.0)) (take_from x.0) y.0 y.1 in
    let front = take_is k.0 x.0 y.0 k.1 took.1 in
    let acts : event_acts event.HostTake w ≡ Handed k.0.origin k.0.number host_address ∷ [] = ap (λ z. flat_map step_ends (take_steps (option_and_then carried z))) (a.high_was ∙ ap Some x.1) ∙ ap (λ z. flat_map step_ends (take_steps z)) k.1 in
    let on_link : OnPart w q (LinkV x.0) = subst (OnPart w q) x.1 off in
    let there : standing_at dest.Host w (Crosses q) ≡ item_of k.0 ∷ map item_of y.0.packets = was_part dest.Host w q (LinkV x.0) (Crosses q) on_link.is refl ∙ ap (map item_of) front in
    subst (InOrder past) (sym acts) (
      in_turn k.0.origin k.0.number dest.Host past all w (Crosses q) (item_of k.0) (map item_of y.0.packets) good.limits tidy (λ z i. sub_of z (event_acts event.HostTake w) rest past all whole i) (sit k.0.origin dest.Host tt)
          (λ r n. subst (λ (z : Kind). NextBehind w.shape dest.Host q z r) (link_to_host w.shape) n) there refl refl,
      tt,
    )

-- ---- each event

event_order : (e : Event) (past rest all : List Act) (w new : WorldView) → Good w → happened e w ≡ Some new → Tidy all → all ≡ behind rest (behind (event_acts e w) past) → AreGood w.shape past (event_acts e w) → AllSit all past w w → InOrder past (event_acts e w)
event_order (event.Turn t n) past rest all w new good h tidy whole are sit =
    let x = by_thread (event.Turn t n) w new (part_of w.shape t) h in
    turns_order past rest all w x.0 x.2.before x.2.behind t n good (on_read w x.0 x.2.before good x.2.was) x.2.row tidy whole are sit
event_order event.HostTake past rest all w new good h tidy whole are sit = takes_order past rest all w new good h tidy whole sit
event_order (event.Deliver a) past rest all w new good h tidy whole are sit = unhanded_order _ past (deliver_unhanded w a (part_of w.shape a))
event_order (event.Depart p l) past rest all w new good h tidy whole are sit = unhanded_order _ past (none_unhanded _ (nothing_two (event.Depart p l) w (leads_from p.0 (kind_of w.shape l.0)) p.0 l.0 (λ low high. refl)))
event_order (event.Arrive l p) past rest all w new good h tidy whole are sit = unhanded_order _ past (arrive_unhanded w (event.Arrive l p) (leads_to p.0 (kind_of w.shape l.0)) p.0 l.0 (λ low high. arrival_unhanded (reach_of w) (option_and_then carried high) low))
event_order (event.Route p) past rest all w new good h tidy whole are sit = unhanded_order _ past (none_unhanded _ (nothing_route p w (is_router (kind_of w.shape p.0))))
event_order event.HostPut past rest all w new good h tidy whole are sit = unhanded_order _ past (puts_unhanded (slice_get w.parts 0))
event_order (event.Report p) past rest all w new good h tidy whole are sit = unhanded_order _ past (none_unhanded _ (no_acts (event.Report p) w (nat_lt p.0 (visited w.shape)) p.0 (λ low high. refl)))
event_order event.Begin past rest all w new good h tidy whole are sit = unhanded_order _ past (none_unhanded _ (begin_none (reach_of w) (slice_get w.parts (detector_part w.shape))))
event_order (event.Confirm p) past rest all w new good h tidy whole are sit = unhanded_order _ past (none_unhanded _ (no_acts (event.Confirm p) w (nat_lt p.0 (visited w.shape)) p.0 (λ low high. refl)))
event_order event.Announce past rest all w new good h tidy whole are sit = unhanded_order _ past (none_unhanded _ (announce_none (reach_of w) (slice_get w.parts (detector_part w.shape))))
event_order (event.Release p) past rest all w new good h tidy whole are sit = unhanded_order _ past (none_unhanded _ (no_acts (event.Release p) w (nat_lt p.0 (visited w.shape)) p.0 (λ low high. refl)))
event_order (event.Go p) past rest all w new good h tidy whole are sit = unhanded_order _ past (none_unhanded _ (no_acts (event.Go p) w (nat_lt p.0 (visited w.shape)) p.0 (λ low high. refl)))

-- ---- histories

acts_split : (e : Event) (es : List Event) (w mid : WorldView) → happened e w ≡ Some mid → history_acts w (e ∷ es) ≡ event_acts e w ++ history_acts mid es
acts_split e es w mid h = ap (λ (o : Option WorldView). event_acts e w ++ unwrap_or (option_map (λ z. history_acts z es) o) []) h

pub walk_sends : (es : List Event) (past : List Act) (w end : WorldView) → Good w → IsQuietWorld w → AllEnough w → Below past w → Walk w es end → AreGood w.shape past (history_acts w es)
walk_sends [] past w end good quiet enough below walk = tt
walk_sends (e ∷ es) past w end good quiet enough below walk =
    let one = event_sends e past w walk.0 good quiet enough walk.1 below in
    let shape = (event_grew e w walk.0 good quiet enough walk.1).shape in
    let rest = walk_sends es (behind (event_acts e w) past) walk.0 end (event_good e w walk.0 good quiet walk.1) (event_quiet e w walk.0 good.limits quiet walk.1) one.enough one.below walk.2 in
    subst (AreGood w.shape past) (sym (acts_split e es w walk.0 walk.1)) (good_join w.shape (event_acts e w) (history_acts walk.0 es) past one.good (subst (λ n. AreGood n (behind (event_acts e w) past) (history_acts walk.0 es)) shape rest))

pub walk_order : (es : List Event) (past all : List Act) (w end : WorldView) → Good w → IsQuietWorld w → AllEnough w → Tidy all → all ≡ behind (history_acts w es) past → AreGood w.shape past (history_acts w es) → AllSit all past w w → Walk w es end → InOrder past (history_acts w es)
walk_order [] past all w end good quiet enough tidy whole are sit walk = tt
walk_order (e ∷ es) past all w end good quiet enough tidy whole are sit walk =
    let mid : WorldView = walk.0 in
    let xs : List Act = event_acts e w in
    let ys : List Act = history_acts mid es in
    let split = acts_split e es w mid walk.1 in
    let both : all ≡ behind ys (behind xs past) = whole ∙ (ap (λ l. behind l past) split ∙ behind_join xs ys past) in
    let parts : AreGood w.shape past (xs ++ ys) = subst (AreGood w.shape past) split are in
    let here = good_first w.shape xs ys past parts in
    let grew = event_grew e w mid good quiet enough walk.1 in
    let shape : mid.shape ≡ w.shape = grew.shape in
    let next : AllSit all (behind xs past) mid mid = λ s goal receiver.
    let there : IsReceiver w.shape goal = subst (λ n. IsReceiver n goal) shape receiver in
    let k = event_keeps e s goal (chosen s (receiver_of goal) all) past w mid good quiet walk.1 there (own_chosen s (receiver_of goal) all) (acts_fit w.shape goal s xs ys past all good.limits there tidy both here) (sit s goal there) in
    subst (λ n. Kept n (way_of n s goal) goal (chosen s (receiver_of goal) all) (standing_at goal mid) (sent_of (chosen s (receiver_of goal) all) (behind xs past)) (gone_of (chosen s (receiver_of goal) all) (receiver_of goal) (behind xs past))) (sym shape) k in
    let rest = walk_order es (behind xs past) all mid end (event_good e w mid good quiet walk.1) (event_quiet e w mid good.limits quiet walk.1) (event_enough e w mid good quiet walk.1 enough) tidy both
    (subst (λ n. AreGood n (behind xs past) ys) (sym shape) (good_rest w.shape xs ys past parts)) next walk.2 in
    subst (InOrder past) (sym split) (order_join xs ys past (event_order e past ys all w mid good walk.1 tidy both here sit) rest)

-- ---- a start

abbrev no_packet : Option Packet
no_packet = None

abbrev no_slots : List ℕ
no_slots = []

none_waits : (m k : ℕ) → get_or (replicate m no_packet) k no_packet ≡ no_packet
none_waits zero k = refl
none_waits (suc m) zero = refl
none_waits (suc m) (suc k) = none_waits m k

no_queue : (m k : ℕ) → get_or (replicate m no_slots) k no_slots ≡ no_slots
no_queue zero k = refl
no_queue (suc m) zero = refl
no_queue (suc m) (suc k) = no_queue m k

empty_port : {X : Type 0} (way : Port) → at way (no_values {X = X}) ≡ None
empty_port port.East = refl
empty_port port.West = refl
empty_port port.South = refl
empty_port port.North = refl
empty_port port.Up = refl
empty_port port.Down = refl
empty_port port.HostPort = refl
empty_port port.Here = refl

fresh_queue : (goal : Dest) (n : ShapeNumbers) (tile : ℕ) (words : List ℕ) (threads : List Thread) → queue_items goal (fresh_tile n tile words threads) ≡ []
fresh_queue (dest.Thread t) n tile words threads = ap (stamps (dest.Thread t) _) (no_queue (tile_threads n) (place_in_tile n t.0))
fresh_queue dest.Host n tile words threads = refl
fresh_queue (dest.Mask at_tile mask) n tile words threads = refl
fresh_queue (dest.Key key) n tile words threads = refl

fresh_spots : (goal : Dest) (n : ShapeNumbers) (tile : ℕ) (words : List ℕ) (threads : List Thread) (r : Spot) → stands_in goal (TileV (fresh_tile n tile words threads)) r ≡ []
fresh_spots goal n tile words threads (Pending p k) = ap items_of (none_waits (tile_threads n) k)
fresh_spots goal n tile words threads (Waits p way) = ap items_of (empty_port way)
fresh_spots goal n tile words threads (Works p side) = refl
fresh_spots goal n tile words threads (Crosses l) = refl
fresh_spots goal n tile words threads Queue = fresh_queue goal n tile words threads

fresh_router_spots : (goal : Dest) (n : ShapeNumbers) (b : Board) (beats : Table) (r : Spot) → stands_in goal (RouterV (fresh_router n b beats)) r ≡ []
fresh_router_spots goal n b beats (Pending p k) = refl
fresh_router_spots goal n b beats (Waits p way) = ap items_of (empty_port way)
fresh_router_spots goal n b beats (Works p side) = ap (λ o. items_of (packet_in o)) (empty_port side)
fresh_router_spots goal n b beats (Crosses l) = refl
fresh_router_spots goal n b beats Queue = refl

fresh_link_spots : (goal : Dest) (c : ℕ) (r : Spot) → stands_in goal (LinkV (record { packets = []; capacity = c })) r ≡ []
fresh_link_spots goal c (Pending p k) = refl
fresh_link_spots goal c (Waits p way) = refl
fresh_link_spots goal c (Works p side) = refl
fresh_link_spots goal c (Crosses l) = refl
fresh_link_spots goal c Queue = refl

starts_empty : (goal : Dest) (n : ShapeNumbers) (x : PartView) (r : Spot) → StartsSo n x → stands_in goal x r ≡ []
starts_empty goal n (TileV v) r s = ap (λ z. stands_in goal (TileV z) r) s.3 ∙ fresh_spots goal n v.plan.tile s.0 s.1 r
starts_empty goal n (RouterV v) r s = ap (λ z. stands_in goal (RouterV z) r) s.1 ∙ fresh_router_spots goal n v.plan.board s.0 r
starts_empty goal n (LinkV v) r s = ap (λ z. stands_in goal (LinkV z) r) s ∙ fresh_link_spots goal n.link r
starts_empty goal n (HostV h) r s = refl
starts_empty goal n (DetectorV v) r s = refl
starts_empty goal n AbsentV r s = refl

past_end : (xs : List PartView) (p : ℕ) → length xs ≤ p → get_or xs p AbsentV ≡ AbsentV
past_end [] p h = refl
past_end (x ∷ xs) zero h = absurd (omega arith)
past_end (x ∷ xs) (suc p) h = past_end xs p (omega arith)

start_empty : (goal : Dest) (w : WorldView) (r : Spot) → IsStart w → standing_at goal w r ≡ []
start_empty goal w r s = elim (cases_lt (spot_part w.shape goal r) (length w.parts)) [
  | inl h ↦ starts_empty goal w.shape (get_or w.parts (spot_part w.shape goal r) AbsentV) r (s.parts (spot_part w.shape goal r) h)
  | inr h ↦ ap (λ x. stands_in goal x r) (past_end w.parts (spot_part w.shape goal r) h)
]

start_sits : (all : List Act) (w : WorldView) → IsStart w → AllSit all [] w w
start_sits all w s o goal receiver = record {
  order = starts (way_of w.shape o goal) (world_of (chosen o (receiver_of goal) all) (standing_at goal w) [] []) (λ r. ap (numbers (chosen o (receiver_of goal) all)) (start_empty goal w r s)) refl;
  all = λ r. subst (λ l. AllFor w.shape goal (chosen o (receiver_of goal) all) l) (sym (start_empty goal w r s)) tt;
}

-- ---- the law

rises_good : (n : ShapeNumbers) (xs past : List Act) → AreGood n past xs → NumbersRise past xs
rises_good n [] past g = tt
rises_good n (x ∷ xs) past g = (good_rises n past x g.0, rises_good n xs (x ∷ past) g.1)

pub every_history_is_in_order : EveryHistoryIsInOrder
every_history_is_in_order start end history s walk =
    let g = good_start start s in
    let q = quiet_start start s g in
    let enough = start_enough start s g in
    let good = walk_sends history [] start end g q enough (λ a k d i. absurd i) walk in
    let all : List Act = behind (history_acts start history) [] in
    record {
      numbers = rises_good start.shape (history_acts start history) [] good;
      order = walk_order history [] all start end g q enough (tidy_good start.shape (history_acts start history) [] good tt) refl good (start_sits all start s) walk;
    }
