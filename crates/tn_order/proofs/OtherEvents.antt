-- Turns, the host's events and the detector's events keep the order.
use Rattle.std.proofs.Common.{ℕ, zero, suc, ◌≡◌, ◌≢◌, ◌-◌, ◌<◌, ◌&&◌, Bool, true, false, cond, refl, sym, ◌∙◌, ap, subst, arith, List, [], ◌∷◌, ◌++◌, set, Option, Some, None, unwrap_or}
use Rattle.std.specs.Prelude.{nat_lt, nat_le, option_and_then}
use Rattle.std.specs.Int.{bit_at}
use Rattle.std.specs.List.{AllByRecursion, flat_map}
use Rattle.std.proofs.lemmas.List.{set-get_or}
use Rattle.std.proofs.lemmas.Nat.Bits.{bit_at-zero}
use Rattle.tn_base.specs.declared.event.Event.{Event}
use Rattle.tn_base.specs.declared.event.Event.TheVariants as event
use Rattle.tn_base.specs.declared.ids.ThreadId.{ThreadId}
use Rattle.tn_base.specs.declared.message.Dest.{Dest}
use Rattle.tn_base.specs.declared.message.Dest.TheVariants as dest
use Rattle.tn_base.specs.declared.message.Packet.{Packet}
use Rattle.tn_base.specs.declared.op.Op.{Op}
use Rattle.tn_base.specs.declared.op.Op.TheVariants as op
use Rattle.tn_base.specs.declared.shape.ShapeNumbers.{ShapeNumbers}
use Rattle.tn_base.specs.Address.{place_in_tile}
use Rattle.tn_base.specs.Parts.{kind_of, part_count, visited}
use Rattle.tn_detect.specs.DetectorView.{DetectorView, with_now as detector_with_now}
use Rattle.tn_host.specs.HostView.{HostState}
use Rattle.tn_host.specs.Rows.{offered as host_offers}
use Rattle.tn_host.specs.Script.{first_item, packet_of as host_packet}
use Rattle.tn_host.specs.declared.script.ScriptItem.{ScriptItem}
use Rattle.tn_host.specs.declared.script.ScriptItem.TheVariants as item
use Rattle.tn_link.specs.LinkRows.{front_of, put_in, take_from}
use Rattle.tn_link.specs.LinkView.{LinkView}
use Rattle.tn_node.specs.declared.facts.PartFacts.{PartFacts}
use Rattle.tn_node.specs.declared.node.Node.{Node}
use Rattle.tn_node.specs.Deed.{Deed}
use Rattle.tn_node.specs.Deed as deed
use Rattle.tn_node.specs.PortRows.{at}
use Rattle.tn_node.specs.SamePacket.{is_packet}
use Rattle.tn_quiet.specs.Law.{IsQuietWorld}
use Rattle.tn_router.specs.declared.state.RouterState.{RouterState}
use Rattle.tn_router.specs.RouterView.{RouterView, with_now as router_with_now}
use Rattle.tn_router.specs.Rows.{gone_on as router_gone_on, released as router_released, router_whitened}
use Rattle.tn_quiet.proofs.Machines.{at_two, by_thread}
use Rattle.tn_rows.proofs.HostLinks.{link_from_host, link_to_host}
use Rattle.tn_rows.specs.Events.{after, carried, crossing_of, happened, meets, with_part}
use Rattle.tn_rows.specs.PartView.{PartView, TileV, RouterV, LinkV, HostV, DetectorV, AbsentV}
use Rattle.tn_rows.specs.Places.{detector_part, part_of, two_if}
use Rattle.tn_rows.specs.WorldView.{WorldView}
use Rattle.tn_rows.proofs.Meeting.{mapped}
use Rattle.tn_stamp.specs.declared.entry.Crossing.{Crossing}
use Rattle.tn_stamp.specs.declared.entry.Crossing.TheVariants as crossing
use Rattle.tn_tile.specs.declared.state.TileState.{TileState}
use Rattle.tn_tile.specs.Rows.{can_count, gone_on, is_here, released, tile_whitened, turn_row, with_node}
use Rattle.tn_tile.specs.Receivers.{receivers}
use Rattle.tn_tile.specs.Step.{can_step, step_at_place, stepped, steps_of, thread_at}
use Rattle.tn_tile.specs.TileView.{TileView, now_by, with_now}
use Rattle.tn_tile.proofs.Steps.{taken}
use Rattle.tn_rows.specs.Visited.{going_part, released_part, whitened_part}
use Rattle.tn_letters.specs.Letters.{host_address}
use Rattle.tn_letters.specs.Steps.{after_step, meeting_steps, part_steps, put_steps, send_steps, steps_at, take_steps}
use Rattle.tn_letters.specs.Tiles.{reach_of, tile_for}
use Rattle.tn_letters.proofs.Crossings.{put_is, take_is}
use Rattle.tn_letters.proofs.Detected.{Alone, Paired, alone, confirm_paired, go_paired, release_paired, report_paired}
use Rattle.tn_letters.proofs.Lift.{Good, GoodLink, IsForHost, OnPart, leads_to_host, on_new, part_is, part_on, stands_on, tile_is, twice, with_tile}
use Rattle.tn_letters.proofs.Links.{two_parts}
use Rattle.tn_letters.proofs.Simulate.{Place}
use Rattle.tn_letters.proofs.Threads.{step_reached}
use Rattle.tn_letters.proofs.Walks.{first_is, on_read}
use Rattle.tn_order.specs.Acting.{ActsFit, SendFits}
use Rattle.tn_order.specs.Acts.{Act, Sent, Handed, sent_with}
use Rattle.tn_order.specs.History.{behind, event_acts, gone_of, receiver_of, sent_of, step_acts, step_ends, turn_acts}
use Rattle.tn_order.specs.Kept.{IsFor}
use Rattle.tn_order.specs.Moving.{IsMoving, IsReceiver}
use Rattle.tn_order.specs.Spots.{Crosses, Item, Pending, Queue, Spot, Waits, Works, begins, item_of, items_of, packet_in, queue_items, standing_at, stands_in, way_of}
use Rattle.tn_order.proofs.Acting.{behind_join, gone_adds, gone_stays, sent_adds, sent_stays}
use Rattle.tn_order.proofs.Crossing.{crossed}
use Rattle.tn_order.proofs.Moving.{here_is, stands_link}
use Rattle.tn_order.proofs.PartViews.{tile_same}
use Rattle.tn_order.proofs.Passing.{begin, first_for, part_with, stay}
use Rattle.tn_order.proofs.SpotNet.{spot_net}
use Rattle.tn_order.proofs.Steps.{gets_puts, gives_takes, link_gets, link_gives, on_mid}
use Rattle.tn_order.proofs.Tiles.{lift_same_on}
use Rattle.tn_order.proofs.Turning.{SendsRight, Sits, step_keeps}

-- ---- acts in a row

fits_first : (n : ShapeNumbers) (goal : Dest) (mine : ℕ → ℕ → Bool) (xs ys past : List Act) → ActsFit n goal mine past (xs ++ ys) → ActsFit n goal mine past xs
fits_first n goal mine [] ys past f = tt
fits_first n goal mine (x ∷ xs) ys past f = (f.0, fits_first n goal mine xs ys (x ∷ past) f.1)

fits_rest : (n : ShapeNumbers) (goal : Dest) (mine : ℕ → ℕ → Bool) (xs ys past : List Act) → ActsFit n goal mine past (xs ++ ys) → ActsFit n goal mine (behind xs past) ys
fits_rest n goal mine [] ys past f = f
fits_rest n goal mine (x ∷ xs) ys past f = fits_rest n goal mine xs ys (x ∷ past) f.1

-- a step that asks for a send does this send first
pub send_fits : (n : ShapeNumbers) (goal : Dest) (mine : ℕ → ℕ → Bool) (past rest : List Act) (a number : ℕ) (o : Op) (to : Dest) (bytes : List ℕ) → o ≡ op.Send to bytes → ActsFit n goal mine past (sent_with a number o ++ rest) → mine a number ≡ true → SendFits n goal mine past number to
send_fits n goal mine past rest a number o to bytes e f meant = (subst (λ x. ActsFit n goal mine past (sent_with a number x ++ rest)) e f).0 meant

-- ---- a turn

turn_keeps : (n : ℕ) (s : ℕ) (goal : Dest) (mine : ℕ → ℕ → Bool) (past : List Act) (w : WorldView) (p a k : ℕ) (v : TileView) (new : TileState) → ((t i : ℕ) → mine t i ≡ true → t ≡ s) → IsReceiver w.shape goal → Place w p v a k → steps_of v.plan k n v.now ≡ Some new →
    ActsFit w.shape goal mine past (turn_acts a k n v) → Sits s goal mine past w w → Sits s goal mine (behind (turn_acts a k n v) past) w (with_tile w p (with_now v new))
unfolding steps_of turn_acts
turn_keeps zero s goal mine past w p a k v new own there c is fits kept =
    let same : v.now ≡ new = ap (λ (o : Option TileState). unwrap_or o new) is in
    let back : w ≡ with_tile w p v = ap (λ ps. record w { parts = ps }) (sym (ap (λ x. set w.parts p x) (sym c.on.is) ∙ set-get_or w.parts p AbsentV)) in
    subst (λ x. Sits s goal mine past w (with_tile w p (with_now v x))) same (subst (λ (x : WorldView). Sits s goal mine past w x) back kept)
turn_keeps (suc n) s goal mine past w p a k v new own there c is fits kept =
    let first = taken (can_step v.plan.shape.fuel k v.now) (steps_of v.plan k n (stepped v.plan.code k v.now)) new is in
    let mid : WorldView = with_tile w p (after_step k v) in
    let one = step_reached (λ b. []) [] w p a k v c first.0 in
    let c' : Place mid p (after_step k v) a k = record {
      good = one.good;
      on = on_new w p v (after_step k v) c.on;
      stands = record { there = c.stands.there; tile = c.stands.tile; place = c.stands.place };
    } in
    let net = spot_net w.shape s goal c.good.limits in
    let here = fits_first w.shape goal mine (step_acts a k v) (turn_acts a k n (after_step k v)) past fits in
    let rest = fits_rest w.shape goal mine (step_acts a k v) (turn_acts a k n (after_step k v)) past fits in
    let sends : SendsRight s goal mine past w a (thread_at v.now k).sends (step_at_place v.plan.code k v.now).op = record {
      own = own;
      right = λ to bytes e meant. send_fits w.shape goal mine past _ a (thread_at v.now k).sends (step_at_place v.plan.code k v.now).op to bytes e here meant;
    } in
    let next = step_keeps s goal mine past w p a k v net there c first.0 sends kept in
    let end = turn_keeps n s goal mine (behind (step_acts a k v) past) mid p a k (after_step k v) new own there c' first.1 rest next in
    subst (λ acts. Sits s goal mine acts w (with_tile w p (with_now v new))) (sym (behind_join (step_acts a k v) (turn_acts a k n (after_step k v)) past))
    (subst (λ (x : WorldView). Sits s goal mine (behind (turn_acts a k n (after_step k v)) (behind (step_acts a k v) past)) w x) (twice w p (after_step k v) (with_now v new)) end)

pub first_of_four : (a b c d : Bool) → (a && b && c && d) ≡ true → a ≡ true
first_of_four true b c d e = refl
first_of_four false b c d e = cc e

turns_part : (s : ℕ) (goal : Dest) (mine : ℕ → ℕ → Bool) (past : List Act) (w : WorldView) (p : ℕ) (part after_it : PartView) (t : ThreadId) (n : ℕ) → ((t i : ℕ) → mine t i ≡ true → t ≡ s) → IsReceiver w.shape goal → Good w → OnPart w p part → after (event.Turn t n) crossing.None part ≡ Some after_it →
    ActsFit w.shape goal mine past (event_acts (event.Turn t n) w) → Sits s goal mine past w w → Sits s goal mine (behind (event_acts (event.Turn t n) w) past) w (with_part w p after_it)
turns_part s goal mine past w p (TileV v) after_it t n own there good on row fits kept =
    let x = mapped TileV (now_by v (turn_row v.plan t.0 n v.now)) after_it row in
    let y = mapped (with_now v) (turn_row v.plan t.0 n v.now) x.0 x.1 in
    let k : ℕ = place_in_tile v.plan.shape t.0 in
    let tests = taken (is_here v.plan t.0 && nat_le 1 n && nat_le n v.plan.shape.turn && can_count v.now) (steps_of v.plan k n v.now) y.0 y.1 in
    let c : Place w p v t.0 k = here_is w p t.0 v good on (first_of_four (is_here v.plan t.0) _ _ _ tests.0) in
    let acts : event_acts (event.Turn t n) w ≡ turn_acts t.0 k n v =
    ap (λ i. turn_acts t.0 i n (tile_for w t.0)) (c.stands.place) ∙ ap (turn_acts t.0 k n) (tile_is w p v t.0 on (part_is w p t.0 k v good on c.stands)) in
    subst (λ (z : PartView). Sits s goal mine (behind (event_acts (event.Turn t n) w) past) w (with_part w p z)) (ap TileV y.2 ∙ x.2)
    (subst (λ a. Sits s goal mine (behind a past) w (with_tile w p (with_now v y.0))) (sym acts)
    (turn_keeps n s goal mine past w p t.0 k v y.0 own there c tests.1 (subst (ActsFit w.shape goal mine past) acts fits) kept))
turns_part s goal mine past w p (RouterV v) after_it t n own there good on row fits kept = cc row
turns_part s goal mine past w p (LinkV y) after_it t n own there good on row fits kept = cc row
turns_part s goal mine past w p (HostV h) after_it t n own there good on row fits kept = cc row
turns_part s goal mine past w p (DetectorV v) after_it t n own there good on row fits kept = cc row
turns_part s goal mine past w p AbsentV after_it t n own there good on row fits kept = cc row

pub turn_event : (s : ℕ) (goal : Dest) (mine : ℕ → ℕ → Bool) (past : List Act) (w new : WorldView) (t : ThreadId) (n : ℕ) → ((t i : ℕ) → mine t i ≡ true → t ≡ s) → IsReceiver w.shape goal → Good w → happened (event.Turn t n) w ≡ Some new →
    ActsFit w.shape goal mine past (event_acts (event.Turn t n) w) → Sits s goal mine past w w → Sits s goal mine (behind (event_acts (event.Turn t n) w) past) w new
turn_event s goal mine past w new t n own there good h fits kept =
    let x = by_thread (event.Turn t n) w new (part_of w.shape t) h in
    subst (λ (u : WorldView). Sits s goal mine (behind (event_acts (event.Turn t n) w) past) w u) (sym x.2.is)
    (turns_part s goal mine past w x.0 x.2.before x.2.behind t n own there good (on_read w x.0 x.2.before good x.2.was) x.2.row fits kept)

-- ---- the host

host_spots : (goal : Dest) (h : HostState) (x : PartView) → ((r : Spot) → stands_in goal x r ≡ []) → (r : Spot) → stands_in goal x r ≡ stands_in goal (HostV h) r
host_spots goal h x none r = none r

-- the host's part stays a host
pub host_after : (e : Event) (c : Crossing) (h : HostState) (y : PartView) → after e c (HostV h) ≡ Some y → (g : HostState) × (y ≡ HostV g)
host_after e c h y row = let m = mapped HostV _ y row in (m.0, sym m.2)

-- the host's next message as a packet
pub record Offers (h : HostState) (k : Packet) : Type 0 where
  pub t : ThreadId
  pub bytes : List ℕ
  pub next : first_item h.script ≡ Some (item.Send t bytes)
  pub is : k ≡ record { origin = host_address; number = h.sends; dest = dest.Thread t; bytes = bytes }

pub offers_by : (h : HostState) (k : Packet) (o : Option ScriptItem) → first_item h.script ≡ o → host_packet h.sends o ≡ Some k → Offers h k
offers_by h k None e f = cc f
offers_by h k (Some item.AwaitIdle) e f = cc f
offers_by h k (Some (item.Send t bytes)) e f = record { t = t; bytes = bytes; next = e; is = sym (ap (λ (o : Option Packet). unwrap_or o k) f) }

pub not_held : {A : Type 0} (held : Bool) (o : Option A) (k : A) → cond held None o ≡ Some k → o ≡ Some k
not_held true o k e = cc e
not_held false o k e = e

pub put_event : (s : ℕ) (goal : Dest) (mine : ℕ → ℕ → Bool) (past : List Act) (w new : WorldView) → ((t i : ℕ) → mine t i ≡ true → t ≡ s) → Good w → happened event.HostPut w ≡ Some new →
    ActsFit w.shape goal mine past (event_acts event.HostPut w) → Sits s goal mine past w w → Sits s goal mine (behind (event_acts event.HostPut w) past) w new
put_event s goal mine past w new own good h fits kept =
    let q : ℕ = part_count w.shape - 2 in
    let a = at_two event.HostPut w new 0 q h in
    let on = on_read w 0 a.low good a.low_was in
    let off = on_read w q a.high good a.high_was in
    let host = first_is a.low (stands_on w 0 a.low good on) in
    let x = stands_link (kind_of w.shape q) _ _ a.high (link_from_host w.shape) (stands_on w q a.high good off) in
    let row : meets event.HostPut (HostV host.0) (LinkV x.0) ≡ Some a.met = subst (λ y. meets event.HostPut (HostV host.0) y ≡ Some a.met) x.1 (subst (λ y. meets event.HostPut y a.high ≡ Some a.met) host.1 a.row) in
    let c = crossed event.HostPut (HostV host.0) (LinkV x.0) (crossing_of event.HostPut (HostV host.0) (LinkV x.0)) a.met row in
    let k = mapped crossing.Packet (host_offers host.0) c.0 c.1 in
    let low : after event.HostPut (crossing.Packet k.0) (HostV host.0) ≡ Some a.met.low = ap (λ d. after event.HostPut d (HostV host.0)) k.2 ∙ c.2 in
    let high : after event.HostPut (crossing.Packet k.0) (LinkV x.0) ≡ Some a.met.high = ap (λ d. after event.HostPut d (LinkV x.0)) k.2 ∙ c.3 in
    let g = host_after event.HostPut (crossing.Packet k.0) host.0 a.met.low low in
    let y = mapped LinkV (put_in k.0 x.0) a.met.high high in
    let o = offers_by host.0 k.0 (first_item host.0.script) refl (not_held host.0.node.held _ k.0 k.1) in
    let act : Act = Sent host_address host.0.sends (dest.Thread o.t) in
    let acts : event_acts event.HostPut w ≡ act ∷ [] = ap (λ z. flat_map step_ends (put_steps z)) (a.low_was ∙ ap Some host.1) ∙ ap (λ z. flat_map step_ends (send_steps host.0.sends z)) o.next in
    let fit : ActsFit w.shape goal mine past (act ∷ []) = subst (ActsFit w.shape goal mine past) acts fits in
    let on_host : OnPart w 0 (HostV host.0) = subst (OnPart w 0) host.1 on in
    let on_link : OnPart w q (LinkV x.0) = subst (OnPart w q) x.1 off in
    let mid : WorldView = with_part w 0 (HostV g.0) in
    let i : Item = item_of k.0 in
    let from : i.origin ≡ host_address = ap (λ (z : Packet). z.origin) o.is in
    let number : i.number ≡ host.0.sends = ap (λ (z : Packet). z.number) o.is in
    let to : i.to ≡ dest.Thread o.t = ap (λ (z : Packet). z.dest) o.is in
    let meant_so : mine i.origin i.number ≡ mine host_address host.0.sends = ap (λ z. mine z i.number) from ∙ ap (mine host_address) number in
    let puts = link_gets goal mid q x.0 y.0 k.0 (put_is k.0 x.0 y.0 y.1) in
    let still : (r : Spot) → standing_at goal mid r ≡ standing_at goal w r = lift_same_on goal w 0 (HostV host.0) (HostV g.0) on_host (λ r z. refl) in
    let net = spot_net w.shape s goal good.limits in
    let stays = stay w.shape (way_of w.shape s goal) goal mine (standing_at goal w) (standing_at goal mid) (sent_of mine past) (gone_of mine (receiver_of goal) past) net still kept in
    let apart = two_parts w 0 q (HostV host.0) (LinkV x.0) on_host on_link (λ e. cc e) in
    let starts : begins w.shape host_address ≡ Crosses q = refl in
    let done = begin w.shape (way_of w.shape s goal) goal mine (Crosses q) i (standing_at goal mid) (standing_at goal (with_part mid q (LinkV y.0))) (sent_of mine past) (sent_of mine (act ∷ past)) (gone_of mine (receiver_of goal) past) net
    (gets_puts goal mid q (LinkV x.0) (LinkV y.0) (Crosses q) i (on_mid w 0 q (HostV host.0) (HostV g.0) (LinkV x.0) on_host on_link apart) puts)
    (λ meant. sym starts ∙ ap (begins w.shape) (own host_address host.0.sends (sym meant_so ∙ meant)))
    (λ meant. subst (IsFor w.shape goal) (sym to) (fit.0 (sym meant_so ∙ meant)).for)
    (λ meant. sent_adds mine host_address host.0.sends (dest.Thread o.t) past (sym meant_so ∙ meant) ∙ ap (λ z. z ∷ sent_of mine past) (sym number))
    (λ other. sent_stays mine host_address host.0.sends (dest.Thread o.t) past (sym meant_so ∙ other))
    (λ meant m j. subst (λ z. m < z) (sym number) ((fit.0 (sym meant_so ∙ meant)).above m j)) stays in
    let is : with_part mid q (LinkV y.0) ≡ new = ap (λ z. with_part (with_part w 0 z) q (LinkV y.0)) (sym g.1) ∙ (ap (λ z. with_part (with_part w 0 a.met.low) q z) y.2 ∙ sym a.is) in
    subst (λ l. Sits s goal mine (behind l past) w new) (sym acts) (subst (λ (u : WorldView). Sits s goal mine (act ∷ past) w u) is done)

-- only packets for the host are on the link to the host
host_link : (n : ShapeNumbers) (q : ℕ) (x : LinkView) (k : Packet) (rest : List Packet) → GoodLink n q x → leads_to_host n (kind_of n q) ≡ true → x.packets ≡ k ∷ rest → k.dest ≡ dest.Host
host_link n q x k rest good leads e = (subst (AllByRecursion (IsForHost n)) e (good.host leads)).0.1

-- a packet for the host is for no thread
meant_host : (n : ShapeNumbers) (goal d : Dest) → IsReceiver n goal → d ≡ dest.Host → IsFor n goal d → host_address ≡ receiver_of goal
meant_host n dest.Host d there e for = refl
meant_host n (dest.Thread t) d there e for = let b = for.receiver in let z = ap (λ x. bit_at (receivers n x) (place_in_tile n t.0)) e ∙ bit_at-zero (place_in_tile n t.0) in absurd (omega arith)
meant_host n (dest.Mask tile mask) d there e for = absurd there
meant_host n (dest.Key key) d there e for = absurd there

leads_host : (n : ShapeNumbers) → leads_to_host n (kind_of n (part_count n - 3)) ≡ true
leads_host n = ap (leads_to_host n) (link_to_host n)

pub take_event : (s : ℕ) (goal : Dest) (mine : ℕ → ℕ → Bool) (past : List Act) (w new : WorldView) → IsReceiver w.shape goal → Good w → happened event.HostTake w ≡ Some new → Sits s goal mine past w w → Sits s goal mine (behind (event_acts event.HostTake w) past) w new
take_event s goal mine past w new there good h kept =
    let q : ℕ = part_count w.shape - 3 in
    let a = at_two event.HostTake w new 0 q h in
    let on = on_read w 0 a.low good a.low_was in
    let off = on_read w q a.high good a.high_was in
    let host = first_is a.low (stands_on w 0 a.low good on) in
    let x = stands_link (kind_of w.shape q) _ _ a.high (link_to_host w.shape) (stands_on w q a.high good off) in
    let row : meets event.HostTake (HostV host.0) (LinkV x.0) ≡ Some a.met = subst (λ y. meets event.HostTake (HostV host.0) y ≡ Some a.met) x.1 (subst (λ y. meets event.HostTake y a.high ≡ Some a.met) host.1 a.row) in
    let c = crossed event.HostTake (HostV host.0) (LinkV x.0) (crossing_of event.HostTake (HostV host.0) (LinkV x.0)) a.met row in
    let k = mapped crossing.Packet (front_of x.0) c.0 c.1 in
    let low : after event.HostTake (crossing.Packet k.0) (HostV host.0) ≡ Some a.met.low = ap (λ d. after event.HostTake d (HostV host.0)) k.2 ∙ c.2 in
    let high : after event.HostTake (crossing.Packet k.0) (LinkV x.0) ≡ Some a.met.high = ap (λ d. after event.HostTake d (LinkV x.0)) k.2 ∙ c.3 in
    let g = host_after event.HostTake (crossing.Packet k.0) host.0 a.met.low low in
    let y = mapped LinkV (cond (is_packet k.0 (front_of x.0)) (take_from x.0) None) a.met.high high in
    let took = taken (is_packet k.0 (front_of x.0)) (take_from x.0) y.0 y.1 in
    let front : x.0.packets ≡ k.0 ∷ y.0.packets = take_is k.0 x.0 y.0 k.1 took.1 in
    let act : Act = Handed k.0.origin k.0.number host_address in
    let acts : event_acts event.HostTake w ≡ act ∷ [] = ap (λ z. flat_map step_ends (take_steps (option_and_then carried z))) (a.high_was ∙ ap Some x.1) ∙ ap (λ z. flat_map step_ends (take_steps z)) k.1 in
    let on_host : OnPart w 0 (HostV host.0) = subst (OnPart w 0) host.1 on in
    let on_link : OnPart w q (LinkV x.0) = subst (OnPart w q) x.1 off in
    let mid : WorldView = with_part w 0 (HostV g.0) in
    let i : Item = item_of k.0 in
    let gives = link_gives goal mid q x.0 y.0 k.0 front in
    let still : (r : Spot) → standing_at goal mid r ≡ standing_at goal w r = lift_same_on goal w 0 (HostV host.0) (HostV g.0) on_host (λ r z. refl) in
    let net = spot_net w.shape s goal good.limits in
    let stays = stay w.shape (way_of w.shape s goal) goal mine (standing_at goal w) (standing_at goal mid) (sent_of mine past) (gone_of mine (receiver_of goal) past) net still kept in
    let apart = two_parts w 0 q (HostV host.0) (LinkV x.0) on_host on_link (λ e. cc e) in
    let takes = gives_takes goal mid q (LinkV x.0) (LinkV y.0) (Crosses q) i (on_mid w 0 q (HostV host.0) (HostV g.0) (LinkV x.0) on_host on_link apart) gives in
    let dest_is = host_link w.shape q x.0 k.0 y.0.packets (part_on w q (LinkV x.0) good on_link) (leads_host w.shape) front in
    let done = part_with w.shape (way_of w.shape s goal) goal mine (Crosses q) i (standing_at goal mid) (standing_at goal (with_part mid q (LinkV y.0))) (sent_of mine past) (gone_of mine (receiver_of goal) past) (gone_of mine (receiver_of goal) (act ∷ past)) net takes
    (λ meant. gone_adds mine (receiver_of goal) k.0.origin k.0.number host_address past meant (meant_host w.shape goal k.0.dest there dest_is (first_for w.shape goal mine (Crosses q) i (standing_at goal mid) (standing_at goal (with_part mid q (LinkV y.0))) takes stays.all meant)))
    (λ other. gone_stays mine (receiver_of goal) k.0.origin k.0.number host_address past other) stays in
    let is : with_part mid q (LinkV y.0) ≡ new = ap (λ z. with_part (with_part w 0 z) q (LinkV y.0)) (sym g.1) ∙ (ap (λ z. with_part (with_part w 0 a.met.low) q z) y.2 ∙ sym a.is) in
    subst (λ l. Sits s goal mine (behind l past) w new) (sym acts) (subst (λ (u : WorldView). Sits s goal mine (act ∷ past) w u) is done)

-- ---- the detector

-- a part and the detector change, and no spot does
silent_keeps : (s : ℕ) (goal : Dest) (mine : ℕ → ℕ → Bool) (past : List Act) (w new : WorldView) (p q : ℕ) (low made : PartView) (d e : DetectorView) → Good w → OnPart w p low → OnPart w q (DetectorV d) → q ≢ p → ((r : Spot) → stands_in goal made r ≡ stands_in goal low r) → new ≡ with_part (with_part w p made) q (DetectorV e) →
    Sits s goal mine past w w → Sits s goal mine past w new
silent_keeps s goal mine past w new p q low made d e good on off apart same is kept =
    let net = spot_net w.shape s goal good.limits in
    let mid : WorldView = with_part w p made in
    let there = on_mid w p q low made (DetectorV d) on off apart in
    let one : (r : Spot) → standing_at goal mid r ≡ standing_at goal w r = lift_same_on goal w p low made on (λ r z. same r) in
    let two : (r : Spot) → standing_at goal (with_part mid q (DetectorV e)) r ≡ standing_at goal mid r = lift_same_on goal mid q (DetectorV d) (DetectorV e) there (λ r z. refl) in
    subst (λ (u : WorldView). Sits s goal mine past w u) (sym is)
    (stay w.shape (way_of w.shape s goal) goal mine (standing_at goal w) (standing_at goal (with_part mid q (DetectorV e))) (sent_of mine past) (gone_of mine (receiver_of goal) past) net (λ r. two r ∙ one r) kept)

released_queue : (goal : Dest) (v : TileView) (value : ℕ) → queue_items goal (with_now v (released value v.now)) ≡ queue_items goal v
released_queue (dest.Thread t) v value = refl
released_queue dest.Host v value = refl
released_queue (dest.Mask tile mask) v value = refl
released_queue (dest.Key key) v value = refl

node_queue : (goal : Dest) (v : TileView) (node : Node) → queue_items goal (with_now v (with_node v.now node)) ≡ queue_items goal v
node_queue (dest.Thread t) v node = refl
node_queue dest.Host v node = refl
node_queue (dest.Mask tile mask) v node = refl
node_queue (dest.Key key) v node = refl

same_router : (goal : Dest) (v : RouterView) (s : RouterState) → s.inputs ≡ v.now.inputs → s.node.out ≡ v.now.node.out → (r : Spot) → stands_in goal (RouterV (router_with_now v s)) r ≡ stands_in goal (RouterV v) r
same_router goal v s inputs out (Pending q j) = refl
same_router goal v s inputs out (Waits q u) = ap (λ o. items_of (at u o)) out
same_router goal v s inputs out (Works q side) = ap (λ o. items_of (packet_in (at side o))) inputs
same_router goal v s inputs out (Crosses l) = refl
same_router goal v s inputs out Queue = refl

whitened_same : (goal : Dest) (x : PartView) (r : Spot) → stands_in goal (whitened_part x) r ≡ stands_in goal x r
whitened_same goal (TileV v) r = tile_same goal v (tile_whitened v.now) (record { pending = λ j. refl; out = λ way. refl }) (node_queue goal v _) r
whitened_same goal (RouterV v) r = same_router goal v (router_whitened v.now) refl refl r
whitened_same goal (LinkV v) r = refl
whitened_same goal (HostV h) r = refl
whitened_same goal (DetectorV v) r = refl
whitened_same goal AbsentV r = refl

going_same : (goal : Dest) (x : PartView) (r : Spot) → stands_in goal (going_part x) r ≡ stands_in goal x r
going_same goal (TileV v) r = tile_same goal v (gone_on v.now) (record { pending = λ j. refl; out = λ way. refl }) (node_queue goal v _) r
going_same goal (RouterV v) r = same_router goal v (router_gone_on v.now) refl refl r
going_same goal (LinkV v) r = refl
going_same goal (HostV h) r = refl
going_same goal (DetectorV v) r = refl
going_same goal AbsentV r = refl

released_same : (goal : Dest) (value : ℕ) (x : PartView) (r : Spot) → stands_in goal (released_part value x) r ≡ stands_in goal x r
released_same goal value (TileV v) r = tile_same goal v (released value v.now) (record { pending = λ j. refl; out = λ way. refl }) (released_queue goal v value) r
released_same goal value (RouterV v) r = same_router goal v (router_released v.now) refl refl r
released_same goal value (LinkV v) r = refl
released_same goal value (HostV h) r = refl
released_same goal value (DetectorV v) r = refl
released_same goal value AbsentV r = refl

paired_keeps : (s : ℕ) (goal : Dest) (mine : ℕ → ℕ → Bool) (past : List Act) (w new : WorldView) (p : ℕ) (made : ℕ → PartView → PartView) (d : PartFacts → Deed) → Good w → ((value : ℕ) (x : PartView) (r : Spot) → stands_in goal (made value x) r ≡ stands_in goal x r) → Paired w new p made d →
    Sits s goal mine past w w → Sits s goal mine past w new
paired_keeps s goal mine past w new p made d good same r kept =
    let inside = r.inside in
    let last = r.last in
    silent_keeps s goal mine past w new p (detector_part w.shape) r.low (made r.facts.value r.low) r.detector (detector_with_now r.detector r.behind) good r.low_on r.detector_on (λ e. omega arith) (same r.facts.value r.low) r.is kept

alone_keeps : (s : ℕ) (goal : Dest) (mine : ℕ → ℕ → Bool) (past : List Act) (w new : WorldView) (d : Deed) → Good w → Alone w new d → Sits s goal mine past w w → Sits s goal mine past w new
alone_keeps s goal mine past w new d good r kept =
    let net = spot_net w.shape s goal good.limits in
    subst (λ (u : WorldView). Sits s goal mine past w u) (sym r.is)
    (stay w.shape (way_of w.shape s goal) goal mine (standing_at goal w) (standing_at goal (with_part w (detector_part w.shape) (DetectorV (detector_with_now r.detector r.behind)))) (sent_of mine past) (gone_of mine (receiver_of goal) past) net
    (lift_same_on goal w (detector_part w.shape) (DetectorV r.detector) (DetectorV (detector_with_now r.detector r.behind)) r.detector_on (λ z e. refl)) kept)

-- an event on a part and the detector does nothing
pub no_acts : (e : Event) (w : WorldView) (b : Bool) (p : ℕ) → ((low high : Option PartView) → meeting_steps (reach_of w) e low high ≡ []) → flat_map step_ends (steps_at e w (two_if b p (detector_part w.shape))) ≡ []
no_acts e w true p none = ap (flat_map step_ends) (none _ _)
no_acts e w false p none = refl

with_no_acts : (s : ℕ) (goal : Dest) (mine : ℕ → ℕ → Bool) (past acts : List Act) (w new : WorldView) → acts ≡ [] → Sits s goal mine past w new → Sits s goal mine (behind acts past) w new
with_no_acts s goal mine past acts w new e kept = subst (λ l. Sits s goal mine (behind l past) w new) (sym e) kept

pub acting_keeps : (e : Event) (s : ℕ) (goal : Dest) (mine : ℕ → ℕ → Bool) (past : List Act) (w new : WorldView) → Good w → IsQuietWorld w → happened e w ≡ Some new → (IsMoving e → ⊥) → IsReceiver w.shape goal → ((t k : ℕ) → mine t k ≡ true → t ≡ s) → ActsFit w.shape goal mine past (event_acts e w) →
    Sits s goal mine past w w → Sits s goal mine (behind (event_acts e w) past) w new
acting_keeps (event.Turn t n) s goal mine past w new good quiet h other there own fits kept = turn_event s goal mine past w new t n own there good h fits kept
acting_keeps (event.Deliver t) s goal mine past w new good quiet h other there own fits kept = absurd (other tt)
acting_keeps (event.Depart p l) s goal mine past w new good quiet h other there own fits kept = absurd (other tt)
acting_keeps (event.Arrive l p) s goal mine past w new good quiet h other there own fits kept = absurd (other tt)
acting_keeps (event.Route p) s goal mine past w new good quiet h other there own fits kept = absurd (other tt)
acting_keeps event.HostPut s goal mine past w new good quiet h other there own fits kept = put_event s goal mine past w new own good h fits kept
acting_keeps event.HostTake s goal mine past w new good quiet h other there own fits kept = take_event s goal mine past w new there good h kept
acting_keeps (event.Report p) s goal mine past w new good quiet h other there own fits kept =
    with_no_acts s goal mine past (event_acts (event.Report p) w) w new (no_acts (event.Report p) w (nat_lt p.0 (visited w.shape)) p.0 (λ low high. refl)) (paired_keeps s goal mine past w new p.0 _ _ good (λ value. whitened_same goal) (report_paired p w new good quiet h) kept)
acting_keeps event.Begin s goal mine past w new good quiet h other there own fits kept =
    let a = alone event.Begin deed.Begin w new good h refl in
    with_no_acts s goal mine past (event_acts event.Begin w) w new (ap (λ o. flat_map step_ends (part_steps (reach_of w) event.Begin o)) a.read) (alone_keeps s goal mine past w new deed.Begin good a kept)
acting_keeps (event.Confirm p) s goal mine past w new good quiet h other there own fits kept =
    with_no_acts s goal mine past (event_acts (event.Confirm p) w) w new (no_acts (event.Confirm p) w (nat_lt p.0 (visited w.shape)) p.0 (λ low high. refl)) (paired_keeps s goal mine past w new p.0 _ _ good (λ value x r. refl) (confirm_paired p w new good quiet h) kept)
acting_keeps event.Announce s goal mine past w new good quiet h other there own fits kept =
    let a = alone event.Announce deed.Announce w new good h refl in
    with_no_acts s goal mine past (event_acts event.Announce w) w new (ap (λ o. flat_map step_ends (part_steps (reach_of w) event.Announce o)) a.read) (alone_keeps s goal mine past w new deed.Announce good a kept)
acting_keeps (event.Release p) s goal mine past w new good quiet h other there own fits kept =
    with_no_acts s goal mine past (event_acts (event.Release p) w) w new (no_acts (event.Release p) w (nat_lt p.0 (visited w.shape)) p.0 (λ low high. refl)) (paired_keeps s goal mine past w new p.0 _ _ good (released_same goal) (release_paired p w new good quiet h) kept)
acting_keeps (event.Go p) s goal mine past w new good quiet h other there own fits kept =
    with_no_acts s goal mine past (event_acts (event.Go p) w) w new (no_acts (event.Go p) w (nat_lt p.0 (visited w.shape)) p.0 (λ low high. refl)) (paired_keeps s goal mine past w new p.0 _ _ good (λ value. going_same goal) (go_paired p w new good quiet h) kept)
