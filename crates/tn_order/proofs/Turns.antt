-- What each event hands comes in turn.
use Rattle.std.proofs.Common.{ℕ, ◌≡◌, Bool, true, false, refl, sym, ◌∙◌, ap, subst, List, [], ◌∷◌, ◌++◌, map, slice_get, Option, Some, None, unwrap_or}
use Rattle.std.specs.List.{AllByRecursion, filter, flat_map}
use Rattle.tn_base.specs.declared.event.Event.{Event}
use Rattle.tn_base.specs.declared.event.Event.TheVariants as event
use Rattle.tn_base.specs.declared.ids.ThreadId.{ThreadId}
use Rattle.tn_base.specs.declared.message.Dest.{Dest}
use Rattle.tn_base.specs.declared.message.Dest.TheVariants as dest
use Rattle.tn_base.specs.declared.message.Letter.{Letter}
use Rattle.tn_base.specs.declared.message.Packet.{Packet}
use Rattle.tn_base.specs.declared.port.Port.{Port}
use Rattle.tn_base.specs.declared.port.Port.TheVariants as port
use Rattle.tn_base.specs.declared.shape.ShapeNumbers.{ShapeNumbers}
use Rattle.tn_base.specs.Address.{place_in_tile}
use Rattle.tn_base.specs.Ports.{tile_port}
use Rattle.tn_host.specs.declared.script.ScriptItem.{ScriptItem}
use Rattle.tn_host.specs.declared.script.ScriptItem.TheVariants as item
use Rattle.tn_host.specs.Script.{first_item}
use Rattle.tn_keys.specs.Reach.{Reach}
use Rattle.tn_rows.specs.PartView.{PartView, TileV, RouterV, LinkV, HostV, DetectorV, AbsentV}
use Rattle.tn_rows.specs.Places.{at_part, two_if}
use Rattle.tn_rows.specs.WorldView.{WorldView}
use Rattle.tn_tile.specs.Step.{pending_at, steps_of}
use Rattle.tn_tile.specs.TileView.{TileView}
use Rattle.tn_tile.proofs.Steps.{taken}
use Rattle.tn_letters.specs.declared.steps.BagStep.TheVariants as bag
use Rattle.tn_letters.specs.Letters.{packet_letters}
use Rattle.tn_letters.specs.Steps.{arrival_steps, delivery_steps, dropped_at, is_for_dead, meeting_steps, part_steps, put_steps, send_steps, steps_at}
use Rattle.tn_letters.specs.Tiles.{host_in, reach_of}
use Rattle.tn_letters.proofs.Lift.{part_is}
use Rattle.tn_letters.proofs.Simulate.{Place}
use Rattle.tn_order.specs.Acts.{Act, Sent, Handed, Dropped, AmongActs}
use Rattle.tn_order.specs.History.{behind, step_ends, turn_acts}
use Rattle.tn_order.proofs.Sending.{AreGood}
use Rattle.std.proofs.Common.{zero, suc, cond}
use Rattle.tn_base.specs.declared.op.Op.{Op}
use Rattle.tn_base.specs.declared.op.Op.TheVariants as op
use Rattle.tn_base.specs.Shape.{WithinLimits}
use Rattle.tn_slots.specs.Pool.{queue_at}
use Rattle.tn_slots.specs.Queues.{first_of}
use Rattle.tn_tile.specs.declared.state.TileState.{TileState}
use Rattle.tn_tile.specs.Step.{can_step, step_at_place, stepped, thread_at}
use Rattle.tn_letters.specs.Steps.{after_step, first_letter, queued}
use Rattle.tn_letters.specs.Tiles.{letter_in, sender_at}
use Rattle.tn_letters.proofs.Lift.{on_new, tile_on, with_tile}
use Rattle.tn_letters.proofs.Simulate.{address_is, op_fits}
use Rattle.tn_letters.proofs.Threads.{step_reached}
use Rattle.tn_order.specs.Acts.{ComesInTurn, InOrder}
use Rattle.tn_order.specs.History.{gone_of, receiver_of, sent_of, step_acts}
use Rattle.tn_order.specs.Kept.{world_of}
use Rattle.tn_order.specs.Moving.{IsReceiver}
use Rattle.tn_order.specs.Spots.{Item, NextSpot, Queue, Spot, numbers, slot_item, standing_at, way_of}
use Rattle.tn_order.proofs.Acting.{behind_join}
use Rattle.tn_order.proofs.Choosing.{Tidy, acts_fit, among_later, among_sent, chosen, gone_ended, is_chosen, order_join, own_chosen}
use Rattle.tn_order.proofs.Keeps.{earlier_is_gone}
use Rattle.tn_order.proofs.OtherEvents.{send_fits}
use Rattle.tn_order.proofs.SpotNet.{spot_net}
use Rattle.tn_order.proofs.Stamps.{stamps}
use Rattle.tn_order.proofs.Turning.{Sits, acts_by, hands_first, own_was, step_keeps}
use Rattle.tn_order.proofs.Views.{was_part}

-- an act that is no hand
abbrev pub NoHand : Act → Type 0
NoHand (Sent t k to) = Unit {0}
NoHand (Handed t k a) = ⊥
NoHand (Dropped t k a) = Unit {0}

pub unhanded_order : (xs past : List Act) → AllByRecursion NoHand xs → InOrder past xs
unhanded_order [] past h = tt
unhanded_order (Sent t k to ∷ xs) past h = (tt, unhanded_order xs (Sent t k to ∷ past) h.1)
unhanded_order (Handed t k a ∷ xs) past h = absurd h.0
unhanded_order (Dropped t k a ∷ xs) past h = (tt, unhanded_order xs (Dropped t k a ∷ past) h.1)

-- ---- events that hand nothing

drops_unhanded : (ls : List Letter) → AllByRecursion NoHand (flat_map step_ends (map bag.Discard ls))
drops_unhanded [] = tt
drops_unhanded (l ∷ ls) = (tt, drops_unhanded ls)

way_unhanded : (way : Port) (reach : Reach) (k : Packet) (v : TileView) → AllByRecursion NoHand (flat_map step_ends (dropped_at way reach k v))
way_unhanded port.Here reach k v = drops_unhanded (filter (is_for_dead v) (packet_letters v.plan.shape reach k))
way_unhanded port.East reach k v = tt
way_unhanded port.West reach k v = tt
way_unhanded port.South reach k v = tt
way_unhanded port.North reach k v = tt
way_unhanded port.Up reach k v = tt
way_unhanded port.Down reach k v = tt
way_unhanded port.HostPort reach k v = tt

delivery_unhanded : (reach : Reach) (o : Option Packet) (v : TileView) → AllByRecursion NoHand (flat_map step_ends (delivery_steps reach o v))
delivery_unhanded reach None v = tt
delivery_unhanded reach (Some k) v = way_unhanded (tile_port v.plan.tile k.dest) reach k v

part_unhanded : (reach : Reach) (a : ThreadId) (o : Option PartView) → AllByRecursion NoHand (flat_map step_ends (part_steps reach (event.Deliver a) o))
part_unhanded reach a None = tt
part_unhanded reach a (Some (TileV v)) = delivery_unhanded reach (pending_at v.now (place_in_tile v.plan.shape a.0)) v
part_unhanded reach a (Some (RouterV v)) = tt
part_unhanded reach a (Some (LinkV v)) = tt
part_unhanded reach a (Some (HostV h)) = tt
part_unhanded reach a (Some (DetectorV v)) = tt
part_unhanded reach a (Some AbsentV) = tt

pub deliver_unhanded : (w : WorldView) (a : ThreadId) (o : Option ℕ) → AllByRecursion NoHand (flat_map step_ends (steps_at (event.Deliver a) w (at_part o)))
deliver_unhanded w a None = tt
deliver_unhanded w a (Some p) = part_unhanded (reach_of w) a (slice_get w.parts p)

pub arrival_unhanded : (reach : Reach) (k : Option Packet) (o : Option PartView) → AllByRecursion NoHand (flat_map step_ends (arrival_steps reach k o))
arrival_unhanded reach k None = tt
arrival_unhanded reach k (Some (TileV v)) = delivery_unhanded reach k v
arrival_unhanded reach k (Some (RouterV v)) = tt
arrival_unhanded reach k (Some (LinkV v)) = tt
arrival_unhanded reach k (Some (HostV h)) = tt
arrival_unhanded reach k (Some (DetectorV v)) = tt
arrival_unhanded reach k (Some AbsentV) = tt

pub arrive_unhanded : (w : WorldView) (e : Event) (b : Bool) (p q : ℕ) → ((low high : Option PartView) → AllByRecursion NoHand (flat_map step_ends (meeting_steps (reach_of w) e low high))) → AllByRecursion NoHand (flat_map step_ends (steps_at e w (two_if b p q)))
arrive_unhanded w e true p q h = h (slice_get w.parts p) (slice_get w.parts q)
arrive_unhanded w e false p q h = tt

pub none_unhanded : (acts : List Act) → acts ≡ [] → AllByRecursion NoHand acts
none_unhanded acts e = subst (AllByRecursion NoHand) (sym e) tt

pub begin_none : (reach : Reach) (o : Option PartView) → flat_map step_ends (part_steps reach event.Begin o) ≡ []
begin_none reach None = refl
begin_none reach (Some (TileV v)) = refl
begin_none reach (Some (RouterV v)) = refl
begin_none reach (Some (LinkV v)) = refl
begin_none reach (Some (HostV h)) = refl
begin_none reach (Some (DetectorV v)) = refl
begin_none reach (Some AbsentV) = refl

pub announce_none : (reach : Reach) (o : Option PartView) → flat_map step_ends (part_steps reach event.Announce o) ≡ []
announce_none reach None = refl
announce_none reach (Some (TileV v)) = refl
announce_none reach (Some (RouterV v)) = refl
announce_none reach (Some (LinkV v)) = refl
announce_none reach (Some (HostV h)) = refl
announce_none reach (Some (DetectorV v)) = refl
announce_none reach (Some AbsentV) = refl

-- what the host puts
put_unhanded : (number : ℕ) (o : Option ScriptItem) → AllByRecursion NoHand (flat_map step_ends (send_steps number o))
put_unhanded number None = tt
put_unhanded number (Some (item.Send t bytes)) = (tt, tt)
put_unhanded number (Some item.AwaitIdle) = tt

pub puts_unhanded : (o : Option PartView) → AllByRecursion NoHand (flat_map step_ends (put_steps o))
puts_unhanded None = tt
puts_unhanded (Some x) = put_unhanded (host_in x).sends (first_item (host_in x).script)

-- ---- a letter is handed at the end of its way

-- the order is kept for each sender and each receiver, by what was done and what is ever done
abbrev pub AllSit : List Act → List Act → WorldView → WorldView → Type 0
AllSit all past at w = (s : ℕ) (goal : Dest) → IsReceiver at.shape goal → Sits s goal (chosen s (receiver_of goal) all) past at w

pub in_turn : (s n : ℕ) (goal : Dest) (past all : List Act) (w : WorldView) (p : Spot) (i : Item) (rest : List Item) → WithinLimits w.shape → Tidy all → ((x : Act) → AmongActs x past → AmongActs x all) → Sits s goal (chosen s (receiver_of goal) all) past w w → ((q : Spot) → NextSpot w.shape goal p q → ⊥) →
    standing_at goal w p ≡ i ∷ rest → i.origin ≡ s → i.number ≡ n → ComesInTurn past (Handed s n (receiver_of goal))
in_turn s n goal past all w p i rest limits tidy sub sits out at_spot origin number m d e sent_n names_n sent_m names_m less =
    let mine : ℕ → ℕ → Bool = chosen s (receiver_of goal) all in
    let mine_n = is_chosen s (receiver_of goal) n d all tidy (sub _ sent_n) names_n in
    let mine_m = is_chosen s (receiver_of goal) m e all tidy (sub _ sent_m) names_m in
    let meant : mine i.origin i.number ≡ true = ap (λ z. mine z i.number) origin ∙ (ap (mine s) number ∙ mine_n) in
    let first : numbers mine (standing_at goal w p) ≡ n ∷ numbers mine rest = ap (numbers mine) at_spot ∙ (ap (λ b. cond b (i.number ∷ numbers mine rest) (numbers mine rest)) meant ∙ ap (λ z. z ∷ numbers mine rest) number) in
    gone_ended mine (receiver_of goal) s m past (own_chosen s (receiver_of goal) all)
    (earlier_is_gone (way_of w.shape s goal) (world_of mine (standing_at goal w) (sent_of mine past) (gone_of mine (receiver_of goal) past)) p m n (numbers mine rest) (spot_net w.shape s goal limits) sits.order out first (among_sent mine past s m e mine_m sent_m) less)

-- ---- a step of a thread

step_order : (past all : List Act) (w : WorldView) (p a k : ℕ) (v : TileView) (o : Op) → Place w p v a k → can_step v.plan.shape.fuel k v.now ≡ true → (step_at_place v.plan.code k v.now).op ≡ o → Tidy all → ((x : Act) → AmongActs x past → AmongActs x all) → AllSit all past w w → InOrder past (acts_by a k v o)
step_order past all w p a k v op.None c can e tidy sub all_sit = tt
step_order past all w p a k v (op.Send to bytes) c can e tidy sub all_sit = (tt, tt)
step_order past all w p a k v (op.Free slot) c can e tidy sub all_sit = tt
step_order past all w p a k v (op.Idle vote) c can e tidy sub all_sit = tt
step_order past all w p a k v (op.Trap why) c can e tidy sub all_sit = tt
step_order past all w p a k v (op.Kill value) c can e tidy sub all_sit = unhanded_order _ past (drops_unhanded (queued v k))
step_order past all w p a k v op.Hand c can e tidy sub all_sit =
    let t : ThreadId = record { 0 = a } in
    let goal : Dest = dest.Thread t in
    let good = tile_on w p v c.good c.on in
    let f = hands_first v k (queue_at v.now.pool k) refl (op_fits v k op.Hand can e) in
    let same : first_letter v k ≡ letter_in v k f.slot = ap (λ q. letter_in v k (unwrap_or (first_of q) 0)) f.is in
    let place : place_in_tile v.plan.shape a ≡ k = ap (λ n. place_in_tile n a) good.shape ∙ c.stands.place in
    let there : standing_at goal w Queue ≡ slot_item goal (sender_at v f.slot) ∷ stamps goal v.now.senders f.rest =
    was_part goal w p (TileV v) Queue c.on.is (part_is w p a k v c.good c.on c.stands) ∙ (own_was goal v t k refl place ∙ ap (stamps goal v.now.senders) f.is) in
    let turn = in_turn (sender_at v f.slot).origin (sender_at v f.slot).number goal past all w Queue (slot_item goal (sender_at v f.slot)) (stamps goal v.now.senders f.rest) c.good.limits tidy sub (all_sit (sender_at v f.slot).origin goal c.stands.there) (λ q h. h) there refl refl in (
      subst (λ (l : Letter). ComesInTurn past (Handed l.origin l.number l.receiver)) (sym same)
          (subst (λ r. ComesInTurn past (Handed (sender_at v f.slot).origin (sender_at v f.slot).number r)) (sym (address_is w p a k v c)) turn),
      tt,
    )

-- ---- a turn

pub sub_of : (x : Act) (xs rest past all : List Act) → all ≡ behind rest (behind xs past) → AmongActs x past → AmongActs x all
sub_of x xs rest past all is i = subst (AmongActs x) (sym is) (among_later x rest (behind xs past) (among_later x xs past i))

pub good_first : (n : ShapeNumbers) (xs ys past : List Act) → AreGood n past (xs ++ ys) → AreGood n past xs
good_first n [] ys past g = tt
good_first n (x ∷ xs) ys past g = (g.0, good_first n xs ys (x ∷ past) g.1)

pub good_rest : (n : ShapeNumbers) (xs ys past : List Act) → AreGood n past (xs ++ ys) → AreGood n (behind xs past) ys
good_rest n [] ys past g = g
good_rest n (x ∷ xs) ys past g = good_rest n xs ys (x ∷ past) g.1

pub turn_order : (n : ℕ) (past rest all : List Act) (w : WorldView) (p a k : ℕ) (v : TileView) (new : TileState) → Place w p v a k → steps_of v.plan k n v.now ≡ Some new → Tidy all → all ≡ behind rest (behind (turn_acts a k n v) past) → AreGood w.shape past (turn_acts a k n v) → AllSit all past w w → InOrder past (turn_acts a k n v)
unfolding steps_of turn_acts
turn_order zero past rest all w p a k v new c is tidy whole good sit = tt
turn_order (suc n) past rest all w p a k v new c is tidy whole good sit =
    let first = taken (can_step v.plan.shape.fuel k v.now) (steps_of v.plan k n (stepped v.plan.code k v.now)) new is in
    let xs : List Act = step_acts a k v in
    let ys : List Act = turn_acts a k n (after_step k v) in
    let mid : WorldView = with_tile w p (after_step k v) in
    let one = step_reached (λ b. []) [] w p a k v c first.0 in
    let there : Place mid p (after_step k v) a k = record { good = one.good; on = on_new w p v (after_step k v) c.on; stands = record { there = c.stands.there; tile = c.stands.tile; place = c.stands.place } } in
    let split : all ≡ behind rest (behind ys (behind xs past)) = whole ∙ ap (behind rest) (behind_join xs ys past) in
    let here = good_first w.shape xs ys past good in
    let next : AllSit all (behind xs past) w mid = λ s goal receiver.
    let fit = acts_fit w.shape goal s xs (ys ++ rest) past all c.good.limits receiver tidy (split ∙ sym (behind_join ys rest (behind xs past))) here in
    step_keeps s goal (chosen s (receiver_of goal) all) past w p a k v (spot_net w.shape s goal c.good.limits) receiver c first.0
    (record { own = own_chosen s (receiver_of goal) all; right = λ to bytes e meant. send_fits w.shape goal (chosen s (receiver_of goal) all) past _ a (thread_at v.now k).sends (step_at_place v.plan.code k v.now).op to bytes e fit meant })
    (sit s goal receiver) in
    order_join xs ys past
    (step_order past all w p a k v (step_at_place v.plan.code k v.now).op c first.0 refl tidy (λ x i. sub_of x xs (ys ++ rest) past all (split ∙ sym (behind_join ys rest (behind xs past))) i) sit)
    (turn_order n (behind xs past) rest all mid p a k (after_step k v) new there first.1 tidy split (good_rest w.shape xs ys past good) next)
