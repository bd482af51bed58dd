-- A turn hands as many letters as then wait no more, but for those that were dropped. No other event hands a letter.
use Rattle.std.proofs.Common.{ℕ, zero, suc, ◌+◌, ◌-◌, ◌≡◌, ◌≤◌, ◌∙◌, true, cond, List, [], ◌∷◌, ◌++◌, length, get_or, set, refl, sym, ap, arith, Option, Some, None, is_some, option_map, unwrap_or}
use Rattle.std.specs.Prelude.{⊤, count_by, map, option_and_then, slice_get}
use Rattle.std.specs.List.{filter}
use Rattle.std.proofs.lemmas.List.Sums.{sum_by-append}
use Rattle.tn_base.specs.declared.event.Event.{Event}
use Rattle.tn_base.specs.declared.event.Event.TheVariants as event
use Rattle.tn_base.specs.declared.ids.ThreadId.{ThreadId}
use Rattle.tn_base.specs.declared.message.Letter.{Letter}
use Rattle.tn_base.specs.declared.message.Packet.{Packet}
use Rattle.tn_base.specs.declared.op.Op.{Op}
use Rattle.tn_base.specs.declared.op.Op.TheVariants as op
use Rattle.tn_base.specs.declared.port.Port.{Port}
use Rattle.tn_base.specs.declared.port.Port.TheVariants as port
use Rattle.tn_base.specs.Address.{place_in_tile}
use Rattle.tn_base.specs.Ports.{tile_port}
use Rattle.tn_host.specs.declared.script.ScriptItem.{ScriptItem}
use Rattle.tn_host.specs.declared.script.ScriptItem.TheVariants as item
use Rattle.tn_host.specs.Script.{first_item}
use Rattle.tn_keys.specs.Reach.{Reach}
use Rattle.tn_slots.specs.Pool.{queue_at, taken_from}
use Rattle.tn_slots.specs.PoolModel.{PoolModel}
use Rattle.tn_slots.specs.Queues.{first_of}
use Rattle.tn_tile.specs.declared.state.TileState.{TileState}
use Rattle.tn_tile.specs.Step.{can_step, pending_at, step_at_place, stepped, steps_of}
use Rattle.tn_tile.specs.TileView.{TileView, with_now}
use Rattle.tn_tile.proofs.Steps.{taken}
use Rattle.tn_tile.proofs.Turns.{turn_tests}
use Rattle.tn_rows.specs.Events.{carried, happened, with_part}
use Rattle.tn_rows.specs.PartView.{PartView, TileV, RouterV, LinkV, HostV, DetectorV, AbsentV}
use Rattle.tn_rows.specs.Places.{Places, Nowhere, One, Two, at_part, places}
use Rattle.tn_rows.specs.WorldView.{WorldView}
use Rattle.tn_letters.specs.declared.steps.BagStep.{BagStep}
use Rattle.tn_letters.specs.declared.steps.BagStep.TheVariants as bag
use Rattle.tn_letters.specs.Letters.{packet_letters}
use Rattle.tn_letters.specs.Steps.{after_step, arrival_steps, delivery_steps, detector_steps, dropped_at, dropped_by, event_steps, first_letter, is_for_dead, meeting_steps, part_steps, put_steps, queued, seen_at, send_steps, step_by, steps_at, take_steps, taking_steps, thread_step, tile_steps, turn_steps}
use Rattle.tn_letters.specs.Tiles.{host_in, reach_of}
use Rattle.tn_letters.proofs.Simulate.{next, op_fits}
use Rattle.polite_log.specs.Reading.{home}
use Rattle.polite_log.specs.Summary.{is_hand}
use Rattle.polite_log.specs.Waiting.{gone_or_waiting, waiting_by, waiting_in}
use Rattle.polite_log.proofs.Making.{home_is, put_there, turn_at}

-- ---- a step

-- what a queue is after it was written, where there is such a queue
written : (qs : List (List ℕ)) (k s : ℕ) (rest : List ℕ) → get_or qs k [] ≡ s ∷ rest → get_or (set qs k rest) k [] ≡ rest
written [] k s rest e = cc e
written (q ∷ qs) zero s rest e = refl
written (q ∷ qs) (suc k) s rest e = written qs k s rest e

emptied : (qs : List (List ℕ)) (k : ℕ) → get_or (set qs k []) k [] ≡ []
emptied [] k = refl
emptied (q ∷ qs) zero = refl
emptied (q ∷ qs) (suc k) = emptied qs k

none_more : (n : ℕ) → 0 + n ≡ n
none_more n = omega arith

-- the letters that are dropped with a step are not handed
none_dropped : (ls : List Letter) → count_by is_hand (map bag.Discard ls) ≡ 0
none_dropped [] = refl
none_dropped (l ∷ ls) = none_dropped ls

hand_sum : (m d n : ℕ) → n ≡ m → (1 + 0) + (n + d) ≡ suc m + d
hand_sum m d n e = omega (arith, e)

hand_keeps : (q : List ℕ) (p : PoolModel) (k d : ℕ) → queue_at p k ≡ q → is_some (first_of q) ≡ true → (1 + 0) + (length (queue_at (taken_from k q p) k) + d) ≡ length q + d
hand_keeps [] p k d e some = cc some
hand_keeps (s ∷ rest) p k d e some = hand_sum (length rest) d (length (get_or (set p.queues k rest) k [])) (ap length (written p.queues k s rest e))

kill_sum : (c n m d : ℕ) → c ≡ 0 → n ≡ 0 → c + (n + (d + m)) ≡ m + d
kill_sum c n m d e f = omega (arith, e, f)

step_keeps : (a k : ℕ) (v : TileView) (o : Op) → can_step v.plan.shape.fuel k v.now ≡ true → (step_at_place v.plan.code k v.now).op ≡ o →
    count_by is_hand (step_by a (seen_at v k) (first_letter v k) o ∷ dropped_by (queued v k) o) + gone_or_waiting k (next v k o) ≡ gone_or_waiting k v.now
step_keeps a k v op.None can e = none_more (gone_or_waiting k v.now)
step_keeps a k v (op.Send to bytes) can e = none_more (gone_or_waiting k v.now)
step_keeps a k v op.Hand can e = hand_keeps (queue_at v.now.pool k) v.now.pool k v.now.dropped refl (op_fits v k op.Hand can e)
step_keeps a k v (op.Free slot) can e = none_more (gone_or_waiting k v.now)
step_keeps a k v (op.Idle vote) can e = none_more (gone_or_waiting k v.now)
step_keeps a k v (op.Kill value) can e =
    kill_sum (count_by is_hand (map bag.Discard (queued v k))) (length (get_or (set v.now.pool.queues k []) k [])) (length (queue_at v.now.pool k)) v.now.dropped (none_dropped (queued v k)) (ap length (emptied v.now.pool.queues k))
step_keeps a k v (op.Trap why) can e = none_more (gone_or_waiting k v.now)

-- ---- a turn

turn_sum : (h r u m w all : ℕ) → all ≡ h + r → r + u ≡ m → h + m ≡ w → all + u ≡ w
turn_sum h r u m w all e f g = omega (arith, e, f, g)

turn_keeps : (n a k : ℕ) (v : TileView) (new : TileState) → steps_of v.plan k n v.now ≡ Some new → count_by is_hand (turn_steps a k n v) + gone_or_waiting k new ≡ gone_or_waiting k v.now
unfolding steps_of turn_steps
turn_keeps zero a k v new e = none_more (gone_or_waiting k new) ∙ ap (λ (o : Option TileState). gone_or_waiting k (unwrap_or o new)) (sym e)
turn_keeps (suc n) a k v new e =
    let first = taken (can_step v.plan.shape.fuel k v.now) (steps_of v.plan k n (stepped v.plan.code k v.now)) new e in
    turn_sum (count_by is_hand (thread_step a k v)) (count_by is_hand (turn_steps a k n (after_step k v))) (gone_or_waiting k new) (gone_or_waiting k (stepped v.plan.code k v.now)) (gone_or_waiting k v.now)
    (count_by is_hand (thread_step a k v ++ turn_steps a k n (after_step k v)))
    (sum_by-append (λ (s : BagStep). cond (is_hand s) 1 0) (thread_step a k v) (turn_steps a k n (after_step k v)))
    (turn_keeps n a k (after_step k v) new first.1)
    (step_keeps a k v (step_at_place v.plan.code k v.now).op first.0 refl)

waiting_is : (t : ThreadId) (w : WorldView) (v : TileView) → home w t ≡ Some v → waiting_in t w ≡ gone_or_waiting (place_in_tile v.plan.shape t.0) v.now
waiting_is t w v e = ap (λ (o : Option TileView). unwrap_or (option_map (λ (x : TileView). gone_or_waiting (place_in_tile x.plan.shape t.0) x.now) o) 0) e

event_turn : (t : ThreadId) (n : ℕ) (w new : WorldView) → happened (event.Turn t n) w ≡ Some new → count_by is_hand (event_steps (event.Turn t n) w) + waiting_in t new ≡ waiting_in t w
event_turn t n w new h =
    let a = turn_at t n w new h in
    let tests = turn_tests a.tile.plan t.0 n a.tile.now a.made a.row in
    let k : ℕ = place_in_tile a.tile.plan.shape t.0 in
    let x : TileView = with_now a.tile a.made in
    let mid : WorldView = with_part w a.part (TileV x) in
    let there = put_there w a.part (TileV a.tile) (TileV x) a.tile_is in
    let later : waiting_in t new ≡ gone_or_waiting k a.made = ap (waiting_in t) a.end_is ∙ waiting_is t mid x (home_is t mid a.part x a.part_is there tests.here) in
    let before : waiting_in t w ≡ gone_or_waiting k a.tile.now = waiting_is t w a.tile (home_is t w a.part a.tile a.part_is a.tile_is tests.here) in
    let steps : event_steps (event.Turn t n) w ≡ turn_steps t.0 k n a.tile =
    ap (λ o. steps_at (event.Turn t n) w (at_part o)) a.part_is ∙ ap (part_steps (reach_of w) (event.Turn t n)) a.tile_is in
    ap (λ s. count_by is_hand s + waiting_in t new) steps
    ∙ (ap (λ j. count_by is_hand (turn_steps t.0 k n a.tile) + j) later
    ∙ (turn_keeps n t.0 k a.tile a.made tests.steps ∙ sym before))

-- ---- another event

abbrev IsNoTurn : Event → Type 0
IsNoTurn (event.Turn t n) = ⊥
IsNoTurn _ = ⊤

dropped_none : (to : Port) (reach : Reach) (p : Packet) (v : TileView) → count_by is_hand (dropped_at to reach p v) ≡ 0
dropped_none port.Here reach p v = none_dropped (filter (is_for_dead v) (packet_letters v.plan.shape reach p))
dropped_none port.East reach p v = refl
dropped_none port.West reach p v = refl
dropped_none port.South reach p v = refl
dropped_none port.North reach p v = refl
dropped_none port.Up reach p v = refl
dropped_none port.Down reach p v = refl
dropped_none port.HostPort reach p v = refl

delivery_none : (reach : Reach) (o : Option Packet) (v : TileView) → count_by is_hand (delivery_steps reach o v) ≡ 0
delivery_none reach None v = refl
delivery_none reach (Some p) v = dropped_none (tile_port v.plan.tile p.dest) reach p v

tile_none : (e : Event) (reach : Reach) (v : TileView) → IsNoTurn e → count_by is_hand (tile_steps reach e v) ≡ 0
tile_none (event.Turn t n) reach v x = absurd x
tile_none (event.Deliver t) reach v x = delivery_none reach (pending_at v.now (place_in_tile v.plan.shape t.0)) v
tile_none (event.Depart p l) reach v x = refl
tile_none (event.Arrive l p) reach v x = refl
tile_none (event.Route p) reach v x = refl
tile_none event.HostPut reach v x = refl
tile_none event.HostTake reach v x = refl
tile_none (event.Report p) reach v x = refl
tile_none event.Begin reach v x = refl
tile_none (event.Confirm p) reach v x = refl
tile_none event.Announce reach v x = refl
tile_none (event.Release p) reach v x = refl
tile_none (event.Go p) reach v x = refl

detector_none : (e : Event) → count_by is_hand (detector_steps e) ≡ 0
detector_none (event.Turn t n) = refl
detector_none (event.Deliver t) = refl
detector_none (event.Depart p l) = refl
detector_none (event.Arrive l p) = refl
detector_none (event.Route p) = refl
detector_none event.HostPut = refl
detector_none event.HostTake = refl
detector_none (event.Report p) = refl
detector_none event.Begin = refl
detector_none (event.Confirm p) = refl
detector_none event.Announce = refl
detector_none (event.Release p) = refl
detector_none (event.Go p) = refl

part_none : (e : Event) (reach : Reach) (o : Option PartView) → IsNoTurn e → count_by is_hand (part_steps reach e o) ≡ 0
part_none e reach None x = refl
part_none e reach (Some (TileV v)) x = tile_none e reach v x
part_none e reach (Some (RouterV v)) x = refl
part_none e reach (Some (LinkV v)) x = refl
part_none e reach (Some (HostV s)) x = refl
part_none e reach (Some (DetectorV v)) x = detector_none e
part_none e reach (Some AbsentV) x = refl

taking_none : (reach : Reach) (o : Option Packet) (part : PartView) → count_by is_hand (taking_steps reach o part) ≡ 0
taking_none reach o (TileV v) = delivery_none reach o v
taking_none reach o (RouterV v) = refl
taking_none reach o (LinkV v) = refl
taking_none reach o (HostV s) = refl
taking_none reach o (DetectorV v) = refl
taking_none reach o AbsentV = refl

arrival_none : (reach : Reach) (o : Option Packet) (low : Option PartView) → count_by is_hand (arrival_steps reach o low) ≡ 0
arrival_none reach o None = refl
arrival_none reach o (Some part) = taking_none reach o part

send_none : (number : ℕ) (o : Option ScriptItem) → count_by is_hand (send_steps number o) ≡ 0
send_none number None = refl
send_none number (Some (item.Send t bytes)) = refl
send_none number (Some item.AwaitIdle) = refl

put_none : (low : Option PartView) → count_by is_hand (put_steps low) ≡ 0
put_none None = refl
put_none (Some part) = send_none (host_in part).sends (first_item (host_in part).script)

take_none : (o : Option Packet) → count_by is_hand (take_steps o) ≡ 0
take_none None = refl
take_none (Some p) = refl

meeting_none : (e : Event) (reach : Reach) (low high : Option PartView) → count_by is_hand (meeting_steps reach e low high) ≡ 0
meeting_none (event.Turn t n) reach low high = refl
meeting_none (event.Deliver t) reach low high = refl
meeting_none (event.Depart p l) reach low high = refl
meeting_none (event.Arrive l p) reach low high = arrival_none reach (option_and_then carried high) low
meeting_none (event.Route p) reach low high = refl
meeting_none event.HostPut reach low high = put_none low
meeting_none event.HostTake reach low high = take_none (option_and_then carried high)
meeting_none (event.Report p) reach low high = refl
meeting_none event.Begin reach low high = refl
meeting_none (event.Confirm p) reach low high = refl
meeting_none event.Announce reach low high = refl
meeting_none (event.Release p) reach low high = refl
meeting_none (event.Go p) reach low high = refl

at_none : (e : Event) (w : WorldView) (o : Places) → IsNoTurn e → count_by is_hand (steps_at e w o) ≡ 0
at_none e w Nowhere x = refl
at_none e w (One p) x = part_none e (reach_of w) (slice_get w.parts p) x
at_none e w (Two p q) x = meeting_none e (reach_of w) (slice_get w.parts p) (slice_get w.parts q)

other : (e : Event) (w : WorldView) → IsNoTurn e → count_by is_hand (event_steps e w) + 0 ≡ 0
other e w x = ap (λ n. n + 0) (at_none e w (places w.shape e) x)

-- what an event hands and what is left of the letters of its thread are what was there
event_keeps : (e : Event) (w new : WorldView) → happened e w ≡ Some new → count_by is_hand (event_steps e w) + waiting_by e new ≡ waiting_by e w
event_keeps (event.Turn t n) w new h = event_turn t n w new h
event_keeps (event.Deliver t) w new h = other (event.Deliver t) w tt
event_keeps (event.Depart p l) w new h = other (event.Depart p l) w tt
event_keeps (event.Arrive l p) w new h = other (event.Arrive l p) w tt
event_keeps (event.Route p) w new h = other (event.Route p) w tt
event_keeps event.HostPut w new h = other event.HostPut w tt
event_keeps event.HostTake w new h = other event.HostTake w tt
event_keeps (event.Report p) w new h = other (event.Report p) w tt
event_keeps event.Begin w new h = other event.Begin w tt
event_keeps (event.Confirm p) w new h = other (event.Confirm p) w tt
event_keeps event.Announce w new h = other event.Announce w tt
event_keeps (event.Release p) w new h = other (event.Release p) w tt
event_keeps (event.Go p) w new h = other (event.Go p) w tt

-- what was read before an event and after it is what the event hands
pub handed : (e : Event) (w new : WorldView) (before after : ℕ) → happened e w ≡ Some new → before ≡ waiting_by e w → after ≡ waiting_by e new → (after ≤ before) × (before - after ≡ count_by is_hand (event_steps e w))
handed e w new before after h b a =
    let keeps = event_keeps e w new h in (omega (arith, keeps, a, b), omega (arith, keeps, a, b))
