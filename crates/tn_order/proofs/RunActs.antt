-- What the steps of a run of the bag machine do is what the events of its history do.
use Rattle.std.proofs.Common.{ℕ, zero, suc, ◌≡◌, ◌∙◌, List, [], ◌∷◌, ◌++◌, map, refl, sym, ap, subst, Option, Some, option_map, unwrap_or, append_assoc}
use Rattle.std.specs.Prelude.{◌&&◌, nat_le}
use Rattle.std.specs.List.{AllByRecursion, flat_map}
use Rattle.tn_base.specs.declared.event.Event.{Event}
use Rattle.tn_base.specs.declared.event.Event.TheVariants as event
use Rattle.tn_base.specs.declared.ids.ThreadId.{ThreadId}
use Rattle.tn_base.specs.declared.message.Letter.{Letter}
use Rattle.tn_base.specs.declared.op.Op.{Op}
use Rattle.tn_base.specs.declared.op.Op.TheVariants as op
use Rattle.tn_base.specs.Address.{place_in_tile}
use Rattle.tn_base.proofs.Places.{orders_threads}
use Rattle.tn_quiet.specs.Law.{IsQuietWorld}
use Rattle.tn_quiet.proofs.Machines.{by_thread}
use Rattle.tn_quiet.proofs.Runs.{event_quiet}
use Rattle.tn_rows.proofs.Meeting.{mapped}
use Rattle.tn_rows.specs.Events.{after, happened}
use Rattle.tn_rows.specs.PartView.{PartView, TileV, RouterV, LinkV, HostV, DetectorV, AbsentV}
use Rattle.tn_rows.specs.Places.{at_part, part_of}
use Rattle.tn_rows.specs.Runs.{Run, Walk}
use Rattle.tn_rows.specs.WorldView.{WorldView}
use Rattle.tn_stamp.specs.declared.entry.Crossing.TheVariants as crossing
use Rattle.tn_thread.specs.declared.thread.Thread.{Thread}
use Rattle.tn_thread.specs.Step.{Stepped}
use Rattle.tn_tile.specs.declared.state.TileState.{TileState}
use Rattle.tn_tile.specs.Rows.{can_count, is_here, turn_row}
use Rattle.tn_tile.specs.Step.{can_step, step_at_place, stepped, steps_of, thread_at}
use Rattle.tn_tile.specs.TileView.{TileView, now_by, with_now}
use Rattle.tn_tile.proofs.Steps.{taken}
use Rattle.tn_letters.specs.declared.steps.BagStep.{BagStep}
use Rattle.tn_letters.specs.declared.steps.BagStep.TheVariants as bag
use Rattle.tn_letters.specs.declared.steps.Seen.{Seen}
use Rattle.tn_letters.specs.Law.{IsBagRun, IsStart}
use Rattle.tn_letters.specs.Machine.{BagRun, Happens, own_step}
use Rattle.tn_letters.specs.Moved.{moved}
use Rattle.tn_letters.specs.Settled.{settled}
use Rattle.tn_letters.specs.Standing.{bag_at}
use Rattle.tn_letters.specs.State.{BagState, Program}
use Rattle.tn_letters.specs.Steps.{after_step, bag_of, dropped_by, event_steps, first_letter, part_steps, queued, seen_at, step_by, steps_at, turn_steps}
use Rattle.tn_letters.specs.Tiles.{program_of, reach_of, thread_in, thread_of, tile_for}
use Rattle.tn_letters.proofs.Agreeing.{Agrees, Listed, agrees_refl, all_moved, moved_agrees, of_same, own_same, run_moves, step_moves, then}
use Rattle.tn_letters.proofs.Arrives.{state}
use Rattle.tn_letters.proofs.AtThread.{At, at_then, moved_at, own_at, step_shows}
use Rattle.tn_letters.proofs.Calm.{quiet_start}
use Rattle.tn_letters.proofs.Carried.{turn_settled}
use Rattle.tn_letters.proofs.EventSteps.{HoldsBeside, event_each}
use Rattle.tn_letters.proofs.GoodParts.{event_good}
use Rattle.tn_letters.proofs.Lift.{Good, OnPart, on_new, part_is, tile_is, with_tile}
use Rattle.tn_letters.proofs.Meaning.{event_arrives}
use Rattle.tn_letters.proofs.Settling.{bag_is}
use Rattle.tn_letters.proofs.Simulate.{Place, own_is, read, shown}
use Rattle.tn_letters.proofs.Starts.{good_start}
use Rattle.tn_letters.proofs.Threads.{step_reached}
use Rattle.tn_letters.proofs.Walks.{on_read, run_walk}
use Rattle.tn_order.specs.Acts.{Act, Sent, Handed, Dropped, InOrder, acts_in, acts_of, acts_of_run, sent_with}
use Rattle.tn_order.specs.History.{EveryRunActsAsItsHistory, EveryRunIsInOrder, event_acts, history_acts, step_acts, step_ends, turn_acts}
use Rattle.tn_order.proofs.Histories.{every_history_is_in_order}
use Rattle.tn_order.proofs.Moving.{here_is}
use Rattle.tn_order.proofs.OtherEvents.{first_of_four}

-- what steps do from a state
abbrev replay_acts : Program → BagState → List BagStep → List Act
replay_acts m s [] = []
replay_acts m s (step ∷ steps) = acts_of m step s ++ replay_acts m (moved m step s) steps

acts_same : (m : Program) (step : BagStep) (x s new : BagState) → Happens m step s new → Agrees m.shape x s → acts_of m step x ≡ acts_of m step s
acts_same m (bag.Private a seen) x s new h e = refl
acts_same m (bag.Send a seen) x s new h e =
    ap (λ (t : Thread). sent_with a t.sends (own_step m a seen x).op) (e.threads a h.0.there)
    ∙ ap (λ (r : Stepped). sent_with a (s.threads a).sends r.op) (own_same m a seen x s e h.0.there)
acts_same m (bag.Hand a seen l) x s new h e = refl
acts_same m (bag.Free a seen slot) x s new h e = refl
acts_same m (bag.Idle a seen vote) x s new h e = refl
acts_same m bag.Announce x s new h e = refl
acts_same m (bag.HostSend l) x s new h e = refl
acts_same m (bag.HostHand l) x s new h e = refl
acts_same m (bag.Discard l) x s new h e = refl

run_acts : (m : Program) (steps : List BagStep) (x s end : BagState) → Listed m.shape → Agrees m.shape x s → (run : BagRun m s steps end) → acts_in m s steps end run ≡ replay_acts m x steps
run_acts m [] x s end o e run = refl
run_acts m (step ∷ steps) x s end o e run =
    let before = then m.shape x s run.0 e (of_same m.shape s run.0 run.2) in
    let after = then m.shape (moved m step x) (moved m step run.0) run.1 (moved_agrees m step x run.0 run.1 o run.3 before) (step_moves m step run.0 run.1 run.3) in
    ap (λ l. acts_of m step run.0 ++ l) (run_acts m steps (moved m step x) run.1 end o after run.4)
    ∙ ap (λ l. l ++ replay_acts m (moved m step x) steps) (sym (acts_same m step x run.0 run.1 run.3 before))

-- ---- a turn

drops : (m : Program) (s : BagState) (ls : List Letter) (rest : List BagStep) → replay_acts m s (map bag.Discard ls ++ rest) ≡ flat_map step_ends (map bag.Discard ls) ++ replay_acts m s rest
drops m s [] rest = refl
drops m s (l ∷ ls) rest = ap (λ z. Dropped l.origin l.number l.receiver ∷ z) (drops m s ls rest)

dropped : (m : Program) (s : BagState) (ls : List Letter) (o : Op) (rest : List BagStep) → replay_acts m s (dropped_by ls o ++ rest) ≡ flat_map step_ends (dropped_by ls o) ++ replay_acts m s rest
dropped m s ls op.None rest = refl
dropped m s ls (op.Send to bytes) rest = refl
dropped m s ls op.Hand rest = refl
dropped m s ls (op.Free slot) rest = refl
dropped m s ls (op.Idle vote) rest = refl
dropped m s ls (op.Kill value) rest = drops m s ls rest
dropped m s ls (op.Trap why) rest = refl

one_step : (m : Program) (a number : ℕ) (seen : Seen) (l : Letter) (o : Op) (x : BagState) → (x.threads a).sends ≡ number → (own_step m a seen x).op ≡ o → acts_of m (step_by a seen l o) x ≡ sent_with a number o ++ step_ends (step_by a seen l o)
one_step m a number seen l op.None x sends e = refl
one_step m a number seen l (op.Send to bytes) x sends e = ap (λ n. sent_with a n (own_step m a seen x).op) sends ∙ ap (sent_with a number) e
one_step m a number seen l op.Hand x sends e = refl
one_step m a number seen l (op.Free slot) x sends e = refl
one_step m a number seen l (op.Idle vote) x sends e = refl
one_step m a number seen l (op.Kill value) x sends e = refl
one_step m a number seen l (op.Trap why) x sends e = refl

turn_replays : (n : ℕ) (got : ℕ → List Letter) (gone : List Letter) (w : WorldView) (p a k : ℕ) (v : TileView) (new : TileState) (x : BagState) → Listed w.shape → Place w p v a k → steps_of v.plan k n v.now ≡ Some new →
    At a x (shown got gone w) → replay_acts (program_of w) x (turn_steps a k n v) ≡ turn_acts a k n v
unfolding steps_of turn_steps turn_acts
turn_replays zero got gone w p a k v new x o c is e = refl
turn_replays (suc n) got gone w p a k v new x o c is e =
    let first = taken (can_step v.plan.shape.fuel k v.now) (steps_of v.plan k n (stepped v.plan.code k v.now)) new is in
    let mid : WorldView = with_tile w p (after_step k v) in
    let one = step_reached got gone w p a k v c first.0 in
    let there : Place mid p (after_step k v) a k = record {
      good = one.good;
      on = on_new w p v (after_step k v) c.on;
      stands = record { there = c.stands.there; tile = c.stands.tile; place = c.stands.place };
    } in
    let m : Program = program_of w in
    let asked : Op = (step_at_place v.plan.code k v.now).op in
    let number : ℕ = (thread_at v.now k).sends in
    let step : BagStep = step_by a (seen_at v k) (first_letter v k) asked in
    let y : BagState = moved m step x in
    let rest : List BagStep = turn_steps a k n (after_step k v) in
    let ends : List Act = flat_map step_ends (dropped_by (queued v k) asked) in
    let own : (own_step m a (seen_at v k) x).op ≡ asked = ap (λ (r : Stepped). r.op) (own_at m a (seen_at v k) x (shown got gone w) e ∙ own_is got gone w p a k v c) in
    let sends : (x.threads a).sends ≡ number = ap (λ (t : Thread). t.sends) e.thread ∙ read (λ u j. (thread_in u j).sends) w p a k v c in
    let after = at_then a y (moved m step (shown got gone w)) (shown one.now one.gone mid) (moved_at m a (seen_at v k) (first_letter v k) asked x (shown got gone w) e) (step_shows got gone w mid p a k v o c one) in
    let sent : List Act = sent_with a number asked in
    let end : List Act = step_ends step in
    let later : List Act = turn_acts a k n (after_step k v) in
    ap (λ l. l ++ replay_acts m y (dropped_by (queued v k) asked ++ rest)) (one_step m a number (seen_at v k) (first_letter v k) asked x sends own)
    ∙ (ap (λ l. (sent ++ end) ++ l) (dropped m y (queued v k) asked rest
    ∙ ap (λ l. ends ++ l) (ap (λ (q : Program). replay_acts q y rest) (sym one.program) ∙ turn_replays n one.now one.gone mid p a k (after_step k v) new y o there first.1 after))
    ∙ (append_assoc sent end (ends ++ later) ∙ (ap (λ l. sent ++ l) (sym (append_assoc end ends later)) ∙ sym (append_assoc sent (end ++ ends) later))))

turn_is : (w : WorldView) (p : ℕ) (part after_it : PartView) (t : ThreadId) (n : ℕ) → Good w → OnPart w p part → after (event.Turn t n) crossing.None part ≡ Some after_it → thread_of (settled w) t.0 ≡ thread_of w t.0 →
    replay_acts (program_of w) (bag_at w) (part_steps (reach_of w) (event.Turn t n) (Some part)) ≡ event_acts (event.Turn t n) w
turn_is w p (TileV v) after_it t n good on row same =
    let x = mapped TileV (now_by v (turn_row v.plan t.0 n v.now)) after_it row in
    let y = mapped (with_now v) (turn_row v.plan t.0 n v.now) x.0 x.1 in
    let k : ℕ = place_in_tile v.plan.shape t.0 in
    let tests = taken (is_here v.plan t.0 && nat_le 1 n && nat_le n v.plan.shape.turn && can_count v.now) (steps_of v.plan k n v.now) y.0 y.1 in
    let c : Place w p v t.0 k = here_is w p t.0 v good on (first_of_four (is_here v.plan t.0) _ _ _ tests.0) in
    let acts : event_acts (event.Turn t n) w ≡ turn_acts t.0 k n v = ap (λ i. turn_acts t.0 i n (tile_for w t.0)) (c.stands.place) ∙ ap (turn_acts t.0 k n) (tile_is w p v t.0 on (part_is w p t.0 k v good on c.stands)) in
    turn_replays n (λ a. []) [] w p t.0 k v y.0 (bag_at w) (orders_threads w.shape good.limits) c tests.1 (record { thread = same; held = refl }) ∙ sym acts
turn_is w p (RouterV v) after_it t n good on row same = cc row
turn_is w p (LinkV y) after_it t n good on row same = cc row
turn_is w p (HostV h) after_it t n good on row same = cc row
turn_is w p (DetectorV v) after_it t n good on row same = cc row
turn_is w p AbsentV after_it t n good on row same = cc row

-- ---- each event

-- a step that is no send of a thread
abbrev NoSend : BagStep → Type 0
NoSend step = (m : Program) (s : BagState) → acts_of m step s ≡ step_ends step

unsent : (m : Program) (s : BagState) (steps : List BagStep) → AllByRecursion NoSend steps → replay_acts m s steps ≡ flat_map step_ends steps
unsent m s [] all = refl
unsent m s (x ∷ xs) all = ap (λ l. l ++ replay_acts m (moved m x s) xs) (all.0 m s) ∙ ap (λ l. step_ends x ++ l) (unsent m (moved m x s) xs all.1)

beside : HoldsBeside NoSend
beside = record { send = λ l m s. refl; hand = λ l m s. refl; drop = λ l m s. refl }

event_is : (e : Event) (w new : WorldView) → Good w → IsQuietWorld w → happened e w ≡ Some new → replay_acts (program_of w) (bag_at w) (event_steps e w) ≡ event_acts e w
event_is (event.Turn t n) w new g q h =
    let x = by_thread (event.Turn t n) w new (part_of w.shape t) h in
    let steps : event_steps (event.Turn t n) w ≡ part_steps (reach_of w) (event.Turn t n) (Some x.2.before) =
    ap (λ o. steps_at (event.Turn t n) w (at_part o)) x.1 ∙ ap (λ o. part_steps (reach_of w) (event.Turn t n) o) x.2.was in
    ap (replay_acts (program_of w) (bag_at w)) steps ∙ turn_is w x.0 x.2.before x.2.behind t n g (on_read w x.0 x.2.before g x.2.was) x.2.row (turn_settled t n w new g q h)
event_is event.Announce w new g q h = unsent (program_of w) (bag_at w) _ (event_each NoSend beside event.Announce w (λ m s. refl))
event_is (event.Deliver t) w new g q h = unsent (program_of w) (bag_at w) _ (event_each NoSend beside (event.Deliver t) w tt)
event_is (event.Depart p l) w new g q h = unsent (program_of w) (bag_at w) _ (event_each NoSend beside (event.Depart p l) w tt)
event_is (event.Arrive l p) w new g q h = unsent (program_of w) (bag_at w) _ (event_each NoSend beside (event.Arrive l p) w tt)
event_is (event.Route p) w new g q h = unsent (program_of w) (bag_at w) _ (event_each NoSend beside (event.Route p) w tt)
event_is event.HostPut w new g q h = unsent (program_of w) (bag_at w) _ (event_each NoSend beside event.HostPut w tt)
event_is event.HostTake w new g q h = unsent (program_of w) (bag_at w) _ (event_each NoSend beside event.HostTake w tt)
event_is (event.Report p) w new g q h = unsent (program_of w) (bag_at w) _ (event_each NoSend beside (event.Report p) w tt)
event_is event.Begin w new g q h = unsent (program_of w) (bag_at w) _ (event_each NoSend beside event.Begin w tt)
event_is (event.Confirm p) w new g q h = unsent (program_of w) (bag_at w) _ (event_each NoSend beside (event.Confirm p) w tt)
event_is (event.Release p) w new g q h = unsent (program_of w) (bag_at w) _ (event_each NoSend beside (event.Release p) w tt)
event_is (event.Go p) w new g q h = unsent (program_of w) (bag_at w) _ (event_each NoSend beside (event.Go p) w tt)

-- ---- histories

replay_join : (m : Program) (s : BagState) (xs ys : List BagStep) → replay_acts m s (xs ++ ys) ≡ replay_acts m s xs ++ replay_acts m (all_moved m s xs) ys
replay_join m s [] ys = refl
replay_join m s (x ∷ xs) ys = ap (λ l. acts_of m x s ++ l) (replay_join m (moved m x s) xs ys) ∙ sym (append_assoc (acts_of m x s) (replay_acts m (moved m x s) xs) (replay_acts m (all_moved m (moved m x s) xs) ys))

-- what a machine shows has its threads, and what they hold
shows : (got : ℕ → List Letter) (gone : List Letter) (k : ℕ) (w : WorldView) → Agrees w.shape (bag_at w) (state got gone k w)
shows got gone k w = record { threads = λ a h. refl; held = λ a h. sym (ap (λ (b : BagState). b.held a) (bag_is w)) }

walk_acts : (es : List Event) (w end : WorldView) (x : BagState) → Good w → IsQuietWorld w → Walk w es end → Agrees w.shape x (bag_at w) → replay_acts (program_of w) x (bag_of w es) ≡ history_acts w es
walk_acts [] w end x g q walk e = refl
walk_acts (e ∷ es) w end x g q walk a =
    let mid : WorldView = walk.0 in
    let one = event_arrives (λ b. []) [] 0 e w mid g q walk.1 in
    let m : Program = program_of w in
    let steps : List BagStep = event_steps e w in
    let o = orders_threads w.shape g.limits in
    let from : BagState = state (λ b. []) [] 0 w in
    let onto : BagState = state one.now one.gone one.more mid in
    let here = shows (λ b. []) [] 0 w in
    let start = then w.shape x (bag_at w) from a here in
    let made : replay_acts m x steps ≡ event_acts e w =
    sym (run_acts m steps x from onto o start one.run) ∙ (run_acts m steps (bag_at w) from onto o here one.run ∙ event_is e w mid g q walk.1) in
    let y : BagState = all_moved m x steps in
    let back : Agrees w.shape onto (bag_at mid) = record { threads = λ b h. refl; held = λ b h. ap (λ (s : BagState). s.held b) (bag_is mid) } in
    let ends : Agrees w.shape y (bag_at mid) = then w.shape y onto (bag_at mid) (run_moves m steps x from onto o start one.run) back in
    let there : Agrees mid.shape y (bag_at mid) = subst (λ n. Agrees n y (bag_at mid)) (sym (ap (λ (p : Program). p.shape) one.program)) ends in
    let now : List Act = event_acts e w in
    ap (λ (r : Option WorldView). replay_acts m x (steps ++ unwrap_or (option_map (λ u. bag_of u es) r) [])) walk.1
    ∙ (replay_join m x steps (bag_of mid es)
    ∙ (ap (λ l. l ++ replay_acts m y (bag_of mid es)) made
    ∙ (ap (λ (p : Program). now ++ replay_acts p y (bag_of mid es)) (sym one.program)
    ∙ (ap (λ l. now ++ l) (walk_acts es mid end y (event_good e w mid g q walk.1) (event_quiet e w mid g.limits q walk.1) walk.2 there)
    ∙ sym (ap (λ (r : Option WorldView). now ++ unwrap_or (option_map (λ u. history_acts u es) r) []) walk.1)))))

pub every_run_acts : EveryRunActsAsItsHistory
every_run_acts start end history b s run =
    let g = good_start start s in
    run_acts (program_of start) (bag_of start history) (bag_at start) (bag_at start) b.state (orders_threads start.shape g.limits) (agrees_refl start.shape (bag_at start)) b.run
    ∙ walk_acts history start end (bag_at start) g (quiet_start start s g) (run_walk start end history run) (agrees_refl start.shape (bag_at start))

pub every_run_is_in_order : EveryRunIsInOrder
every_run_is_in_order start end history b s run =
    subst (InOrder []) (sym (every_run_acts start end history b s run)) (every_history_is_in_order start end history s (run_walk start end history run)).order
