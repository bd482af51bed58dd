-- The deeds of a history are those of its events at the tiles.
use Rattle.std.proofs.Common.{ℕ, ◌≡◌, ◌∙◌, ◌&&◌, Bool, true, false, IsTrue, List, [], ◌∷◌, ◌++◌, refl, sym, ap, subst, Option, Some, None, option_map, unwrap_or}
use Rattle.std.specs.Prelude.{option_and_then}
use Rattle.std.specs.List.{AllByRecursion, slice_get}
use Rattle.std.proofs.lemmas.Bool.{and_parts, eqb-true}
use Rattle.tn_base.specs.declared.event.Event.{Event}
use Rattle.tn_base.specs.declared.event.Event.TheVariants as event
use Rattle.tn_base.specs.declared.ids.ThreadId.{ThreadId}
use Rattle.tn_base.specs.declared.message.Letter.{Letter}
use Rattle.tn_base.specs.Address.{has_thread, place_in_tile}
use Rattle.tn_base.proofs.Places.{orders_threads}
use Rattle.tn_node.specs.Deed as deed
use Rattle.tn_tile.specs.declared.state.TileState.{TileState}
use Rattle.tn_tile.specs.Rows.{is_here}
use Rattle.tn_tile.specs.Step.{steps_of}
use Rattle.tn_tile.specs.TileView.{TileView, now_by}
use Rattle.tn_tile.proofs.Steps.{taken}
use Rattle.tn_stamp.specs.declared.entry.Crossing.TheVariants as crossing
use Rattle.tn_rows.specs.Events.{after, deed_of, happened, happened_at, tile_did, with_part}
use Rattle.tn_rows.specs.PartView.{PartView, TileV, RouterV, LinkV, HostV, DetectorV, AbsentV}
use Rattle.tn_rows.specs.Places.{at_part, part_of}
use Rattle.tn_rows.specs.Runs.{Walk}
use Rattle.tn_rows.specs.WorldView.{WorldView}
use Rattle.tn_quiet.specs.Law.{IsQuietWorld}
use Rattle.tn_quiet.proofs.Runs.{event_quiet}
use Rattle.tn_letters.specs.declared.steps.BagStep.{BagStep}
use Rattle.tn_letters.specs.Settled.{settled}
use Rattle.tn_letters.specs.Standing.{bag_at}
use Rattle.tn_letters.specs.State.{BagState, Program}
use Rattle.tn_letters.specs.Steps.{bag_of, event_steps, part_steps, steps_at}
use Rattle.tn_letters.specs.Tiles.{program_of, reach_of, thread_of}
use Rattle.tn_letters.proofs.Arrives.{state}
use Rattle.tn_letters.proofs.Calm.{quiet_start}
use Rattle.tn_letters.proofs.Carried.{turn_settled}
use Rattle.tn_letters.proofs.Detected.{alone}
use Rattle.tn_letters.proofs.EventSteps.{HoldsBeside, event_each}
use Rattle.tn_letters.proofs.GoodParts.{event_good}
use Rattle.tn_letters.proofs.Lift.{Good, On, tile_on}
use Rattle.tn_letters.proofs.Meaning.{event_arrives}
use Rattle.tn_letters.proofs.Settling.{bag_is}
use Rattle.tn_letters.proofs.Simulate.{Place}
use Rattle.tn_letters.proofs.Starts.{good_start}
use Rattle.tn_letters.proofs.Walks.{on_read, run_walk}
use Rattle.polite_edges.specs.declared.deed.Deed.{Deed}
use Rattle.polite_edges.specs.Deeds.{added}
use Rattle.polite_edges.specs.Histories.{moved, replayed}
use Rattle.polite_edges.specs.Runs.{deed_at}
use Rattle.polite_edges.proofs.Replaying.{Agrees, agrees_refl, run_replays, then}
use Rattle.polite_log.specs.TileDeeds.{DeedsAreOfTiles, deeds_on, deeds_over, event_deeds, part_deeds}
use Rattle.polite_log.proofs.TileDeeds.{all_moved, run_moves, turn_replays}

some_made : (v : TileView) (f : PartView → WorldView) (o : Option TileState) (new : WorldView) → option_map f (option_map TileV (now_by v o)) ≡ Some new → (s : TileState) × (o ≡ Some s)
some_made v f None new e = cc e
some_made v f (Some s) new e = (s, refl)

first_of_four : (a b c d : Bool) → (a && b && c && d) ≡ true → a ≡ true
first_of_four true b c d e = refl
first_of_four false b c d e = cc e

here_is : (w : WorldView) (p a : ℕ) (v : TileView) → Good w → On w p v → is_here v.plan a ≡ true → Place w p v a (place_in_tile v.plan.shape a)
here_is w p a v good on here =
    let t = tile_on w p v good on in
    let parts = and_parts _ _ here in
    record {
      good = good;
      on = on;
      stands = record { there = subst (λ n. IsTrue (has_thread n a)) t.shape parts.0; tile = eqb-true _ _ parts.1; place = ap (λ n. place_in_tile n a) (sym t.shape) };
    }

-- a turn
turn_part : (deeds : List Deed) (t : ThreadId) (n : ℕ) (w new : WorldView) (p : ℕ) (part : Option PartView) → Good w → slice_get w.parts p ≡ part → option_map (with_part w p) (option_and_then (after (event.Turn t n) crossing.None) part) ≡ Some new →
    thread_of (settled w) t.0 ≡ thread_of w t.0 → replayed deeds (program_of w) (bag_at w) (part_steps (reach_of w) (event.Turn t n) part) ≡ part_deeds deeds t n part
turn_part deeds t n w new p None good here h same = refl
turn_part deeds t n w new p (Some (TileV v)) good here h same =
    let row = some_made v (with_part w p) (tile_did v.plan v.now (deed_of v.plan.shape (event.Turn t n) crossing.None)) new h in
    let yes = taken _ (steps_of v.plan (place_in_tile v.plan.shape t.0) n v.now) row.0 row.1 in
    let c = here_is w p t.0 v good (on_read w p (TileV v) good here) (first_of_four (is_here v.plan t.0) _ _ _ yes.0) in
    turn_replays n deeds (λ a. []) [] w p t.0 (place_in_tile v.plan.shape t.0) v row.0 (bag_at w) (orders_threads w.shape good.limits) c yes.1 (record { thread = same; held = refl })
turn_part deeds t n w new p (Some (RouterV v)) good here h same = refl
turn_part deeds t n w new p (Some (LinkV v)) good here h same = refl
turn_part deeds t n w new p (Some (HostV s)) good here h same = refl
turn_part deeds t n w new p (Some (DetectorV v)) good here h same = refl
turn_part deeds t n w new p (Some AbsentV) good here h same = refl

turn_on : (deeds : List Deed) (t : ThreadId) (n : ℕ) (w new : WorldView) (o : Option ℕ) → Good w → happened_at (event.Turn t n) w (at_part o) ≡ Some new → thread_of (settled w) t.0 ≡ thread_of w t.0 →
    replayed deeds (program_of w) (bag_at w) (steps_at (event.Turn t n) w (at_part o)) ≡ deeds_on deeds t n w o
turn_on deeds t n w new None good h same = refl
turn_on deeds t n w new (Some p) good h same = turn_part deeds t n w new p (slice_get w.parts p) good refl h same

-- a step that is no deed
abbrev NoDeed : BagStep → Type 0
NoDeed step = (m : Program) (s : BagState) → deed_at m step s ≡ None

no_deeds : (deeds : List Deed) (m : Program) (s : BagState) (steps : List BagStep) → AllByRecursion NoDeed steps → replayed deeds m s steps ≡ deeds
no_deeds deeds m s [] all = refl
no_deeds deeds m s (step ∷ steps) all = ap (λ d. replayed (added d deeds) m (moved m step s) steps) (all.0 m s) ∙ no_deeds deeds m (moved m step s) steps all.1

beside : HoldsBeside NoDeed
beside = record { send = λ l m s. refl; hand = λ l m s. refl; drop = λ l m s. refl }

event_replays : (deeds : List Deed) (e : Event) (w new : WorldView) → Good w → IsQuietWorld w → happened e w ≡ Some new → replayed deeds (program_of w) (bag_at w) (event_steps e w) ≡ event_deeds deeds e w
event_replays deeds (event.Turn t n) w new g q h = turn_on deeds t n w new (part_of w.shape t) g h (turn_settled t n w new g q h)
event_replays deeds event.Announce w new g q h =
    let a = alone event.Announce deed.Announce w new g h refl in
    ap (λ (part : Option PartView). replayed deeds (program_of w) (bag_at w) (part_steps (reach_of w) event.Announce part)) a.read
event_replays deeds (event.Deliver t) w new g q h = no_deeds deeds (program_of w) (bag_at w) _ (event_each NoDeed beside (event.Deliver t) w tt)
event_replays deeds (event.Depart p l) w new g q h = no_deeds deeds (program_of w) (bag_at w) _ (event_each NoDeed beside (event.Depart p l) w tt)
event_replays deeds (event.Arrive l p) w new g q h = no_deeds deeds (program_of w) (bag_at w) _ (event_each NoDeed beside (event.Arrive l p) w tt)
event_replays deeds (event.Route p) w new g q h = no_deeds deeds (program_of w) (bag_at w) _ (event_each NoDeed beside (event.Route p) w tt)
event_replays deeds event.HostPut w new g q h = no_deeds deeds (program_of w) (bag_at w) _ (event_each NoDeed beside event.HostPut w tt)
event_replays deeds event.HostTake w new g q h = no_deeds deeds (program_of w) (bag_at w) _ (event_each NoDeed beside event.HostTake w tt)
event_replays deeds (event.Report p) w new g q h = no_deeds deeds (program_of w) (bag_at w) _ (event_each NoDeed beside (event.Report p) w tt)
event_replays deeds event.Begin w new g q h = no_deeds deeds (program_of w) (bag_at w) _ (event_each NoDeed beside event.Begin w tt)
event_replays deeds (event.Confirm p) w new g q h = no_deeds deeds (program_of w) (bag_at w) _ (event_each NoDeed beside (event.Confirm p) w tt)
event_replays deeds (event.Release p) w new g q h = no_deeds deeds (program_of w) (bag_at w) _ (event_each NoDeed beside (event.Release p) w tt)
event_replays deeds (event.Go p) w new g q h = no_deeds deeds (program_of w) (bag_at w) _ (event_each NoDeed beside (event.Go p) w tt)

-- ---- histories

replay_join : (deeds : List Deed) (m : Program) (s : BagState) (xs ys : List BagStep) → replayed deeds m s (xs ++ ys) ≡ replayed (replayed deeds m s xs) m (all_moved m s xs) ys
replay_join deeds m s [] ys = refl
replay_join deeds m s (x ∷ xs) ys = replay_join (added (deed_at m x s) deeds) m (moved m x s) xs ys

-- what a machine shows has its threads, and what they hold
shows : (got : ℕ → List Letter) (gone : List Letter) (k : ℕ) (w : WorldView) → Agrees w.shape (bag_at w) (state got gone k w)
shows got gone k w = record { threads = λ a h. refl; held = λ a h. sym (ap (λ (b : BagState). b.held a) (bag_is w)) }

walk_replays : (deeds : List Deed) (es : List Event) (w end : WorldView) (x : BagState) → Good w → IsQuietWorld w → Walk w es end → Agrees w.shape x (bag_at w) → replayed deeds (program_of w) x (bag_of w es) ≡ deeds_over deeds w es
walk_replays deeds [] w end x g q walk e = refl
walk_replays deeds (e ∷ es) w end x g q walk a =
    let mid : WorldView = walk.0 in
    let one = event_arrives (λ b. []) [] 0 e w mid g q walk.1 in
    let m : Program = program_of w in
    let steps : List BagStep = event_steps e w in
    let o = orders_threads w.shape g.limits in
    let from : BagState = state (λ b. []) [] 0 w in
    let onto : BagState = state one.now one.gone one.more mid in
    let here = shows (λ b. []) [] 0 w in
    let start = then w.shape x (bag_at w) from a here in
    let made : replayed deeds m x steps ≡ event_deeds deeds e w =
    sym (run_replays m steps x from onto deeds o start one.run)
    ∙ (run_replays m steps (bag_at w) from onto deeds o here one.run ∙ event_replays deeds e w mid g q walk.1) in
    let y : BagState = all_moved m x steps in
    let back : Agrees w.shape onto (bag_at mid) = record { threads = λ b h. refl; held = λ b h. ap (λ (s : BagState). s.held b) (bag_is mid) } in
    let ends : Agrees w.shape y (bag_at mid) = then w.shape y onto (bag_at mid) (run_moves m steps x from onto o start one.run) back in
    let there : Agrees mid.shape y (bag_at mid) = subst (λ n. Agrees n y (bag_at mid)) (sym (ap (λ (p : Program). p.shape) one.program)) ends in
    let now : List Deed = event_deeds deeds e w in
    ap (λ (r : Option WorldView). replayed deeds m x (steps ++ unwrap_or (option_map (λ u. bag_of u es) r) [])) walk.1
    ∙ (replay_join deeds m x steps (bag_of mid es)
    ∙ (ap (λ ds. replayed ds m y (bag_of mid es)) made
    ∙ (ap (λ (p : Program). replayed now p y (bag_of mid es)) (sym one.program)
    ∙ (walk_replays now es mid end y (event_good e w mid g q walk.1) (event_quiet e w mid g.limits q walk.1) walk.2 there
    ∙ sym (ap (λ (r : Option WorldView). unwrap_or (option_map (λ u. deeds_over now u es) r) now) walk.1)))))

pub deeds_are_of_tiles : DeedsAreOfTiles
deeds_are_of_tiles start history end s run =
    let g = good_start start s in
    sym (walk_replays [] history start end (bag_at start) g (quiet_start start s g) (run_walk start end history run) (agrees_refl start.shape (bag_at start)))
