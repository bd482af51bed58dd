-- The law of edges for the histories of machines.
use Rattle.std.proofs.Common.{ℕ, zero, suc, ◌≤◌, ◌≡◌, ◌∙◌, List, [], ◌∷◌, get_or, map, refl, sym, ap, subst, arith, IsTrue}
use Rattle.std.proofs.lemmas.Bool.{cond_both}
use Rattle.tn_base.specs.declared.event.Event.{Event}
use Rattle.tn_base.specs.declared.shape.ShapeNumbers.{ShapeNumbers}
use Rattle.tn_base.specs.Address.{has_thread, place_in_tile, tile_threads}
use Rattle.tn_base.proofs.Limits.{within_limits}
use Rattle.tn_base.proofs.Places.{orders_threads}
use Rattle.tn_base.proofs.TilePlaces.{place_below}
use Rattle.tn_detect.specs.Notes.{value_of}
use Rattle.tn_quiet.specs.Law.{IsQuietWorld}
use Rattle.tn_quiet.proofs.Runs.{event_quiet}
use Rattle.tn_rows.specs.PartView.{PartView, TileV, RouterV, LinkV, HostV, DetectorV, AbsentV}
use Rattle.tn_rows.specs.Runs.{Walk}
use Rattle.tn_rows.specs.WorldView.{WorldView}
use Rattle.tn_thread.specs.declared.thread.Thread.{Thread}
use Rattle.tn_thread.specs.Step.{is_idle}
use Rattle.tn_tile.specs.Rows.{told}
use Rattle.tn_tile.specs.Step.{no_thread}
use Rattle.tn_rows.specs.Visited.{released_part}
use Rattle.tn_letters.specs.Law.{IsBagRun}
use Rattle.tn_letters.specs.Settled.{detector_on, settled}
use Rattle.tn_letters.specs.Standing.{bag_at}
use Rattle.tn_letters.specs.State.{Program}
use Rattle.tn_letters.specs.Steps.{bag_of}
use Rattle.tn_letters.specs.Tiles.{part_for, program_of, thread_in, thread_of, tile_in}
use Rattle.tn_letters.proofs.Calm.{quiet_start}
use Rattle.tn_letters.proofs.Empty.{seat}
use Rattle.tn_letters.proofs.GoodParts.{event_good, walk_good}
use Rattle.tn_letters.proofs.Lift.{Good, GoodTile, tile_on}
use Rattle.tn_letters.proofs.Meaning.{bag_run, event_arrives}
use Rattle.tn_letters.proofs.Settling.{settled_stays}
use Rattle.tn_letters.proofs.Starts.{good_start}
use Rattle.tn_letters.proofs.Walks.{run_walk}
use Rattle.polite_edges.specs.Deeds.{Lawful}
use Rattle.polite_edges.specs.Histories.{EveryHistoryHasEachSendOnce, EveryHistoryIsEven, EveryHistoryIsLawful, GraphHistory, history_deeds}
use Rattle.polite_edges.specs.Layout.{Layout}
use Rattle.polite_edges.specs.Runs.{GraphRun, deeds_of}
use Rattle.polite_edges.specs.VertexLog.{EvenAtRest}
use Rattle.polite_edges.proofs.Law.{every_log_is_even, every_run_is_lawful}
use Rattle.polite_edges.proofs.Once.{once_at_rest}
use Rattle.polite_edges.proofs.Replaying.{agrees_refl, run_replays}

-- a release leaves what a thread counted
map_told : (value : ℕ) (ts : List Thread) (k : ℕ) → get_or (map (told value) ts) k no_thread ≡ told value (get_or ts k no_thread)
map_told value [] k = refl
map_told value (t ∷ ts) zero = refl
map_told value (t ∷ ts) (suc k) = map_told value ts k

told_steps : (value : ℕ) (t : Thread) → (told value t).steps ≡ t.steps
told_steps value t = cond_both (is_idle t.state) _ _ (λ (u : Thread). u.steps ≡ t.steps) (λ e. refl) (λ e. refl)

part_steps : (k value : ℕ) (x : PartView) → (thread_in (tile_in (released_part value x)) k).steps ≡ (thread_in (tile_in x) k).steps
part_steps k value (TileV v) = ap (λ (t : Thread). t.steps) (map_told value v.now.threads k) ∙ told_steps value (get_or v.now.threads k no_thread)
part_steps k value (RouterV v) = refl
part_steps k value (LinkV v) = refl
part_steps k value (HostV s) = refl
part_steps k value (DetectorV v) = refl
part_steps k value AbsentV = refl

settled_steps : (w : WorldView) (a : ℕ) → (thread_of (settled w) a).steps ≡ (thread_of w a).steps
settled_steps w a = settled_stays (λ x. (thread_in (tile_in x) (place_in_tile w.shape a)).steps) (detector_on w).phase (value_of (detector_on w).answer) w.parts (part_for w a) (part_steps (place_in_tile w.shape a))

-- each thread made no more steps than its fuel
few_steps : (w : WorldView) (a : ℕ) → Good w → IsTrue (has_thread w.shape a) → (thread_of w a).steps ≤ w.shape.fuel
few_steps w a g there =
    let t = seat w a g there in
    let good : GoodTile w.shape (part_for w a) t.tile = tile_on w (part_for w a) t.tile g t.on in
    let is = good.shaped.fits.threads.each (place_in_tile w.shape a) (subst (λ (n : ShapeNumbers). suc (place_in_tile w.shape a) ≤ tile_threads n) (sym good.shape) (place_below w.shape a there)) in
    let steps = is.steps in
    let same = ap (λ (x : Thread). x.steps) t.thread in
    let fuel = ap (λ (n : ShapeNumbers). n.fuel) good.shape in
    omega arith

-- no event changes the shape
walk_shape : (es : List Event) (w end : WorldView) → Good w → IsQuietWorld w → Walk w es end → end.shape ≡ w.shape
walk_shape [] w end g q walk = ap (λ (x : WorldView). x.shape) (sym walk)
walk_shape (e ∷ es) w end g q walk =
    walk_shape es walk.0 end (event_good e w walk.0 g q walk.1) (event_quiet e w walk.0 g.limits q walk.1) walk.2
    ∙ ap (λ (m : Program). m.shape) (event_arrives (λ b. []) [] 0 e w walk.0 g q walk.1).program

-- a history of the machine of a graph is a run of the bag machine of the graph
graph_run : (g : Layout) (start end : WorldView) (history : List Event) → GraphHistory g start end history → (b : IsBagRun start history end) → GraphRun g (program_of start) (bag_at start) b.state (bag_of start history)
graph_run g start end history h b =
    let good = good_start start h.start_is in
    let quiet = quiet_start start h.start_is good in
    let walk = run_walk start end history h.run in
    let ends = walk_good history start end good quiet walk in
    let shape : g.shape ≡ end.shape = sym h.begins.shape ∙ sym (walk_shape history start end good quiet walk) in
    record {
      placed = h.placed;
      routed = h.routed;
      begins = h.begins;
      run = b.run;
      few = record {
        few = λ a has.
            let there = subst (λ (n : ShapeNumbers). IsTrue (has_thread n a)) shape has in
            let x = few_steps end a ends there in
            let y = settled_steps end a in
            let z = ap (λ (t : Thread). t.steps) (b.shows.threads a there) in
            let f = ends.limits.fuel in
            omega arith;
      };
    }

deeds_are : (g : Layout) (start end : WorldView) (history : List Event) → (h : GraphHistory g start end history) → (b : IsBagRun start history end) → deeds_of g (program_of start) (bag_at start) b.state (bag_of start history) (graph_run g start end history h b) ≡ history_deeds start history
unfolding graph_run
deeds_are g start end history h b = run_replays (program_of start) (bag_of start history) (bag_at start) (bag_at start) b.state [] (orders_threads start.shape (within_limits start.shape h.start_is.shape)) (agrees_refl start.shape (bag_at start)) b.run

pub every_history_is_lawful : EveryHistoryIsLawful
every_history_is_lawful g start end history h =
    let b = bag_run start history end h.start_is h.run in
    subst (λ ds. Lawful g ds) (deeds_are g start end history h b) (every_run_is_lawful g (program_of start) (bag_at start) b.state (bag_of start history) (graph_run g start end history h b))

pub every_history_is_even : EveryHistoryIsEven
every_history_is_even g start end history h =
    let b = bag_run start history end h.start_is h.run in
    subst (λ ds. EvenAtRest g ds) (deeds_are g start end history h b) (every_log_is_even g (program_of start) (bag_at start) b.state (bag_of start history) (graph_run g start end history h b))

pub every_history_once : EveryHistoryHasEachSendOnce
every_history_once g start end history h apart = once_at_rest g apart (history_deeds start history) (every_history_is_even g start end history h)
